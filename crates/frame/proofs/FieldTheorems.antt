-- Fields and frames both ways, and so fields and bytes. Assumes nothing.
-- `ByteFields f`, `AreBytes l` and `AreNumbers l` are what every value of the types `Frame`, `&[u8]` and `&[u16]` has.
use mathlib.Core.Path.{◌≡◌, refl, sym, ◌∙◌}
use mathlib.Core.Bool.{Bool, true, false, cond}
use mathlib.Core.List.{List, [], ◌∷◌, map}
use Prim.Native.Nat.{ℕ, zero, suc, ◌+◌, ◌*◌, ◌<◌}
use native.Mathlib.Omega.{arith}
use borrow.Author.Tests.{lt-ltb, eqb-true, not-false}
use lib.Dec.{ltb, lit<}
use lib.ListN.{length, get_or}
use Rattle.frame.specs.Lanes.{lanes}
use Rattle.frame.specs.Layout.{no_entry, frame_of}
use Rattle.frame.specs.Types.{Typed, AreBytes}
use Rattle.frame.specs.Refusals.{frame_refusal, read_refusal}
use Rattle.frame.specs.ReadWrite.{write_refusal, read_of, written}
use Rattle.frame.specs.Fields.{ByteFields, fields_of, field_at, entry_from, entries_from, frame_from, bad_count, fields_read_refusal, fields_read, fields_write_refusal, fields_written}
use Rattle.frame.specs.declared.Entry.{Entry}
use Rattle.frame.specs.declared.Frame.{Frame}
use Rattle.frame.proofs.Accepted.{below_255}
use Rattle.frame.proofs.FieldLaws.{fields_read_accepted, fields_write_judged}
use Rattle.frame.proofs.Laws.{passed, writable}
use Rattle.frame.proofs.RoundTrip.{tabulate, tabulated}
use Rattle.frame.proofs.Theorems.{reads_back, writes_back}

-- a byte counts as itself, and what counts as less than 255 is a byte
as_byte : (n : ℕ) → n < 256 → cond (ltb n 256) n 255 ≡ n
as_byte n h = rw (lt-ltb n 256 h)

was_byte : (n : ℕ) → cond (ltb n 256) n 255 < 255 → cond (ltb n 256) n 255 ≡ n
was_byte n h = go (ltb n 256) h
  where
    go : (t : Bool) → cond t n 255 < 255 → cond t n 255 ≡ n
    go true h = refl
    go false h = absurd (omega arith)

entries_from_fields : (f : Frame) → ByteFields f → length f.entries ≡ 8 → entries_from (fields_of f) ≡ f.entries
unfolding fields_of tabulate
entries_from_fields f h e = simp (as_byte, h.serials) (tabulated no_entry f.entries 8 e)

-- a frame is made again of its fields
pub frame_fields : (f : Frame) → ByteFields f → length f.entries ≡ 8 → frame_from (fields_of f) ≡ f
unfolding frame_from fields_of
frame_fields f h e =
    rw (as_byte f.kind h.kind, as_byte f.sender h.sender, as_byte f.lane h.lane, as_byte f.serial.0 h.serial, entries_from_fields f h e)

-- and so is the frame that bytes lay out
pub bytes_fields : (bytes : List ℕ) → AreBytes bytes → frame_from (fields_of (frame_of bytes)) ≡ frame_of bytes
unfolding frame_from fields_of frame_of
bytes_fields bytes h = simp (as_byte, h)

-- fields that make a frame without a refusal are the fields of that frame
pub accepted_fields : (fields : List ℕ) → length fields ≡ 22 → frame_refusal (frame_from fields) ≡ 0 → fields_of (frame_from fields) ≡ fields
unfolding fields_of frame_from tabulate
accepted_fields fields l e =
    let b = below_255 (frame_from fields) e in
    rw (
      was_byte (field_at fields 0) b.kind,
      was_byte (field_at fields 1) b.sender,
      was_byte (field_at fields 2) b.lane,
      was_byte (field_at fields 3) b.serial,
      was_byte (field_at fields 6) (b.serials 0 (lit< tt)),
      was_byte (field_at fields 8) (b.serials 1 (lit< tt)),
      was_byte (field_at fields 10) (b.serials 2 (lit< tt)),
      was_byte (field_at fields 12) (b.serials 3 (lit< tt)),
      was_byte (field_at fields 14) (b.serials 4 (lit< tt)),
      was_byte (field_at fields 16) (b.serials 5 (lit< tt)),
      was_byte (field_at fields 18) (b.serials 6 (lit< tt)),
      was_byte (field_at fields 20) (b.serials 7 (lit< tt)),
    ) (tabulated 0 fields 22 l)

fields_length : (f : Frame) → length (fields_of f) ≡ 22
unfolding fields_of
fields_length f = refl

-- bytes that are accepted, read into fields: writing these gives the bytes
pub fields_write_back : (bytes fields buffer : List ℕ) → AreBytes bytes → length buffer ≡ 32 → fields_read_refusal bytes fields ≡ 0
    → (fields_write_refusal (fields_read bytes fields) buffer ≡ 0) × (fields_written (fields_read bytes fields) buffer ≡ bytes)
unfolding read_of fields_read fields_read_refusal
fields_write_back bytes fields buffer h l e =
    let read = (passed (bad_count fields) 6 (read_refusal bytes) (omega arith) e).1 in
    let back = writes_back bytes buffer h l read in
    let f = frame_of bytes in
    let same : frame_from (fields_of f) ≡ f = bytes_fields bytes h in
    let j = fields_write_judged (fields_of f) buffer (written buffer f) f (write_refusal buffer f) (fields_length f) (sym same) refl refl in
    rw (e, read) (sym j.0 ∙ rw read at back.0, sym j.1 ∙ rw read at back.1)

-- what every value of the type `&[u16]` has
abbrev pub AreNumbers : List ℕ → Type 0
AreNumbers l = (i : ℕ) → field_at l i < 65536

mapped_stamps : (entry : ℕ → Entry) (l : List ℕ) → ((i : ℕ) → (entry i).stamp.0 < 65536) → (lane : ℕ)
    → (get_or (map entry l) lane no_entry).stamp.0 < 65536
mapped_stamps entry [] h lane = omega arith
mapped_stamps entry (i ∷ l) h zero = h i
mapped_stamps entry (i ∷ l) h (suc lane) = mapped_stamps entry l h lane

fields_fit : (fields : List ℕ) → AreNumbers fields → Typed (frame_from fields)
unfolding frame_from
fields_fit fields h = record {
  stamp = h 4;
  word = h 5;
  count = refl;
  stamps = mapped_stamps (λ (lane : ℕ). entry_from fields (6 + 2 * lane)) lanes (λ lane. h (6 + 2 * lane + 1));
}

-- fields that are accepted, written as bytes: reading these gives the fields
pub fields_read_back : (fields buffer other : List ℕ) → AreNumbers fields → length other ≡ 22 → fields_write_refusal fields buffer ≡ 0
    → (fields_read_refusal (fields_written fields buffer) other ≡ 0) × (fields_read (fields_written fields buffer) other ≡ fields)
unfolding read_of fields_write_refusal fields_written
fields_read_back fields buffer other h l e =
    let f = frame_from fields in
    let fits = fields_fit fields h in
    let wrote = passed (bad_count fields) 6 (write_refusal buffer f) (omega arith) e in
    let count : length fields ≡ 22 = eqb-true (length fields) 22 (not-false _ wrote.0) in
    let same = accepted_fields fields count (writable buffer f wrote.1).1 in
    let j = fields_read_accepted (written buffer f) other fields f l (sym (reads_back buffer f fits wrote.1)) (sym same) in
    rw wrote.0 (sym j.0, sym j.1)
