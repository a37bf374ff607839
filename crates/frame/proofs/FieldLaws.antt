-- Laws that the proofs of the functions over 22 fields cite. Assumes nothing.
use mathlib.Core.Path.{◌≡◌, refl, sym, subst, ap, ◌∙◌}
use mathlib.Core.Bool.{true, false, not}
use mathlib.Core.List.{List}
use Prim.Native.Nat.{ℕ, zero, suc, ◌+◌, ◌*◌}
use native.Mathlib.Numerals.{add-one}
use borrow.Author.Tests.{eq-eqb, ne_eqb}
use lib.ListN.{length, set}
use Rattle.frame.specs.Layout.{entry_of}
use Rattle.frame.specs.Refusals.{read_refusal}
use Rattle.frame.specs.ReadWrite.{write_refusal, read_of, written}
use Rattle.frame.specs.Fields.{fields_of, frame_from, bad_count, fields_read_refusal, fields_read, fields_write_refusal, fields_written}
use Rattle.frame.specs.declared.Frame.{Frame}
use Rattle.frame.specs.FrameRead.{FrameRead}
use Rattle.frame.proofs.Laws.{read_number}
use Rattle.frame.proofs.RoundTrip.{tabulate, tabulated}

-- the fields once those before the entries are put
abbrev pub start_fields_put : Frame → List ℕ → List ℕ
start_fields_put f l = set (set (set (set (set (set l 0 f.kind) 1 f.sender) 2 f.lane) 3 f.serial.0) 4 f.stamp.0) 5 f.word

-- and once those of the lanes below n are put
unfoldable pub fields_put_below : Frame → List ℕ → ℕ → List ℕ
fields_put_below f l zero = l
fields_put_below f l (suc n) = set (set (fields_put_below f l n) (6 + 2 * n) (entry_of f n).serial.0) (6 + 2 * n + 1) (entry_of f n).stamp.0

pub fields_put_more : (f : Frame) (start l : List ℕ) (n : ℕ) → l ≡ fields_put_below f start n
    → set (set l (6 + 2 * n) (entry_of f n).serial.0) (6 + 2 * n + 1) (entry_of f n).stamp.0 ≡ fields_put_below f start (n + 1)
unfolding fields_put_below
fields_put_more f start l n e = rw (add-one n, e)

every_field : (f : Frame) (old : ℕ → ℕ) → fields_put_below f (start_fields_put f (tabulate 22 old)) 8 ≡ fields_of f
unfolding fields_put_below tabulate fields_of
every_field f old = refl

pub fields_put_all : (f : Frame) (l : List ℕ) → length l ≡ 22 → fields_put_below f (start_fields_put f l) 8 ≡ fields_of f
fields_put_all f l e = subst (λ (k : List ℕ). fields_put_below f (start_fields_put f k) 8 ≡ fields_of f) (tabulated 0 l 22 e) (every_field f _)

-- refusal 6, of fields
not_22 : (l : List ℕ) → (length l ≡ 22 → ⊥) → bad_count l ≡ true
not_22 l h = ap not (ne_eqb (length l) 22 h)

is_22 : (l : List ℕ) → length l ≡ 22 → bad_count l ≡ false
is_22 l e = ap not (eq-eqb (length l) 22 e)

-- the ways through `drift_frame_read`
pub fields_read_short : (bytes fields : List ℕ) → (length fields ≡ 22 → ⊥)
    → (6 ≡ fields_read_refusal bytes fields) × (fields ≡ fields_read bytes fields)
unfolding fields_read_refusal fields_read
fields_read_short bytes fields h = (rw (not_22 fields h), rw (not_22 fields h))

judged_as_read : (bytes fields : List ℕ) → length fields ≡ 22 → fields_read_refusal bytes fields ≡ read_refusal bytes
unfolding fields_read_refusal
judged_as_read bytes fields l = rw (is_22 fields l)

pub fields_read_refused : (bytes fields : List ℕ) (n : ℕ) → length fields ≡ 22 → n ≡ read_refusal bytes → (n ≡ 0 → ⊥)
    → (n ≡ fields_read_refusal bytes fields) × (fields ≡ fields_read bytes fields)
unfolding fields_read
fields_read_refused bytes fields n l e h =
    let j = judged_as_read bytes fields l ∙ sym e in
    (sym j, rw (j, ne_eqb n 0 h))

pub fields_read_accepted : (bytes fields exit : List ℕ) (f : Frame) → length fields ≡ 22 → ◌≡◌ {A = FrameRead} (record { refusal = 0; frame = f }) (read_of bytes)
    → exit ≡ fields_of f
    → (0 ≡ fields_read_refusal bytes fields) × (exit ≡ fields_read bytes fields)
unfolding fields_read
fields_read_accepted bytes fields exit f l v q =
    let j = judged_as_read bytes fields l ∙ sym (read_number bytes _ v) in
    (sym j, rw (j, ← ap (λ (r : FrameRead). r.frame) v) q)

-- the ways through `drift_frame_write`
pub fields_write_short : (fields buffer : List ℕ) → (length fields ≡ 22 → ⊥)
    → (6 ≡ fields_write_refusal fields buffer) × (buffer ≡ fields_written fields buffer)
unfolding fields_write_refusal fields_written
fields_write_short fields buffer h = (rw (not_22 fields h), rw (not_22 fields h))

pub fields_write_judged : (fields buffer exit : List ℕ) (f : Frame) (n : ℕ) → length fields ≡ 22 → f ≡ frame_from fields
    → n ≡ write_refusal buffer f → exit ≡ written buffer f
    → (n ≡ fields_write_refusal fields buffer) × (exit ≡ fields_written fields buffer)
unfolding fields_write_refusal fields_written
fields_write_judged fields buffer exit f n l e p q = (rw (is_22 fields l, ← e) p, rw (is_22 fields l, ← e) q)
