-- A frame as 22 numbers, for C and Rust: what reading puts there and what writing takes from there. Assumes nothing.
use Rattle.std.specs.Prelude.{ℕ, ◌+◌, ◌*◌, ◌<◌, List, [], ◌∷◌, map, Bool, cond, not, length, get_or, ltb, eqb}
use Rattle.frame.specs.Lanes.{lanes}
use Rattle.frame.specs.Layout.{entry_of, joined}
use Rattle.frame.specs.Refusals.{read_refusal}
use Rattle.frame.specs.ReadWrite.{write_refusal, read_of, written}
use Rattle.frame.specs.declared.Entry.{Entry}
use Rattle.frame.specs.declared.Frame.{Frame}

-- the two fields of an entry: serial, stamp
abbrev pub entry_fields : Entry → List ℕ
entry_fields e = e.serial.0 ∷ e.stamp.0 ∷ []

-- the 22 fields: kind, sender, lane, serial, stamp, word, and then each lane's entry
unfoldable pub fields_of : Frame → List ℕ
fields_of f =
    f.kind ∷ f.sender ∷ f.lane ∷ f.serial.0 ∷ f.stamp.0 ∷ f.word
    ∷ joined (map (λ (lane : ℕ). entry_fields (entry_of f lane)) lanes)

-- field i
abbrev pub field_at : List ℕ → ℕ → ℕ
field_at fields i = get_or fields i 0

-- a number as one byte: one over 255 counts as 255, which every refusal of such a field meets
abbrev pub byte_of : ℕ → ℕ
byte_of number = cond (ltb number 256) number 255

-- field i as one byte
abbrev pub byte_field_at : List ℕ → ℕ → ℕ
byte_field_at fields i = byte_of (field_at fields i)

-- the entry in fields i and i + 1: serial, stamp
abbrev pub entry_from : List ℕ → ℕ → Entry
entry_from fields i = record { serial = record { 0 = byte_field_at fields i }; stamp = record { 0 = field_at fields (i + 1) } }

abbrev pub entries_from : List ℕ → List Entry
entries_from fields = map (λ (lane : ℕ). entry_from fields (6 + 2 * lane)) lanes

-- the frame that 22 fields make
unfoldable pub frame_from : List ℕ → Frame
frame_from fields = record {
  kind = byte_field_at fields 0;
  sender = byte_field_at fields 1;
  lane = byte_field_at fields 2;
  serial = record { 0 = byte_field_at fields 3 };
  stamp = record { 0 = field_at fields 4 };
  word = field_at fields 5;
  entries = entries_from fields;
}

-- 6, of fields: they are the frame, or the buffer for one, and not 22 numbers
abbrev pub bad_count : List ℕ → Bool
bad_count fields = not (eqb (length fields) 22)

-- the refusal of bytes that are to be read into fields, or 0
unfoldable pub fields_read_refusal : List ℕ → List ℕ → ℕ
fields_read_refusal bytes fields = cond (bad_count fields) 6 (read_refusal bytes)

-- the fields after reading: those of the frame, or what they were where the reader refuses
unfoldable pub fields_read : List ℕ → List ℕ → List ℕ
fields_read bytes fields = cond (eqb (fields_read_refusal bytes fields) 0) (fields_of (read_of bytes).frame) fields

-- the refusal of fields that are to be written into a buffer, or 0
unfoldable pub fields_write_refusal : List ℕ → List ℕ → ℕ
fields_write_refusal fields buffer = cond (bad_count fields) 6 (write_refusal buffer (frame_from fields))

-- the buffer after writing: the frame's bytes, or what it held where the writer refuses
unfoldable pub fields_written : List ℕ → List ℕ → List ℕ
fields_written fields buffer = cond (bad_count fields) buffer (written buffer (frame_from fields))

-- what every value of the type `Frame` has: bytes in its fields of one byte
pub record ByteFields (f : Frame) : Type 0 where
  pub kind : f.kind < 256
  pub sender : f.sender < 256
  pub lane : f.lane < 256
  pub serial : f.serial.0 < 256
  pub serials : (lane : ℕ) → (entry_of f lane).serial.0 < 256
