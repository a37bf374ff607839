-- The layout of a frame, 32 bytes, big-endian: document 01, "Frames and the air". Assumes nothing.
-- `frame_of` says which field each byte belongs to, `bytes_of` which byte each field gives.
use Rattle.std.specs.Prelude.{ℕ, ◌+◌, ◌*◌, ◌/◌, ◌%◌, List, [], ◌∷◌, ◌++◌, map, get_or, replicate}
use Rattle.frame.specs.Lanes.{lanes}
use Rattle.frame.specs.declared.Entry.{Entry}
use Rattle.frame.specs.declared.Frame.{Frame}

-- byte i
abbrev pub byte_at : List ℕ → ℕ → ℕ
byte_at bytes i = get_or bytes i 0

-- the number in bytes i and i + 1, big-endian
abbrev pub pair_at : List ℕ → ℕ → ℕ
pair_at bytes i = 256 * byte_at bytes i + byte_at bytes (i + 1)

-- the entry in bytes i to i + 2: serial, stamp
abbrev pub entry_at : List ℕ → ℕ → Entry
entry_at bytes i = record { serial = record { 0 = byte_at bytes i }; stamp = record { 0 = pair_at bytes (i + 1) } }

-- "From 8, for lanes 0 to 7, three bytes each"
abbrev pub entries_of : List ℕ → List Entry
entries_of bytes = map (λ (lane : ℕ). entry_at bytes (8 + 3 * lane)) lanes

-- the frame that 32 bytes lay out
unfoldable pub frame_of : List ℕ → Frame
frame_of bytes = record {
  kind = byte_at bytes 0;
  sender = byte_at bytes 1;
  lane = byte_at bytes 2;
  serial = record { 0 = byte_at bytes 3 };
  stamp = record { 0 = pair_at bytes 4 };
  word = pair_at bytes 6;
  entries = entries_of bytes;
}

-- "all zero is none"
abbrev pub no_entry : Entry
no_entry = record { serial = record { 0 = 0 }; stamp = record { 0 = 0 } }

-- what stands where there is no frame: 0 in every field
abbrev pub no_frame : Frame
no_frame = record {
  kind = 0;
  sender = 0;
  lane = 0;
  serial = record { 0 = 0 };
  stamp = record { 0 = 0 };
  word = 0;
  entries = replicate 8 no_entry;
}

-- a frame's entry of a lane
abbrev pub entry_of : Frame → ℕ → Entry
entry_of f lane = get_or f.entries lane no_entry

-- the two bytes of a 16-bit number, big-endian
abbrev pub pair_bytes : ℕ → List ℕ
pair_bytes n = n / 256 % 256 ∷ n % 256 ∷ []

-- the three bytes of an entry: serial, stamp
abbrev pub entry_bytes : Entry → List ℕ
entry_bytes e = e.serial.0 ∷ pair_bytes e.stamp.0

-- lists one after another
abbrev pub joined : List (List ℕ) → List ℕ
joined [] = []
joined (l ∷ ls) = l ++ joined ls

-- the bytes of each field in turn, and then of each lane's entry
abbrev pub field_bytes : Frame → List (List ℕ)
field_bytes f =
    (f.kind ∷ [])
    ∷ (f.sender ∷ [])
    ∷ (f.lane ∷ [])
    ∷ (f.serial.0 ∷ [])
    ∷ pair_bytes f.stamp.0
    ∷ pair_bytes f.word
    ∷ map (λ (lane : ℕ). entry_bytes (entry_of f lane)) lanes

-- the 32 bytes that a frame lays out
unfoldable pub bytes_of : Frame → List ℕ
bytes_of f = joined (field_bytes f)
