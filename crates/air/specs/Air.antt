-- The air, the record of all broadcasts, and a frame written into lent bytes: document 01, "Frames and the air". Assumes nothing.
use Rattle.std.specs.Prelude.{ℕ, ◌*◌, List, ◌++◌, Bool, cond, not, ◌&&◌, length, take, drop, ltb, eqb}
use Rattle.frame.specs.Layout.{bytes_of}
use Rattle.frame.specs.Refusals.{bad_length, frame_refusal}
use Rattle.frame.specs.declared.Frame.{Frame}

-- 13. "Air not 65,536 bytes."
abbrev pub bad_air : List ℕ → Bool
bad_air air = not (eqb (length air) 65536)

-- 25. "Frame k not on the air": fewer frames were broadcast, or the air has no 32 bytes at 32 × k
abbrev pub not_on_air : ℕ → ℕ → Bool
not_on_air frames k = not (ltb k frames && ltb k 2048)

-- "frame k fills bytes 32×k to 32×k+31 of the air", and so of other lent bytes
abbrev pub stretch_at : List ℕ → ℕ → List ℕ
stretch_at bytes k = take 32 (drop (32 * k) bytes)

-- ---- a frame written as frame k of lent bytes: of the air, or of a buffer, from frame 0 on

-- 6 where they have no 32 bytes at 32 × k ("Frame, or the buffer for one, not 32 bytes"), 7 to 11 of the frame, or 0
unfoldable pub place_refusal : List ℕ → ℕ → Frame → ℕ
place_refusal bytes k f = cond (bad_length (stretch_at bytes k)) 6 (frame_refusal f)

-- the bytes with those of a frame in the place of their own from 32 × k on
unfoldable pub placed : List ℕ → ℕ → List ℕ → List ℕ
placed bytes k frame = take (32 * k) bytes ++ (frame ++ drop 32 (drop (32 * k) bytes))

-- the bytes after f is written as their frame k, or as they were where that is refused
unfoldable pub frames_with : List ℕ → ℕ → Frame → List ℕ
frames_with bytes k f = cond (eqb (place_refusal bytes k f) 0) (placed bytes k (bytes_of f)) bytes
