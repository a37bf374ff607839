-- Refusals 6 to 11, each as document 01 words it, and which of them wins. Assumes nothing.
use Rattle.std.specs.Prelude.{ℕ, List, Bool, cond, not, ◌&&◌, ◌||◌, length, ltb, eqb}
use Rattle.frame.specs.Lanes.{any_below}
use Rattle.frame.specs.Layout.{frame_of, entry_of}
use Rattle.frame.specs.declared.Entry.{Entry}
use Rattle.frame.specs.declared.Frame.{Frame}

-- 6. "Frame, or the buffer for one, not 32 bytes."
abbrev pub bad_length : List ℕ → Bool
bad_length bytes = not (eqb (length bytes) 32)

-- 7. "Kind neither 1 nor 2."
abbrev pub bad_kind : Frame → Bool
bad_kind f = not (eqb f.kind 1) && not (eqb f.kind 2)

-- 8. "Beacon with a nonzero byte in 2–7": these bytes are its lane, serial, stamp and word (`beacon_bytes` proves it).
abbrev pub bad_beacon : Frame → Bool
bad_beacon f =
    eqb f.kind 2 && (not (eqb f.lane 0) || not (eqb f.serial.0 0) || not (eqb f.stamp.0 0) || not (eqb f.word 0))

-- 9. "Order frame with lane over 7, serial 0 or over 16, or stamp 0."
abbrev pub bad_order : Frame → Bool
bad_order f = eqb f.kind 1 && (ltb 7 f.lane || eqb f.serial.0 0 || ltb 16 f.serial.0 || eqb f.stamp.0 0)

-- 10. "Sender over 7."
abbrev pub bad_sender : Frame → Bool
bad_sender f = ltb 7 f.sender

-- 11. "An entry with serial over 16, or stamp 0 and serial not 0."
abbrev pub bad_entry : Entry → Bool
bad_entry e = ltb 16 e.serial.0 || (eqb e.stamp.0 0 && not (eqb e.serial.0 0))

-- of some lane, 0 to 7
unfoldable pub bad_entries : Frame → Bool
bad_entries f = any_below (λ (lane : ℕ). bad_entry (entry_of f lane)) 8

-- the lowest of 7 to 11 that a frame meets, or 0
unfoldable pub frame_refusal : Frame → ℕ
frame_refusal f =
    cond (bad_kind f) 7
    (cond (bad_beacon f) 8
    (cond (bad_order f) 9
    (cond (bad_sender f) 10
    (cond (bad_entries f) 11
    0))))

-- the refusal of bytes that are to be read as a frame, or 0
unfoldable pub read_refusal : List ℕ → ℕ
read_refusal bytes = cond (bad_length bytes) 6 (frame_refusal (frame_of bytes))
