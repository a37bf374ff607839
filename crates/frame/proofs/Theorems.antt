-- What demand 2 says of frames, and refusal 8 in document 01's own words. Assumes nothing.
-- `Typed f` and `AreBytes l` are what every value of the types `Frame` and `&[u8]` has.
use mathlib.Core.Path.{◌≡◌, ap}
use mathlib.Core.Bool.{Bool, not, ◌&&◌}
use mathlib.Core.List.{List}
use Prim.Native.Nat.{ℕ, ◌+◌}
use lib.Dec.{eqb}
use lib.ListN.{length}
use Rattle.frame.specs.Lanes.{any_below}
use Rattle.frame.specs.Layout.{byte_at, frame_of, bytes_of}
use Rattle.frame.specs.Types.{Typed, AreBytes}
use Rattle.frame.specs.Refusals.{bad_beacon, frame_refusal, read_refusal}
use Rattle.frame.specs.ReadWrite.{write_refusal, read_of, written}
use Rattle.frame.specs.declared.Frame.{Frame}
use Rattle.frame.specs.FrameRead.{FrameRead}
use Rattle.frame.proofs.Beacon.{pair_nonzero, any_of_six}
use Rattle.frame.proofs.Laws.{is_32, readable, writable, written_good}
use Rattle.frame.proofs.RoundTrip.{frame_bytes, bytes_frame}

-- the reader judges the bytes of a frame as the writer judges the frame
pub judged_alike : (f : Frame) → Typed f → read_refusal (bytes_of f) ≡ frame_refusal f
unfolding read_refusal bytes_of
judged_alike f h = ap frame_refusal (frame_bytes f h)

pub bytes_read : (f : Frame) → Typed f → frame_refusal f ≡ 0 → read_of (bytes_of f) ≡ record { refusal = 0; frame = f }
unfolding read_of
bytes_read f h z = rw (judged_alike f h, z, frame_bytes f h)

-- "A written frame reads back as itself"
pub reads_back : (buffer : List ℕ) (f : Frame) → Typed f → write_refusal buffer f ≡ 0
    → read_of (written buffer f) ≡ record { refusal = 0; frame = f }
reads_back buffer f h e = rw (written_good buffer f e) (bytes_read f h (writable buffer f e).1)

-- the reader never refuses what was written
pub never_refused : (buffer : List ℕ) (f : Frame) → Typed f → write_refusal buffer f ≡ 0 → (read_of (written buffer f)).refusal ≡ 0
never_refused buffer f h e = ap (λ (r : FrameRead). r.refusal) (reads_back buffer f h e)

-- "accepted bytes are those that writing gives": of the frame that was read, into any buffer of 32 bytes
pub writes_back : (bytes buffer : List ℕ) → AreBytes bytes → length buffer ≡ 32 → (read_of bytes).refusal ≡ 0
    → (write_refusal buffer (read_of bytes).frame ≡ 0) × (written buffer (read_of bytes).frame ≡ bytes)
unfolding read_of written write_refusal
writes_back bytes buffer h l e =
    let r = readable bytes e in
    (rw (e, is_32 buffer _ l) r.1, rw (e, is_32 buffer (frame_refusal (frame_of bytes)) l, r.1, bytes_frame bytes r.0 h))

-- refusal 8: a beacon whose lane, serial, stamp and word are not all 0 is a "Beacon with a nonzero byte in 2–7"
pub beacon_bytes : (bytes : List ℕ)
    → bad_beacon (frame_of bytes) ≡ (eqb (byte_at bytes 0) 2 && any_below (λ (i : ℕ). not (eqb (byte_at bytes (2 + i)) 0)) 6)
unfolding frame_of
beacon_bytes bytes =
    rw (pair_nonzero (byte_at bytes 4) (byte_at bytes 5), pair_nonzero (byte_at bytes 6) (byte_at bytes 7))
    (ap (λ (b : Bool). eqb (byte_at bytes 0) 2 && b) (any_of_six (λ (i : ℕ). not (eqb (byte_at bytes (2 + i)) 0))))
