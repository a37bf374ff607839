-- What reading bytes gives, and what writing a frame leaves in the buffer. Assumes nothing.
use Rattle.std.specs.Prelude.{ℕ, List, cond, eqb}
use Rattle.frame.specs.Layout.{frame_of, bytes_of, no_frame}
use Rattle.frame.specs.Refusals.{bad_length, frame_refusal, read_refusal}
use Rattle.frame.specs.declared.Frame.{Frame}
use Rattle.frame.specs.FrameRead.{FrameRead}

-- the refusal and no frame, or 0 and the frame
unfoldable pub read_of : List ℕ → FrameRead
read_of bytes = record {
  refusal = read_refusal bytes;
  frame = cond (eqb (read_refusal bytes) 0) (frame_of bytes) no_frame;
}

-- the refusal of a frame that is to be written into a buffer, or 0: "by 6 to 11 just as the reader does"
unfoldable pub write_refusal : List ℕ → Frame → ℕ
write_refusal buffer f = cond (bad_length buffer) 6 (frame_refusal f)

-- the buffer after writing: the frame's bytes, or what it held where the writer refuses
unfoldable pub written : List ℕ → Frame → List ℕ
written buffer f = cond (eqb (write_refusal buffer f) 0) (bytes_of f) buffer
