-- What reading bytes comes to: refusal 0 and the frame, or the refusal's number and a frame of zeros. Assumes nothing.
use Rattle.std.specs.Prelude.{ℕ, Result, Ok, Err}
use Rattle.refusal.specs.declared.Refusal.{Refusal}
use Rattle.refusal.specs.Numbers.{refusal_number}
use Rattle.frame.specs.Layout.{no_frame}
use Rattle.frame.specs.declared.Frame.{Frame}

pub record FrameRead : Type 0 where
  pub refusal : ℕ
  pub frame : Frame

-- "A refusal yields only its number"
abbrev pub refused_read : ℕ → FrameRead
refused_read number = record { refusal = number; frame = no_frame }

-- the same of a reader's result
abbrev pub read_answer : Result Frame Refusal → FrameRead
read_answer (Ok frame) = record { refusal = 0; frame = frame }
read_answer (Err refusal) = refused_read (refusal_number refusal)
