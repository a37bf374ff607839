-- What a `?` hands on of a reader's refusal. Assumes nothing.
use mathlib.Core.Path.{◌≡◌, ap}
use Rattle.std.specs.Prelude.{Result, Ok, Err, IsErrAnd}
use Rattle.refusal.specs.declared.Refusal.{Refusal}
use Rattle.refusal.specs.Numbers.{refusal_number}
use Rattle.frame.specs.FrameRead.{read_answer, refused_read}
use Rattle.frame.specs.declared.Frame.{Frame}

pub handed_read : (o : Result Frame Refusal) (r : Refusal) → IsErrAnd o (λ e. e ≡ r) → read_answer o ≡ refused_read (refusal_number r)
handed_read (Ok f) r h = absurd h
handed_read (Err e) r h = ap (λ (k : Refusal). refused_read (refusal_number k)) h
