use native.Mathlib.Omega.{arith}
use mathlib.Core.Path.{ap, refl, sym, ◌∙◌}
use Rattle.frame.specs.Layout.{bytes_of, frame_of}
use Rattle.frame.proofs.Laws.{readable, read_refused, read_accepted}
use Rattle.refusal.proofs.Refused.{never_0}
use Rattle.frame.proofs.Refused.{handed_read}
use Rattle.frame.proofs.RoundTrip.{bytes_frame}
use Rattle.frame.proofs.Frame.read.Goals as goal

pub returns-in_err-bytes-clause-value : goal.returns-in_err-bytes-clause-value
returns-in_err-bytes-clause-value c = read_refused _ _ _ c.in_err-bytes.ensures.number (never_0 _) (handed_read _ _ c.from_residual.ensures.1)

pub returns-clause-value : goal.returns-clause-value
returns-clause-value c = read_accepted _ _ 0 c.in_ok-bytes.ensures.number refl (c.frame_of.ensures ∙ ap frame_of c.in_ok-bytes.ensures.same)

pub returns-clause-writes_back : goal.returns-clause-writes_back
returns-clause-writes_back c =
    let length_32 = (readable c.args.bytes.now (sym c.in_ok-bytes.ensures.number)).0 in
    ap bytes_of (c.frame_of.ensures ∙ ap frame_of c.in_ok-bytes.ensures.same) ∙ bytes_frame c.args.bytes.now length_32 (λ i. omega (arith, c.type_inv.bytes i))
