use Rattle.std.proofs.Common.{arith}
use lib.Seq.{ext_get_or}
use Rattle.post_row.proofs.widen.Goals as goal

pub returns : goal.returns
returns c = ext_get_or 0 c.loop-i.to c.args.from.now (omega arith) (λ k h. c.loop-i.invariant k (omega arith))
