use mathlib.Core.Path.{refl}
use Rattle.row.specs.Rows.{post_in}
use Rattle.refusal.proofs.Refused.{never_0}
use Rattle.yard.proofs.PartWays.{found_read, absent_first}
use Rattle.yard.proofs.parts.frame_for.Goals as goal

pub returns-in-Ok-clause-refusal_value : goal.returns-in-Ok-clause-refusal_value
returns-in-Ok-clause-refusal_value c = (found_read c.args.air.now _ (post_in c.args.row.now) c.args.frames c.args.k 0 c.read.result c.in-Ok.ensures refl c.stretch.ensures c.read.ensures.value).0

pub returns-in-Ok-clause-frame : goal.returns-in-Ok-clause-frame
returns-in-Ok-clause-frame c = (found_read c.args.air.now _ (post_in c.args.row.now) c.args.frames c.args.k 0 c.read.result c.in-Ok.ensures refl c.stretch.ensures c.read.ensures.value).1

pub returns-in-Err-clause-refusal_value : goal.returns-in-Err-clause-refusal_value
returns-in-Err-clause-refusal_value c = absent_first c.args.air.now (post_in c.args.row.now) c.args.frames c.args.k _ _ c.in-Err.ensures (never_0 c.in-Err.refusal) c.absent.ensures
