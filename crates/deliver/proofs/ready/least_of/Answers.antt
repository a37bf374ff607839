use Rattle.std.proofs.Common.{refl}
use Rattle.deliver.specs.Loops.{least_below}
use Rattle.deliver.proofs.Turns.{least_more}
use Rattle.deliver.proofs.ready.least_of.Goals as goal

pub loop-i-init : goal.loop-i-init
unfolding least_below
loop-i-init c = refl

pub loop-i-preserved : goal.loop-i-preserved
loop-i-preserved c = least_more _ _ _ _ _ _ _ _ _ c.loop-i.invariant c.last_of.ensures c.heard_under-heard.ensures c.has.ensures c.lower-least.ensures
