use Rattle.deliver.proofs.Waiting.{any_more, none_yet}
use Rattle.deliver.proofs.ready.any_ready.Goals as goal

pub loop-lane-init : goal.loop-lane-init
loop-lane-init c = none_yet _

pub loop-lane-preserved : goal.loop-lane-preserved
loop-lane-preserved c = any_more _ _ _ _ c.loop-lane.invariant c.ready_in-ready.ensures
