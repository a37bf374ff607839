use Rattle.std.proofs.Common.{◌≡◌}
use Rattle.row.specs.Rows.{post_in, known_in}
use Rattle.frame.specs.Lanes.{any_below}
use Rattle.deliver.specs.Loops.{ready_in}
use Rattle.deliver.proofs.ready.any_ready.Given as goal

abbrev pub invariant-loop-lane : goal.invariant-loop-lane
invariant-loop-lane l = l.ready ≡ any_below (ready_in (known_in l.row) (post_in l.row).last (post_in l.row).stamps l.least) l.lane
