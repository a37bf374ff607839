use Rattle.std.proofs.Common.{◌≡◌, ◌+◌, min, get_or}
use Rattle.row.specs.Rows.{post_in, known_in}
use Rattle.frame.specs.Lanes.{any_below}
use Rattle.deliver.specs.Loops.{ready_at}
use Rattle.deliver.proofs.ready.ready_in.Given as goal

abbrev pub invariant-loop-stamp : goal.invariant-loop-stamp
invariant-loop-stamp l = l.ready ≡ any_below (ready_at (known_in l.row) (post_in l.row).last (post_in l.row).stamps l.least l.lane) (min (get_or (known_in l.row) l.lane 0 + l.stamp-index) 16)
