use Rattle.std.proofs.Common.{◌≡◌}
use Rattle.row.specs.Rows.{post_in}
use Rattle.deliver.specs.Loops.{least_below}
use Rattle.deliver.proofs.ready.least_of.Given as goal

abbrev pub invariant-loop-i : goal.invariant-loop-i
invariant-loop-i l = l.least ≡ least_below l.sources (post_in l.row).last (post_in l.row).table l.i
