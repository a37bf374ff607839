use Rattle.std.proofs.Common.{◌≡◌}
use Rattle.newest.specs.Loops.{greatest_below}
use Rattle.newest.proofs.greatest.Given as goal

abbrev pub invariant-loop-stamp : goal.invariant-loop-stamp
invariant-loop-stamp l = l.greatest ≡ greatest_below l.stamps 0 l.stamp-index
