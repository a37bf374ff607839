use Rattle.std.proofs.Common.{◌≡◌}
use Rattle.newest.specs.Loops.{entries_below}
use Rattle.newest.proofs.newest_entries.Given as goal

abbrev pub invariant-loop-lane : goal.invariant-loop-lane
invariant-loop-lane l = l.entry-items ≡ entries_below l.table l.lane
