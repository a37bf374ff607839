use Rattle.post.specs.Newest.{raised_below}
use mathlib.Core.Path.{◌≡◌}
use Rattle.steps.proofs.listening.raise_table.Given as goal

abbrev pub invariant-loop-lane : goal.invariant-loop-lane
invariant-loop-lane l = l.table ≡ raised_below l.initial.table l.entries l.lane
