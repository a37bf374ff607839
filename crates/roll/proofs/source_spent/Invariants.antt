use mathlib.Core.Path.{◌≡◌}
use Prim.Native.Nat.{◌≤◌}
use Rattle.state.specs.States.{yard_in}
use Rattle.roll.proofs.Ways.{left_below}
use Rattle.roll.proofs.source_spent.Given as goal

abbrev pub invariant-loop-i : goal.invariant-loop-i
invariant-loop-i l = (l.left ≤ l.i) × (l.left ≡ left_below (yard_in l.state) l.i)
