use mathlib.Core.Path.{◌≡◌}
use Prim.Native.Nat.{◌≤◌}
use Rattle.yard.specs.InState.{after, here_in}
use Rattle.roll.specs.RollCall.{beacons_sent}
use Rattle.roll.specs.Calls.{ran_in}
use Rattle.roll.proofs.send_beacons.Given as goal

abbrev pub invariant-loop-i : goal.invariant-loop-i
invariant-loop-i l = (after l.steps l.state l.air ≡ ran_in (here_in l.initial.state l.initial.air) (beacons_sent l.sources l.i)) × (l.steps ≤ l.i)
