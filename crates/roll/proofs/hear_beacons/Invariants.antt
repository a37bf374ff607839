use mathlib.Core.Path.{◌≡◌}
use Prim.Native.Nat.{◌≤◌, ◌*◌}
use Rattle.yard.specs.InState.{after, here_in}
use Rattle.roll.specs.RollCall.{posts_hear_beacons}
use Rattle.roll.specs.Calls.{ran_in}
use Rattle.roll.proofs.hear_beacons.Given as goal

abbrev pub invariant-loop-p : goal.invariant-loop-p
invariant-loop-p l = (after l.steps l.state l.air ≡ ran_in (here_in l.initial.state l.initial.air) (posts_hear_beacons l.present l.sources l.from l.p)) × (l.steps ≤ 8 * l.p)
