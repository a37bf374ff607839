use mathlib.Core.Path.{◌≡◌}
use Prim.Native.Nat.{ℕ, ◌≤◌, ◌+◌}
use Rattle.state.specs.States.{yard_in}
use Rattle.yard.specs.InState.{after, here_in}
use Rattle.roll.specs.RollCall.{lane_hears}
use Rattle.roll.specs.Calls.{ran_in}
use Rattle.roll.proofs.hear_lane.Given as goal

-- n of them are heard
abbrev pub invariant-loop-serial : goal.invariant-loop-serial
invariant-loop-serial l =
    (n : ℕ) × (l.serial ≡ n + 1) × (n ≤ l.sent) × (after n l.state l.air ≡ ran_in (here_in l.initial.state l.initial.air) (lane_hears (yard_in l.initial.state).first l.p l.q n))
