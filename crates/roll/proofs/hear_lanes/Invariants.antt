use mathlib.Core.Path.{◌≡◌}
use Prim.Native.Nat.{◌≤◌, ◌*◌}
use lib.ListN.{length}
use Rattle.state.specs.States.{yard_in}
use Rattle.yard.specs.InState.{after, here_in}
use Rattle.roll.specs.RollCall.{lanes_hears}
use Rattle.roll.specs.Calls.{ran_in}
use Rattle.roll.proofs.hear_lanes.Given as goal

abbrev pub invariant-loop-q : goal.invariant-loop-q
invariant-loop-q l = record {
  long : length l.state ≡ 4483;
  ran : after l.steps l.state l.air ≡ ran_in (here_in l.initial.state l.initial.air) (lanes_hears (yard_in l.initial.state) l.p l.q);
  bound : l.steps ≤ 65535 * l.q;
}
