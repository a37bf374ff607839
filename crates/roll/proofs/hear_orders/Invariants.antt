use mathlib.Core.Path.{◌≡◌}
use Prim.Native.Nat.{◌≤◌, ◌*◌}
use lib.ListN.{length}
use Rattle.state.specs.States.{yard_in}
use Rattle.yard.specs.InState.{after, here_in}
use Rattle.roll.specs.RollCall.{posts_hear}
use Rattle.roll.specs.Calls.{ran_in}
use Rattle.roll.proofs.hear_orders.Given as goal

abbrev pub invariant-loop-p : goal.invariant-loop-p
invariant-loop-p l = record {
  long : length l.state ≡ 4483;
  ran : after l.steps l.state l.air ≡ ran_in (here_in l.initial.state l.initial.air) (posts_hear (yard_in l.initial.state) l.p);
  bound : l.steps ≤ 524280 * l.p;
}
