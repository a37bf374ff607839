use native.Mathlib.Omega.{arith}
use Rattle.roll.specs.RollCall.{lanes_hears}
use Rattle.roll.proofs.Turns.{none_ran, lanes_more}
use Rattle.roll.proofs.hear_lanes.Goals as goal

pub loop-q-init : goal.loop-q-init
unfolding lanes_hears
loop-q-init c = record { long = c.told-state; ran = none_ran _ _; bound = omega arith }

pub loop-q-preserved : goal.loop-q-preserved
loop-q-preserved c =
    let i = c.loop-q.invariant in
    record {
      long = c.hear_lane-steps.array_long;
      ran = lanes_more c.args.state.now c.args.air.now c.loop-q.state c.loop-q.air _ _ _ _ c.args.p c.loop-q.q c.told-state i.long i.ran c.hear_lane-steps.ensures.air_after;
      bound = omega (arith, c.hear_lane-steps.ensures.bound, i.bound);
    }
