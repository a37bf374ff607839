use mathlib.Core.Path.{refl}
use Prim.Native.Nat.{◌+◌}
use native.Mathlib.Omega.{arith}
use Rattle.roll.specs.RollCall.{lane_hears}
use Rattle.roll.proofs.Turns.{none_ran, lane_own, lane_other, lane_more}
use Rattle.roll.proofs.hear_lane.Goals as goal
use Rattle.roll.proofs.hear_lane.Goals.{else-loop-serial-test, then-loop-serial-test+else-serial-sent}

pub returns-then-q-p-clause-air_after : goal.returns-then-q-p-clause-air_after
returns-then-q-p-clause-air_after c = lane_own _ _ _ _ c.if-q-p.true

pub loop-serial-init : goal.loop-serial-init
unfolding lane_hears
loop-serial-init c = (0, refl, omega arith, none_ran _ _)

pub loop-serial-preserved : goal.loop-serial-preserved
loop-serial-preserved c =
    let i = c.loop-serial.invariant in
    (i.0 + 1, omega (arith, i.1), omega (arith, i.1), lane_more c.args.state.now c.args.air.now c.loop-serial.state c.loop-serial.air _ _ c.args.p c.args.q i.0 _ _ _ c.told-state (omega arith) i.3 (rw i.1 at c.order_place-place.ensures) c.get_in-k.ensures c.hear.ensures.air_after)

pub returns-clause-air_after : goal.returns-clause-air_after
returns-clause-air_after c =
    let i = c.loop-serial.invariant in
    elim c.loop-serial-test.branch [
      | else-loop-serial-test w ↦ rw (w.state-is, w.air-is) (lane_other c.args.state.now c.args.air.now _ _ c.args.p c.args.q i.0 c.if-q-p.false c.requires (omega (arith, i.1, i.2)) i.3)
      | then-loop-serial-test+else-serial-sent w ↦
          rw (w.state-is, w.air-is)
          (lane_other c.args.state.now c.args.air.now _ _ c.args.p c.args.q (i.0 + 1) c.if-q-p.false c.requires (omega (arith, i.1, i.2))
          (lane_more c.args.state.now c.args.air.now c.loop-serial.state c.loop-serial.air _ _ c.args.p c.args.q i.0 _ _ _ c.told-state (omega arith) i.3 (rw i.1 at w.order_place-place.ensures) w.get_in-k.ensures w.hear.ensures.air_after))
    ]
