use mathlib.Core.Path.{sym, ◌∙◌}
use native.Mathlib.Omega.{arith}
use Rattle.roll.specs.RollCall.{posts_hear}
use Rattle.roll.proofs.Turns.{none_ran, sets_in, posts_more, posts_absent}
use Rattle.roll.proofs.hear_orders.Goals as goal
use Rattle.roll.proofs.hear_orders.Goals.{then-has, else-has}

pub loop-p-init : goal.loop-p-init
unfolding posts_hear
loop-p-init c = record { long = c.told-state; ran = none_ran _ _; bound = omega arith }

pub loop-p-preserved : goal.loop-p-preserved
loop-p-preserved c =
    let i = c.loop-p.invariant in
    let present = c.requires ∙ sym (sets_in c.args.state.now).0 in
    elim c.if-has.branch [
      | then-has w ↦ record {
        long = c.if-has.array_long;
        ran = rw (w.state-is, w.air-is, w.steps-is)
            (posts_more c.args.state.now c.args.air.now c.loop-p.state c.loop-p.air _ _ _ _ c.args.present c.loop-p.p c.told-state i.long present i.ran (sym c.has.ensures ∙ w.if-has.true) w.hear_lanes-steps.ensures.air_after);
        bound = omega (arith, w.hear_lanes-steps.ensures.bound, i.bound);
      }
      | else-has w ↦ record {
        long = c.if-has.array_long;
        ran = rw (w.state-is, w.air-is, w.steps-is, posts_absent c.args.state.now c.args.present c.loop-p.p present (sym c.has.ensures ∙ w.if-has.false)) i.ran;
        bound = omega (arith, i.bound);
      }
    ]
