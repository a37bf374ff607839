use mathlib.Core.Path.{sym, ◌∙◌}
use native.Mathlib.Omega.{arith}
use Rattle.roll.specs.RollCall.{posts_hear_beacons}
use Rattle.roll.proofs.Turns.{none_ran, posts_heard, heard_absent}
use Rattle.roll.proofs.hear_beacons.Goals as goal
use Rattle.roll.proofs.hear_beacons.Goals.{then-has, else-has}

pub loop-p-init : goal.loop-p-init
unfolding posts_hear_beacons
loop-p-init c = (none_ran _ _, omega arith)

pub loop-p-preserved : goal.loop-p-preserved
loop-p-preserved c =
    elim c.if-has.branch [
      | then-has w ↦ (
        rw (w.state-is, w.air-is, w.steps-is)
            (posts_heard _ c.loop-p.state c.loop-p.air _ _ _ c.args.present c.args.sources c.args.from c.loop-p.p _ c.loop-p.invariant.0 (sym c.has.ensures ∙ w.if-has.true) w.hear_sources-steps.ensures.air_after),
        omega (arith, w.hear_sources-steps.ensures.bound, c.loop-p.invariant.1),
      )
      | else-has w ↦ (
        rw (w.state-is, w.air-is, w.steps-is, heard_absent c.args.present c.args.sources c.args.from c.loop-p.p (sym c.has.ensures ∙ w.if-has.false)) c.loop-p.invariant.0,
        omega (arith, c.loop-p.invariant.1),
      )
    ]
