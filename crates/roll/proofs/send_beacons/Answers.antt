use mathlib.Core.Path.{sym, ◌∙◌}
use native.Mathlib.Omega.{arith}
use Rattle.roll.specs.RollCall.{beacons_sent}
use Rattle.roll.proofs.Turns.{none_ran, beacon_ran, sent_more, sent_none}
use Rattle.roll.proofs.send_beacons.Goals as goal
use Rattle.roll.proofs.send_beacons.Goals.{then-has, else-has}

pub loop-i-init : goal.loop-i-init
unfolding beacons_sent
loop-i-init c = (none_ran _ _, omega arith)

pub loop-i-preserved : goal.loop-i-preserved
loop-i-preserved c =
    elim c.if-has.branch [
      | then-has w ↦ (
        rw (w.state-is, w.air-is, w.steps-is)
            (sent_more _ c.loop-i.state c.loop-i.air _ _ _ c.args.sources c.loop-i.i c.loop-i.invariant.0 (sym c.has.ensures ∙ w.if-has.true) (beacon_ran _ _ _ _ _ _ w.beacon.ensures.air_after)),
        omega (arith, c.loop-i.invariant.1),
      )
      | else-has w ↦ (rw (w.state-is, w.air-is, w.steps-is, sent_none c.args.sources c.loop-i.i (sym c.has.ensures ∙ w.if-has.false)) c.loop-i.invariant.0, omega (arith, c.loop-i.invariant.1))
    ]
