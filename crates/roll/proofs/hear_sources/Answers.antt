use mathlib.Core.Path.{◌≡◌, sym, ◌∙◌}
use mathlib.Core.Bool.{true, false}
use Rattle.cells.specs.Sets.{has_lane}
use native.Mathlib.Omega.{arith}
use Rattle.roll.specs.RollCall.{sources_below, beacons_heard}
use Rattle.roll.proofs.Turns.{none_ran, hear_ran, heard_more, heard_none, heard_own, below_one, below_none}
use Rattle.roll.proofs.hear_sources.Goals as goal
use Rattle.roll.proofs.hear_sources.Goals.{then-has, then-i-p, else-i-p, else-has}

pub loop-i-init : goal.loop-i-init
unfolding beacons_heard sources_below
loop-i-init c = record { ran = none_ran _ _; steps = omega arith; frame = omega arith; most = omega arith }

pub loop-i-preserved : goal.loop-i-preserved
loop-i-preserved c =
    let i = c.loop-i.invariant in
    elim c.if-has.branch [
      | then-has w ↦
          let has : has_lane c.args.sources c.loop-i.i ≡ true = sym c.has.ensures ∙ w.if-has.true in
          elim w.if-i-p.branch [
            | then-i-p v ↦ record {
              ran = rw (w.state-is, w.air-is, w.steps-is, v.state-is, v.air-is, v.steps-is)
                  (heard_more _ c.loop-i.state c.loop-i.air _ _ _ c.args.sources c.args.from c.args.p c.loop-i.i _ i.ran i.frame has v.if-i-p.true (hear_ran _ _ _ _ _ _ _ v.hear.ensures.air_after));
              steps = omega (arith, i.steps);
              frame = omega (arith, i.frame, below_one c.args.sources c.loop-i.i has);
              most = omega (arith, i.most);
            }
            | else-i-p v ↦ record {
              ran = rw (w.state-is, w.air-is, w.steps-is, v.state-is, v.air-is, v.steps-is, heard_own c.args.sources c.args.from c.args.p c.loop-i.i has v.if-i-p.false) i.ran;
              steps = omega (arith, i.steps);
              frame = omega (arith, i.frame, below_one c.args.sources c.loop-i.i has);
              most = omega (arith, i.most);
            }
          ]
      | else-has w ↦
          let out : has_lane c.args.sources c.loop-i.i ≡ false = sym c.has.ensures ∙ w.if-has.false in
          record {
            ran = rw (w.state-is, w.air-is, w.steps-is, heard_none c.args.sources c.args.from c.args.p c.loop-i.i out) i.ran;
            steps = omega (arith, i.steps);
            frame = omega (arith, i.frame, below_none c.args.sources c.loop-i.i out);
            most = omega (arith, i.most);
          }
    ]
