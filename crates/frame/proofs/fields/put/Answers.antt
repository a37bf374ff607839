use native.Mathlib.Omega.{arith}
use mathlib.Core.Path.{◌≡◌, refl, ◌∙◌, ap}
use lib.ListN.{length-set}
use Rattle.frame.proofs.FieldLaws.{fields_put_below, fields_put_more, fields_put_all}
use Rattle.frame.proofs.fields.put.Goals as goal

pub loop-lane-init : goal.loop-lane-init
unfolding fields_put_below
loop-lane-init c = (simp length-set c.told-fields, refl)

pub loop-lane-preserved : goal.loop-lane-preserved
loop-lane-preserved c = let inv = c.loop-lane.invariant in (simp length-set inv.0, rw c.from-in-loop-lane.ensures (fields_put_more _ _ _ _ inv.1))

pub returns : goal.returns
returns c =
    let e : c.loop-lane.lane ≡ 8 = omega arith in
    c.loop-lane.invariant.1 ∙ ap (fields_put_below c.args.f _) e
    ∙ rw (c.from.ensures, c.from-2.ensures, c.from-3.ensures, c.from-4.ensures) (fields_put_all c.args.f c.args.fields.now c.told-fields)
