use native.Mathlib.Omega.{arith}
use mathlib.Core.Path.{◌≡◌, refl, ◌∙◌, ap}
use lib.ListN.{length-set}
use Rattle.frame.proofs.Put.{put_below, put_more, put_all}
use Rattle.frame.proofs.layout.put.Goals as goal

pub loop-lane-init : goal.loop-lane-init
unfolding put_below
loop-lane-init c = (simp length-set c.told-buffer, refl)

pub loop-lane-preserved : goal.loop-lane-preserved
loop-lane-preserved c =
    let inv = c.loop-lane.invariant in
    (simp length-set inv.0, rw c.to_be_bytes-in-loop-lane.ensures (put_more _ _ _ _ inv.1))

pub returns : goal.returns
returns c =
    let e : c.loop-lane.lane ≡ 8 = omega arith in
    c.loop-lane.invariant.1 ∙ ap (put_below c.args.f _) e
    ∙ rw (c.to_be_bytes.ensures, c.to_be_bytes-2.ensures) (put_all c.args.f c.args.buffer.now c.told-buffer)
