use Rattle.std.proofs.Common.{◌≡◌, refl, length, arith}
use Rattle.newest.specs.Loops.{greatest_below}
use Rattle.newest.proofs.NewestLaws.{stamp_is_lem, greatest_more}
use Rattle.newest.proofs.greatest.Goals as goal

pub loop-stamp-init : goal.loop-stamp-init
unfolding greatest_below
loop-stamp-init c = refl

pub loop-stamp-preserved : goal.loop-stamp-preserved
loop-stamp-preserved c = greatest_more _ 0 c.loop-stamp.stamp-index _ _ _ (omega arith) c.loop-stamp.invariant c.max-greatest.ensures

pub returns : goal.returns
returns c = let e : c.loop-stamp.stamp-index ≡ length c.args.stamps.now = omega arith in stamp_is_lem _ _ (rw e at c.loop-stamp.invariant)
