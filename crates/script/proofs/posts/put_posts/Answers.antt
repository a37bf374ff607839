use Rattle.script.proofs.PrintLaws.{posts_more}
use native.Mathlib.Omega.{arith}
use mathlib.Core.Path.{◌≡◌, refl}
use Rattle.text.specs.Writing.{wrote}
use Rattle.meaning.specs.Texts.{posts_text}
use Rattle.script.proofs.posts.put_posts.Goals as goal

pub loop-lane-init : goal.loop-lane-init
unfolding wrote posts_text
loop-lane-init c = (omega arith, (refl, refl))

pub loop-lane-preserved : goal.loop-lane-preserved
loop-lane-preserved c = (omega arith, (cc, posts_more _ _ _ c.args.state.now _ _ (omega arith) refl c.loop-lane.invariant.1.1 c.put_row.ensures.1))

pub returns : goal.returns
returns c = let e : c.loop-lane.lane ≡ 8 = omega arith in (c.loop-lane.invariant.1.0, rw e at c.loop-lane.invariant.1.1)
