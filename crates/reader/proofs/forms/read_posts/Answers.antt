use native.Mathlib.Omega.{arith}
use mathlib.Core.Path.{sym}
use Rattle.reader.proofs.FormsLaws.{posts_start, posts_next, posts_measure, posts_end}
use Rattle.reader.proofs.forms.read_posts.Goals as goal

pub loop-z-init : goal.loop-z-init
loop-z-init c = posts_start _ _

pub loop-z-smaller : goal.loop-z-smaller
loop-z-smaller c = omega (arith, posts_measure _ _ _ _ (sym c.loop-z-test.ensures) c.read_post.ensures c.post_added-z.ensures)

pub loop-z-preserved : goal.loop-z-preserved
loop-z-preserved c = posts_next _ _ _ _ _ c.loop-z.invariant (sym c.loop-z-test.ensures) c.read_post.ensures c.post_added-z.ensures

pub returns : goal.returns
returns c = posts_end _ _ _ c.loop-z.invariant (sym c.loop-z-test.ensures)
