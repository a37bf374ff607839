use native.Mathlib.Omega.{arith}
use mathlib.Core.Path.{refl}
use Rattle.row.specs.Rows.{post_in}
use Rattle.text.specs.Writing.{wrote}
use Rattle.meaning.specs.Texts.{items_text}
use Rattle.printout.proofs.Laws.{items_more}
use Rattle.printout.proofs.put_items.Goals as goal

pub loop-place-init : goal.loop-place-init
unfolding wrote items_text
loop-place-init c = (refl, refl)

pub loop-place-preserved : goal.loop-place-preserved
loop-place-preserved c = (cc, items_more _ _ _ (post_in c.args.row.now) _ _ _ (omega arith) c.loop-place.invariant.1 refl c.put_item.ensures.1)
