use Rattle.row.specs.Rows.{post_in}
use Rattle.printout.proofs.Laws.{item_wrote}
use Rattle.printout.proofs.put_item.Goals as goal

pub returns : goal.returns
unfolding post_in
returns c = (cc, item_wrote _ _ (post_in c.args.row.now) _ _ _ c.stamp_at-stamp.ensures c.get_in-word.ensures c.put_three.ensures.1)
