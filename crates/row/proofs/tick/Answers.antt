use Rattle.row.specs.Rows.{post_in}
use Rattle.row.proofs.Laws.{tick_row}
use Rattle.row.proofs.tick.Goals as goal

pub returns : goal.returns
unfolding post_in
returns c = tick_row c.args.row.now _ _ _ _ _ _ _ c.get.ensures c.entry_place-place.ensures c.put.ensures c.put-2.ensures c.put_in.ensures
