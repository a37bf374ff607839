use Rattle.row.proofs.Laws.{keep_is}
use Rattle.row.proofs.keep.Goals as goal

pub returns : goal.returns
returns c = let both = keep_is _ _ _ _ _ _ _ _ _ (rw c.from.ensures at c.order_place-place.ensures) c.put_in.ensures c.put_in-2.ensures c.put_in-3.ensures in record { row_after = both.0; known = both.1.0; past = both.1.1 }
