use Rattle.std.proofs.Common.{arith}
use Rattle.post_row.proofs.Storing.{stores, stores_none}
use Rattle.post_row.proofs.store.Goals as goal

pub returns-then-row-lt-LENGTH : goal.returns-then-row-lt-LENGTH
returns-then-row-lt-LENGTH c = stores_none c.args.row.now _ (omega arith) c.new-post.ensures

pub returns : goal.returns
returns c =
    stores c.args.row.now _ _ _ _ _ _ _ _ _ _ _ (omega arith) c.byte.ensures c.byte-2.ensures c.byte-3.ensures c.byte-4.ensures c.byte-5.ensures c.byte-6.ensures
    c.narrow.ensures c.copy_from_slice.ensures.after c.copy_from_slice-2.ensures.after c.copy_from_slice-3.ensures.after c.narrow-2.ensures
