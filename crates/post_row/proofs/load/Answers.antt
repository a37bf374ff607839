use Rattle.std.proofs.Common.{ap, arith, rules}
use lib.ListN.{set, drop}
use mathlib.Core.List.{◌++◌}
use Rattle.post_row.proofs.Loading.{lent, numbers_load, loads}
use Rattle.post_row.proofs.load.Goals as goal

pub returns : goal.returns
returns c =
    let l = c.args.row.now in
    let m = c.copy_from_slice.new.self ++ drop 6 l in
    let n = numbers_load c.args.p l m (set m 542 c.from-6.result) (omega arith) (lent l _ _ 0 6 (cc)) (ap (set m 542) c.from-6.ensures) in
    let both = loads c.args.p l _ _ _ _ _ _ (omega arith) n.2 (search rules) (search rules) (search rules) (search rules) (search rules)
    n.0 n.1.0 n.1.1
    (lent _ _ _ _ _ c.widen.ensures) (lent _ _ _ _ _ c.copy_from_slice-2.ensures.after) (lent _ _ _ _ _ c.copy_from_slice-3.ensures.after)
    (lent _ _ _ _ _ c.copy_from_slice-4.ensures.after) (lent _ _ _ _ _ c.widen-2.ensures) in
    record { row_after = both.0; known = both.1.0; past = both.1.1 }
