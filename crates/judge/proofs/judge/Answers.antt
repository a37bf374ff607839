use mathlib.Core.Path.{refl, ◌∙◌}
use native.Mathlib.Omega.{arith}
use Rattle.row.proofs.LentRows.{known_lent}
use Rattle.judge.proofs.Ways.{cut_short, tested, lent_part, tests_bad, used_bad, all_good}
use Rattle.judge.proofs.judge.Goals as goal

pub returns-then-row-lt-LENGTH : goal.returns-then-row-lt-LENGTH
returns-then-row-lt-LENGTH c =
    let both = cut_short c.args.row.now (omega arith) in
    record { value = both.0; post = both.1.0; known = both.1.1.0; past = both.1.1.1 }

pub returns-then-numbers-orders : goal.returns-then-numbers-orders
returns-then-numbers-orders c =
    let last = lent_part c.try_into.result _ 8 c.unwrap-last.result _ c.try_into.ensures.1 c.unwrap-last.ensures in
    let stamps = lent_part c.try_into-2.result _ 128 c.unwrap-stamps.result _ c.try_into-2.ensures.1 c.unwrap-stamps.ensures in
    let words = lent_part c.try_into-3.result _ 128 c.unwrap-words.result _ c.try_into-3.ensures.1 c.unwrap-words.ensures in
    let log = lent_part c.try_into-4.result _ 128 c.unwrap-log.result _ c.try_into-4.ensures.1 c.unwrap-log.ensures in
    let t = tested c.args.row.now _ _ _ _ _ _ _ _ _ (omega (arith, c.if-row-lt-LENGTH.false)) last stamps words log c.read_numbers-numbers.ensures c.smaller-logged.ensures c.bad_numbers-numbers.ensures c.bad_orders-orders.ensures c.bad_unused.ensures in
    let both = tests_bad c.args.row.now _ _ _ _ t c.if-numbers-orders.true in
    record { value = both.0; post = both.1.0; known = both.1.1.0; past = both.1.1.1 }

pub returns-then-bad_used : goal.returns-then-bad_used
returns-then-bad_used c =
    let last = lent_part c.try_into.result _ 8 c.unwrap-last.result _ c.try_into.ensures.1 c.unwrap-last.ensures in
    let stamps = lent_part c.try_into-2.result _ 128 c.unwrap-stamps.result _ c.try_into-2.ensures.1 c.unwrap-stamps.ensures in
    let words = lent_part c.try_into-3.result _ 128 c.unwrap-words.result _ c.try_into-3.ensures.1 c.unwrap-words.ensures in
    let log = lent_part c.try_into-4.result _ 128 c.unwrap-log.result _ c.try_into-4.ensures.1 c.unwrap-log.ensures in
    let t = tested c.args.row.now _ _ _ _ _ _ _ _ _ (omega (arith, c.if-row-lt-LENGTH.false)) last stamps words log c.read_numbers-numbers.ensures c.smaller-logged.ensures c.bad_numbers-numbers.ensures c.bad_orders-orders.ensures c.bad_unused.ensures in
    let used = rw (last, log) at c.bad_used.ensures.value in
    let both = used_bad c.args.row.now _ _ _ _ _ t used c.if-bad_used.true in
    record { value = both.0; post = both.1.0; known = both.1.1.0; past = both.1.1.1 }

pub returns : goal.returns
returns c =
    let last = lent_part c.try_into.result _ 8 c.unwrap-last.result _ c.try_into.ensures.1 c.unwrap-last.ensures in
    let stamps = lent_part c.try_into-2.result _ 128 c.unwrap-stamps.result _ c.try_into-2.ensures.1 c.unwrap-stamps.ensures in
    let words = lent_part c.try_into-3.result _ 128 c.unwrap-words.result _ c.try_into-3.ensures.1 c.unwrap-words.ensures in
    let log = lent_part c.try_into-4.result _ 128 c.unwrap-log.result _ c.try_into-4.ensures.1 c.unwrap-log.ensures in
    let t = tested c.args.row.now _ _ _ _ _ _ _ _ _ (omega (arith, c.if-row-lt-LENGTH.false)) last stamps words log c.read_numbers-numbers.ensures c.smaller-logged.ensures c.bad_numbers-numbers.ensures c.bad_orders-orders.ensures c.bad_unused.ensures in
    let used = rw (last, log) at c.bad_used.ensures.value in
    let w = known_lent c.args.row.now _ c.copy_from_slice.new.self (omega arith) (omega arith) refl in
    let both = all_good c.args.row.now _ _ _ _ _ _ _ t c.if-numbers-orders.false used c.if-bad_used.false (rw log at c.bad_used.ensures.known) w.0 (w.1.0 ∙ c.copy_from_slice.ensures.after) w.1.1 in
    record { value = both.0; post = both.1.0; known = both.1.1.0; past = both.1.1.1 }
