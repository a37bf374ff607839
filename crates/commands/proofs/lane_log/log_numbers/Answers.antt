use native.Mathlib.Omega.{arith}
use mathlib.Core.Path.{refl}
use lib.Seq.{take_all}
use Rattle.row.specs.Rows.{post_in}
use Rattle.csv_log.specs.Log.{item_numbers}
use Rattle.commands.proofs.LogNumbers.{numbers_more, numbers_done, few_places}
use Rattle.commands.proofs.lane_log.log_numbers.Goals as goal

pub loop-place-init : goal.loop-place-init
unfolding item_numbers
loop-place-init c = record { count = refl; written = refl }

pub put_order-requires : goal.put_order-requires
put_order-requires c = omega (arith, c.loop-place.invariant.count, few_places c.args.row.now _ c.log_of-place-items.ensures)

pub overflow_add-n : goal.overflow_add-n
overflow_add-n c = record { fits = omega (arith, c.loop-place.invariant.count, few_places c.args.row.now _ c.log_of-place-items.ensures) }

pub loop-place-preserved : goal.loop-place-preserved
loop-place-preserved c =
    let i = c.loop-place.invariant in
    record { count = omega (arith, i.count); written = numbers_more _ _ _ (post_in c.args.row.now) _ _ _ _ (omega arith) i.count i.written refl c.put_order.ensures }

pub returns : goal.returns
returns c =
    let i = c.loop-place.invariant in
    let places = c.log_of-place-items in
    record {
      value = numbers_done c.args.row.now places.result.now c.loop-place.place-index _ places.ensures (omega arith) i.count;
      numbers = rw (← places.ensures, ← take_all c.loop-place.place-index places.result.now c.loop-place-test.false) i.written;
    }
