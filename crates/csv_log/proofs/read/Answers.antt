use native.Mathlib.Omega.{arith}
use mathlib.Core.Path.{refl, sym}
use lib.Seq.{length-take-le}
use Rattle.refusal.proofs.Refused.{never_0}
use Rattle.csv_log.proofs.Entries.{read_orders, read_bad, read_good}
use Rattle.csv_log.proofs.read.Goals as goal

pub slice_bounds-copy_from_slice-end : goal.slice_bounds-copy_from_slice-end
slice_bounds-copy_from_slice-end c = let r = read_orders c.args.file.now _ c.in_ok-orders.ensures.value in omega (arith, r.0, r.1)

pub slice_bounds-copy_from_slice-end-2 : goal.slice_bounds-copy_from_slice-end-2
slice_bounds-copy_from_slice-end-2 c =
    let r = read_orders c.args.file.now _ c.in_ok-orders.ensures.value in sym (length-take-le _ _ (omega (arith, c.told-numbers, r.0, r.1)))

pub slice_bounds-found-end : goal.slice_bounds-found-end
slice_bounds-found-end c = let r = read_orders c.args.file.now _ c.in_ok-orders.ensures.value in omega (arith, c.read_file.array_long, r.0, r.1)

pub slice_bounds-copy_from_slice-end-3 : goal.slice_bounds-copy_from_slice-end-3
slice_bounds-copy_from_slice-end-3 c =
    let r = read_orders c.args.file.now _ c.in_ok-orders.ensures.value in sym (length-take-le _ _ (omega (arith, c.read_file.array_long, r.0, r.1)))

pub returns-in_err-orders-clause-numbers : goal.returns-in_err-orders-clause-numbers
returns-in_err-orders-clause-numbers c = read_bad c.args.file.now _ _ _ c.told-numbers c.in_err-orders.ensures.value (never_0 _)

pub returns-clause-numbers : goal.returns-clause-numbers
returns-clause-numbers c =
    let e = c.in_ok-orders.ensures in
    read_good c.args.file.now c.args.numbers.now _ _ _ _ (λ b. c.told-numbers) refl e.value e.found c.copy_from_slice.ensures.after
