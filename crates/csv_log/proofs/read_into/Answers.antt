use mathlib.Core.Path.{◌∙◌}
use Rattle.refusal.proofs.Refused.{handed_on}
use Rattle.csv_log.proofs.Entries.{read_number, read_orders}
use Rattle.csv_log.proofs.read_into.Goals as goal

pub returns-in_err-orders-clause-refusal : goal.returns-in_err-orders-clause-refusal
returns-in_err-orders-clause-refusal c =
    handed_on _ _ c.from_residual.ensures.1 ∙ read_number c.args.file.now c.args.numbers.now _ _ c.in-Some.ensures.cases.long c.in_err-orders.ensures.value

pub returns-clause-refusal : goal.returns-clause-refusal
returns-clause-refusal c = read_number c.args.file.now c.args.numbers.now _ _ c.in-Some.ensures.cases.long c.in_ok-orders.ensures.value

pub returns-clause-orders : goal.returns-clause-orders
returns-clause-orders c = (read_orders _ _ c.in_ok-orders.ensures.value).0
