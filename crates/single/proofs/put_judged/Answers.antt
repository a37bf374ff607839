use native.Mathlib.Omega.{arith}
use mathlib.Core.Path.{◌≡◌, sym, ◌∙◌}
use borrow.Author.Tests.{le-leb}
use lib.ListN.{length}
use Rattle.row.specs.Rows.{post_in}
use Rattle.refusal.proofs.Refused.{ok_number}
use Rattle.single.proofs.Rows.{of_type, row_judged, judged}
use Rattle.single.proofs.put_judged.Goals as goal

pub returns-clause-number : goal.returns-clause-number
returns-clause-number c =
    row_judged c.args.p c.load.new.row _ (omega (arith, c.load.auto.row))
    (rw (le-leb 543 (length c.args.row.now) (omega arith)) at c.load.ensures.row_after) c.judge.ensures.value

pub returns-clause-row : goal.returns-clause-row
returns-clause-row c =
    let loaded : post_in c.load.new.row ≡ c.args.p = rw (le-leb 543 (length c.args.row.now) (omega arith)) at c.load.ensures.row_after in
    λ h. judged c.args.p c.load.new.row c.judge.new.row (of_type c.args.p _ c.well_formed.1.0) (omega (arith, c.load.auto.row)) loaded
    (sym (ok_number _ h) ∙ c.judge.ensures.value) (omega (arith, c.judge.auto.row, c.load.auto.row)) c.judge.ensures.post c.judge.ensures.known
