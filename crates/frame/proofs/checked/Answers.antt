use mathlib.Core.Path.{refl, ◌∙◌}
use Rattle.frame.proofs.Laws.{read_long, read_judges, start_in, start_refused, entries_judged}
use Rattle.refusal.proofs.Refused.{never_0, handed_on}
use Rattle.frame.proofs.checked.Goals as goal

pub returns-in_default-clause-number : goal.returns-in_default-clause-number
returns-in_default-clause-number c = read_long _ c.in_default.ensures.cases

pub returns-in_err-check_start-clause-number : goal.returns-in_err-check_start-clause-number
returns-in_err-check_start-clause-number c =
    let whole = c.in-Some.ensures.cases in
    let start = start_in c.in-Some.bytes.now _ _ _ c.pair_at.ensures c.pair_at-word.ensures c.in_err-check_start.ensures in
    handed_on _ _ c.from_residual.ensures.1
    ∙ read_judges c.args.bytes.now _ whole.long (rw whole.same at (start_refused _ _ start (never_0 _)))

pub returns-then-bad_entries_in-clause-number : goal.returns-then-bad_entries_in-clause-number
returns-then-bad_entries_in-clause-number c =
    let whole = c.in-Some.ensures.cases in
    let start = start_in c.in-Some.bytes.now _ _ _ c.pair_at.ensures c.pair_at-word.ensures c.in_ok-check_start.ensures in
    read_judges c.args.bytes.now _ whole.long (rw whole.same at (entries_judged _ 0 11 _ start refl c.bad_entries_in.ensures (rw c.if-bad_entries_in.true)))

pub returns-clause-number : goal.returns-clause-number
returns-clause-number c =
    let whole = c.in-Some.ensures.cases in
    let start = start_in c.in-Some.bytes.now _ _ _ c.pair_at.ensures c.pair_at-word.ensures c.in_ok-check_start.ensures in
    read_judges c.args.bytes.now _ whole.long (rw whole.same at (entries_judged _ 0 0 _ start refl c.bad_entries_in.ensures (rw c.if-bad_entries_in.false)))
