use mathlib.Core.Path.{refl, ◌∙◌}
use Rattle.frame.specs.Parts.{start_refusal}
use Rattle.frame.proofs.Laws.{start_refused, entries_judged}
use Rattle.refusal.proofs.Refused.{never_0, handed_on}
use Rattle.frame.proofs.Frame.check.Goals as goal

pub returns-in_err-check_start : goal.returns-in_err-check_start
unfolding start_refusal
returns-in_err-check_start c = handed_on _ _ c.from_residual.ensures.1 ∙ start_refused c.args.self _ c.in_err-check_start.ensures (never_0 _)

pub returns-then-bad_entries : goal.returns-then-bad_entries
unfolding start_refusal
returns-then-bad_entries c = entries_judged c.args.self 0 _ _ c.in_ok-check_start.ensures refl c.bad_entries.ensures (rw c.if-bad_entries.true)

pub returns : goal.returns
unfolding start_refusal
returns c = entries_judged c.args.self 0 _ _ c.in_ok-check_start.ensures refl c.bad_entries.ensures (rw c.if-bad_entries.false)
