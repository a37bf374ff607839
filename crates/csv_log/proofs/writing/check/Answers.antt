use Rattle.std.proofs.Common.{rules}
use mathlib.Core.Path.{◌∙◌}
use Rattle.refusal.proofs.Refused.{never_0, handed_on}
use Rattle.csv_log.specs.Writing.{records_in}
use Rattle.csv_log.proofs.Judging.{judging_start}
use Rattle.csv_log.proofs.HandedLaws.{handed_next, handed_bad, handed_end, handed_cut}
use Rattle.csv_log.proofs.writing.check.Goals as goal

pub loop-left-init : goal.loop-left-init
loop-left-init c = rw c.new-seen.ensures (judging_start (records_in _))

pub returns-in_err-see : goal.returns-in_err-see
returns-in_err-see c = handed_on _ _ c.from_residual.ensures.1 ∙ handed_bad _ _ _ _ c.in-len3-up.len_at_least c.loop-left.invariant c.in_err-see.ensures.value (never_0 _)

pub loop-left-preserved : goal.loop-left-preserved
loop-left-preserved c = handed_next _ _ _ _ c.in-len3-up.len_at_least c.loop-left.invariant c.in_ok-see.ensures.value c.in_ok-see.ensures.seen

pub returns-then-is_empty : goal.returns-then-is_empty
returns-then-is_empty c = handed_end _ _ c.loop-left.left.now (search rules) c.loop-left.invariant

pub returns-else-is_empty : goal.returns-else-is_empty
returns-else-is_empty c = handed_cut _ _ c.loop-left.left.now (search rules) c.in_default.len_below c.loop-left.invariant
