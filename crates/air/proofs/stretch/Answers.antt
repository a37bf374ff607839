use borrow.Author.Rules.{rules}
use native.Mathlib.Nat.{add-sub_cancel_left}
use mathlib.Core.Path.{refl, sym}
use Rattle.air.proofs.Laws.{is_on_air, stretch_good, stretch_empty}
use Rattle.refusal.proofs.Refused.{never_0}
use Rattle.air.proofs.stretch.Goals as goal

pub overflow_mul-start : goal.overflow_mul-start
overflow_mul-start c = let h = is_on_air _ _ _ (sym c.in-Ok.ensures) in search rules

pub overflow_add-result : goal.overflow_add-result
overflow_add-result c = let h = is_on_air _ _ _ (sym c.in-Ok.ensures) in search rules

pub slice_bounds-result-end : goal.slice_bounds-result-end
slice_bounds-result-end c = let h = is_on_air _ _ _ (sym c.in-Ok.ensures) in search rules

pub returns-in-Ok : goal.returns-in-Ok
returns-in-Ok c = rw add-sub_cancel_left (stretch_good _ _ _ 0 c.in-Ok.ensures refl)

pub returns-in-Err : goal.returns-in-Err
returns-in-Err c = stretch_empty _ _ _ _ c.in-Err.ensures (never_0 _)
