use native.Mathlib.Omega.{arith}
use mathlib.Core.Path.{sym}
use mathlib.Core.Logic.{inl, inr}
use Rattle.scan.proofs.TextLaws.{stands_in, text_yes, text_no}
use Rattle.scan.proofs.read_text.Goals as goal
use Rattle.scan.proofs.read_text.Goals.{else-c-via-then-c+else-stands_at, else-c-via-else-c}

pub overflow_add-result : goal.overflow_add-result
overflow_add-result c = omega (arith, stands_in _ _ _ (sym c.if-stands_at.ensures))

pub returns-then-stands_at : goal.returns-then-stands_at
returns-then-stands_at c = text_yes _ _ _ c.if-c.true c.if-stands_at.ensures

pub returns-else-c : goal.returns-else-c
returns-else-c c =
    text_no _ _ _ _ c.fail.ensures
    (elim c.else-c.branch [ else-c-via-then-c+else-stands_at w ↦ inr w.if-stands_at.ensures | else-c-via-else-c w ↦ inl w.if-c.false ])
