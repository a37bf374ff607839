use mathlib.Core.Logic.{inl, inr}
use native.Mathlib.Omega.{arith}
use Rattle.scan.proofs.NumberLaws.{first_small, number_more, number_short}
use Rattle.scan.proofs.read_number.Goals as goal
use Rattle.scan.proofs.read_number.Goals.{else-n-via-then-n+else-n-gt0, else-n-via-else-n}

pub more_digits-requires-clause-below : goal.more_digits-requires-clause-below
more_digits-requires-clause-below c = first_small _ _ _ c.first_digit-n.ensures c.if-n.true

pub returns-then-n-gt0 : goal.returns-then-n-gt0
returns-then-n-gt0 c = number_more _ _ _ _ c.first_digit-n.ensures c.more_digits.ensures

pub returns-else-n : goal.returns-else-n
returns-else-n c =
    number_short _ _ _ c.first_digit-n.ensures
    (elim c.else-n.branch [ else-n-via-then-n+else-n-gt0 w ↦ inr (omega (arith, w.if-n-gt0.false)) | else-n-via-else-n w ↦ inl w.if-n.false ])
