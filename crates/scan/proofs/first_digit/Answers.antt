use mathlib.Core.Logic.{inl, inr}
use Rattle.scan.proofs.NumberLaws.{first_yes, first_no}
use Rattle.scan.proofs.first_digit.Goals as goal
use Rattle.scan.proofs.first_digit.Goals.{in_default-via-in-Some+else-c, in_default-via-in_default}

pub returns-in-Some : goal.returns-in-Some
returns-in-Some c = first_yes _ _ _ c.if-c.true c.in-Some.ensures.value c.in-Some.ensures.within.1

pub returns-in_default : goal.returns-in_default
returns-in_default c =
    first_no _ _ _ c.fail.ensures
    (elim c.in_default.branch [ in_default-via-in-Some+else-c w ↦ inl w.if-c.false | in_default-via-in_default w ↦ inr w.in_default.ensures.value ])
