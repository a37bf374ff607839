use Rattle.scan.proofs.NumberLaws.{digit_yes, digit_no}
use Rattle.scan.proofs.digit_at.Goals as goal

pub returns-then-is_ascii_digit-clause-value : goal.returns-then-is_ascii_digit-clause-value
returns-then-is_ascii_digit-clause-value c =
    digit_yes _ _ _ _ c.byte_at-x.ensures c.if-is_ascii_digit.ensures.value c.from.ensures

pub returns-else-is_ascii_digit-clause-value : goal.returns-else-is_ascii_digit-clause-value
returns-else-is_ascii_digit-clause-value c = digit_no _ _ _ c.byte_at-x.ensures c.if-is_ascii_digit.ensures.value
