use mathlib.Core.Path.{sym, ◌∙◌}
use native.Mathlib.Omega.{arith}
use Rattle.lines.proofs.Values.{with_values}
use Rattle.reader.proofs.LetterLaws.{line_order, line_hear, line_beacon, line_roll, line_yard, line_none}
use Rattle.reader.proofs.read_line.Goals as goal

pub returns-in-111 : goal.returns-in-111
returns-in-111 c =
    let both = with_values _ _ _ (line_order _ _ _ (sym c.byte_after.ensures ∙ c.in-111.is) c.read_order_line.ensures) in
    record { value = both.0; values = both.1 }

pub returns-in-104 : goal.returns-in-104
returns-in-104 c =
    let both = with_values _ _ _ (line_hear _ _ _ (sym c.byte_after.ensures ∙ c.in-104.is) c.read_hear_line.ensures) in
    record { value = both.0; values = both.1 }

pub returns-in-98 : goal.returns-in-98
returns-in-98 c =
    let both = with_values _ _ _ (line_beacon _ _ _ (sym c.byte_after.ensures ∙ c.in-98.is) c.read_beacon_line.ensures) in
    record { value = both.0; values = both.1 }

pub returns-in-114 : goal.returns-in-114
returns-in-114 c =
    let both = with_values _ _ _ (line_roll _ _ _ (sym c.byte_after.ensures ∙ c.in-114.is) c.read_roll_line.ensures) in
    record { value = both.0; values = both.1 }

pub returns-in-121 : goal.returns-in-121
returns-in-121 c =
    let both = with_values _ _ _ (line_yard _ _ _ (sym c.byte_after.ensures ∙ c.in-121.is) c.read_yard_line.ensures) in
    record { value = both.0; values = both.1 }

pub returns-in_default : goal.returns-in_default
returns-in_default c =
    let none = line_none c.args.s.now c.args.at (λ z. omega arith) (λ z. omega arith) (λ z. omega arith) (λ z. omega arith) (λ z. omega arith) in
    let both = with_values _ _ _ none in
    record { value = both.0; values = both.1 }
