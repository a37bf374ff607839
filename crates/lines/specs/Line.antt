-- A line as it was read, with the place of the line after it, or the number that it is refused by (2 to 5). Assumes nothing.
use Rattle.std.specs.Prelude.{ℕ, Result, Ok, Err}
use Rattle.refusal.specs.declared.Refusal.{Refusal}
use Rattle.refusal.specs.Numbers.{refusal_number}
use Rattle.lines.specs.declared.Line as reads

pub data Line : Type 0 where
  -- posts, sources, dests, next
  Yard : ℕ → ℕ → ℕ → ℕ → Line
  -- lane, word, next
  Order : ℕ → ℕ → ℕ → Line
  -- lane, frame, next
  Hear : ℕ → ℕ → ℕ → Line
  -- lane, next
  Beacon : ℕ → ℕ → Line
  -- next
  Roll : ℕ → Line
  Refused : ℕ → Line

-- the same of a result
abbrev pub line_answer : Result reads.Line Refusal → Line
line_answer (Ok (reads.TheVariants.Yard posts sources dests next)) = Yard posts sources dests next
line_answer (Ok (reads.TheVariants.Order lane word next)) = Order lane word next
line_answer (Ok (reads.TheVariants.Hear lane frame next)) = Hear lane frame next
line_answer (Ok (reads.TheVariants.Beacon lane next)) = Beacon lane next
line_answer (Ok (reads.TheVariants.Roll next)) = Roll next
line_answer (Err refusal) = Refused (refusal_number refusal)

-- the same of a result refused by a number, whatever number it is
abbrev pub line_numbered : Result reads.Line ℕ → Line
line_numbered (Ok l) = line_answer (Ok l)
line_numbered (Err number) = Refused number

-- the same where it does not matter why it is refused
abbrev pub line_or_none : {E : Type 0} → Result reads.Line E → Line
line_or_none (Ok l) = line_answer (Ok l)
line_or_none (Err why) = Refused 0
