-- The first refused line and its number; number 0 for a script that is not refused, beside how many lines it has. Assumes nothing.
use Rattle.std.specs.Prelude.{ℕ, Result, Ok, Err}
use Rattle.refusal.specs.Numbers.{refusal_number}
use Rattle.lines.specs.declared.BadLine.{BadLine}

pub record Judged : Type 0 where
  pub line : ℕ
  pub number : ℕ

-- the same of a result
abbrev pub judged_answer : Result ℕ BadLine → Judged
judged_answer (Ok lines) = record { line = lines; number = 0 }
judged_answer (Err bad) = record { line = bad.line; number = refusal_number bad.refusal }
