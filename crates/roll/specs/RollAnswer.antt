-- What a roll call answers: how many single steps it ran, or refused by a number. Assumes nothing.
use Rattle.std.specs.Prelude.{ℕ, Result, Ok, Err}
use Rattle.refusal.specs.declared.Refusal.{Refusal}
use Rattle.refusal.specs.Numbers.{refusal_number}

pub data RollAnswer : Type 0 where
  Called : ℕ → RollAnswer
  Refused : ℕ → RollAnswer

-- the same of a result
abbrev pub roll_answer : Result ℕ Refusal → RollAnswer
roll_answer (Ok count) = Called count
roll_answer (Err refusal) = Refused (refusal_number refusal)
