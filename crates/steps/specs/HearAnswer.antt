-- What a hearing answers: taken, again, early or a beacon, each with the count delivered, or refused by a number. Assumes nothing.
use Rattle.std.specs.Prelude.{ℕ, Result, Ok, Err}
use Rattle.refusal.specs.declared.Refusal.{Refusal}
use Rattle.refusal.specs.Numbers.{refusal_number}
use Rattle.steps.specs.declared.Hearing as heard

pub data HearAnswer : Type 0 where
  Taken : ℕ → HearAnswer
  Again : ℕ → HearAnswer
  Early : ℕ → HearAnswer
  Beacon : ℕ → HearAnswer
  Refused : ℕ → HearAnswer

-- the same of a result
abbrev pub hear_answer : Result heard.Hearing Refusal → HearAnswer
hear_answer (Ok (heard.TheVariants.Taken count)) = Taken count
hear_answer (Ok (heard.TheVariants.Again count)) = Again count
hear_answer (Ok (heard.TheVariants.Early count)) = Early count
hear_answer (Ok (heard.TheVariants.Beacon count)) = Beacon count
hear_answer (Err refusal) = Refused (refusal_number refusal)
