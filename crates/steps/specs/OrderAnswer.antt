-- What an order answers: sent, with its serial, its stamp and the count delivered, or refused by a number. Assumes nothing.
use Rattle.std.specs.Prelude.{ℕ, Result, Ok, Err}
use Rattle.refusal.specs.declared.Refusal.{Refusal}
use Rattle.refusal.specs.Numbers.{refusal_number}
use Rattle.frame.specs.declared.Serial.{Serial}
use Rattle.frame.specs.declared.Stamp.{Stamp}
use Rattle.steps.specs.declared.Sent as sends

pub data OrderAnswer : Type 0 where
  Sent : Serial → Stamp → ℕ → OrderAnswer
  Refused : ℕ → OrderAnswer

-- the same of a result
abbrev pub order_answer : Result sends.Sent Refusal → OrderAnswer
order_answer (Ok sent) = Sent sent.serial sent.stamp sent.count
order_answer (Err refusal) = Refused (refusal_number refusal)
