-- What a beacon answers: no more than "sent", or refused by a number. Assumes nothing.
use Rattle.std.specs.Prelude.{ℕ, Result, Ok, Err}
use Rattle.refusal.specs.declared.Refusal.{Refusal}
use Rattle.refusal.specs.Numbers.{refusal_number}

pub data BeaconAnswer : Type 0 where
  Sent : BeaconAnswer
  Refused : ℕ → BeaconAnswer

-- the same of a result, whatever beside its being sent it has
abbrev pub beacon_answer : {A : Type 0} → Result A Refusal → BeaconAnswer
beacon_answer (Ok _) = Sent
beacon_answer (Err refusal) = Refused (refusal_number refusal)
