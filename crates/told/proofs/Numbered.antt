-- A result whose refusal became its number is the same answer. Assumes nothing.
use mathlib.Core.Path.{◌≡◌}
use Prim.Native.Nat.{ℕ}
use Rattle.std.specs.Prelude.{Result, Ok, Err, IsErrAnd, MatchResult}
use Rattle.refusal.specs.declared.Refusal.{Refusal}
use Rattle.refusal.specs.Numbers.{refusal_number}
use Rattle.steps.specs.declared.Sent.{Sent}
use Rattle.steps.specs.declared.Hearing.{Hearing}
use Rattle.steps.specs.OrderAnswer.{order_answer}
use Rattle.steps.specs.HearAnswer.{hear_answer}
use Rattle.steps.specs.BeaconAnswer.{beacon_answer}
use Rattle.told.specs.Told.{order_numbered, hear_numbered, beacon_numbered}

-- m is r with the refusal's number in place of the refusal
abbrev pub Numbered : {A : Type 0} → Result A Refusal → Result A ℕ → Type 0
Numbered r m = MatchResult r (λ x. m ≡ Ok x) (λ e. IsErrAnd m (λ n. n ≡ refusal_number e))

pub order_by_number : (r : Result Sent Refusal) (m : Result Sent ℕ) → Numbered r m → order_numbered m ≡ order_answer r
order_by_number (Ok x) m h = rw h
order_by_number (Err e) (Ok y) h = absurd h
order_by_number (Err e) (Err n) h = rw h

pub hear_by_number : (r : Result Hearing Refusal) (m : Result Hearing ℕ) → Numbered r m → hear_numbered m ≡ hear_answer r
hear_by_number (Ok x) m h = rw h
hear_by_number (Err e) (Ok y) h = absurd h
hear_by_number (Err e) (Err n) h = rw h

pub beacon_by_number : {A : Type 0} (r : Result A Refusal) (m : Result A ℕ) → Numbered r m → beacon_numbered m ≡ beacon_answer r
beacon_by_number (Ok x) m h = rw h
beacon_by_number (Err e) (Ok y) h = absurd h
beacon_by_number (Err e) (Err n) h = rw h
