-- With an air of any other length than 65,536 bytes every step is refused, and nothing ever changes. Assumes nothing.
use mathlib.Core.Path.{◌≡◌, refl, ap, ◌∙◌}
use mathlib.Core.List.{List, [], ◌∷◌}
use mathlib.Core.Logic.{◌⊎◌, inl, inr, ◌≢◌}
use Prim.Native.Nat.{ℕ, ◌<◌, ◌≤◌}
use native.Mathlib.Omega.{arith}
use lib.ListN.{length}
use borrow.Author.Tests.{lt-ltb, le-ltb, ne_eqb}
use Rattle.yard.specs.Worlds.{World, order, hear, beacon}
use Rattle.roll.specs.RollCall.{roll_refusal, roll_call, roll_call_air}
use Rattle.roll.specs.Runs.{Step, one, roll, answer, step, run, order_sent_by, sent_by, sent}
use Rattle.roll.specs.Answers.{answer_number}
use Rattle.laws.proofs.TestLaws.{below_or_not}
use Rattle.agreement.specs.YardRefusals.{order_yard_refusal, hear_yard_refusal, beacon_yard_refusal, step_refusal}
use Rattle.agreement.proofs.OrderWays.{order_4, order_5, order_13}
use Rattle.agreement.proofs.HearWays.{hear_4, hear_13}
use Rattle.agreement.proofs.BeaconWays.{beacon_4, beacon_13}

-- a step that is refused for the yard's own reason, and changes nothing
pub record Refused (w : World) (s : Step) : Type 0 where
  pub number : answer_number (answer w s) ≡ step_refusal w s
  pub some : 0 < answer_number (answer w s)
  pub stays : step w s ≡ w
  pub nothing : sent_by w s ≡ []

module _ (w : World) (bad : length w.air ≢ 65536) where
  order_refused_lem : (lane word : ℕ) → Refused w (one (order lane word))
  unfolding answer step sent_by order_sent_by order_yard_refusal
  order_refused_lem lane word = go (below_or_not lane 8) (below_or_not 65535 word)
    where
      go : (lane < 8) ⊎ (8 ≤ lane) → (65535 < word) ⊎ (word ≤ 65535) → Refused w (one (order lane word))
      go (inr l) b =
          let o = order_4 w lane word l in
          record { number = rw (o.answer, lt-ltb 7 lane (omega arith)); some = rw o.answer (omega arith); stays = o.leaves; nothing = rw o.answer }
      go (inl l) (inl b) =
          let o = order_5 w lane word l b in
          record {
            number = rw (o.answer, le-ltb 7 lane (omega arith), lt-ltb 65535 word b);
            some = rw o.answer (omega arith);
            stays = o.leaves;
            nothing = rw o.answer;
          }
      go (inl l) (inr b) =
          let o = order_13 w lane word l b bad in
          record {
            number = rw (o.answer, le-ltb 7 lane (omega arith), le-ltb 65535 word b, ne_eqb (length w.air) 65536 bad);
            some = rw o.answer (omega arith);
            stays = o.leaves;
            nothing = rw o.answer;
          }

  hear_refused_lem : (lane k : ℕ) → Refused w (one (hear lane k))
  unfolding answer step sent_by hear_yard_refusal
  hear_refused_lem lane k = go (below_or_not lane 8)
    where
      go : (lane < 8) ⊎ (8 ≤ lane) → Refused w (one (hear lane k))
      go (inr l) =
          let o = hear_4 w lane k l in
          record { number = rw (o.answer, lt-ltb 7 lane (omega arith)); some = rw o.answer (omega arith); stays = o.leaves; nothing = refl }
      go (inl l) =
          let o = hear_13 w lane k l bad in
          record {
            number = rw (o.answer, le-ltb 7 lane (omega arith), ne_eqb (length w.air) 65536 bad);
            some = rw o.answer (omega arith);
            stays = o.leaves;
            nothing = refl;
          }

  beacon_refused_lem : (lane : ℕ) → Refused w (one (beacon lane))
  unfolding answer step sent_by beacon_yard_refusal
  beacon_refused_lem lane = go (below_or_not lane 8)
    where
      go : (lane < 8) ⊎ (8 ≤ lane) → Refused w (one (beacon lane))
      go (inr l) =
          let o = beacon_4 w lane l in
          record { number = rw (o.answer, lt-ltb 7 lane (omega arith)); some = rw o.answer (omega arith); stays = o.leaves; nothing = refl }
      go (inl l) =
          let o = beacon_13 w lane l bad in
          record {
            number = rw (o.answer, le-ltb 7 lane (omega arith), ne_eqb (length w.air) 65536 bad);
            some = rw o.answer (omega arith);
            stays = o.leaves;
            nothing = refl;
          }

  roll_13 : roll_refusal w ≡ 13
  unfolding roll_refusal
  roll_13 = rw (ne_eqb (length w.air) 65536 bad)

  roll_refused_lem : Refused w roll
  unfolding answer step sent_by roll_call roll_call_air
  roll_refused_lem = record { number = rw roll_13; some = rw roll_13 (omega arith); stays = rw roll_13; nothing = refl }

  pub each_refused : (s : Step) → Refused w s
  each_refused (one (order lane word)) = order_refused_lem lane word
  each_refused (one (hear lane k)) = hear_refused_lem lane k
  each_refused (one (beacon lane)) = beacon_refused_lem lane
  each_refused roll = roll_refused_lem

  -- so after any list of steps the world is as it was, and nothing was sent
  pub never_runs : (steps : List Step) → run w steps ≡ w
  unfolding run
  never_runs [] = refl
  never_runs (s ∷ l) = ap (λ (x : World). run x l) (each_refused s).stays ∙ never_runs l

  pub never_sends : (steps : List Step) → sent w steps ≡ []
  unfolding sent
  never_sends [] = refl
  never_sends (s ∷ l) = rw ((each_refused s).nothing, (each_refused s).stays) (never_sends l)
