-- What it means that a single step in a yard does what the model's does, and that refused steps do. Assumes nothing.
use mathlib.Core.Path.{◌≡◌, refl, ap}
use mathlib.Core.Logic.{◌⊎◌, inl, inr, ◌≢◌}
use mathlib.Core.Bool.{cond, not}
use Prim.Native.Nat.{ℕ, ◌<◌, ◌≤◌}
use lib.Dec.{ltb, leb, eqb}
use lib.ListN.{length}
use borrow.Author.Tests.{lt-ltb, le-leb, eq-eqb, ne_eqb}
use Rattle.cells.specs.Sets.{has_lane}
use Rattle.yard.specs.Singles.{frame_at}
use Rattle.yard.specs.Worlds.{World, Single, order, hear, beacon, single}
use Rattle.roll.specs.Runs.{one, answer, order_sent_by, sent_by}
use Rattle.roll.specs.Answers.{answer_number}
use Rattle.laws.proofs.TestLaws.{below_or_not}
use Rattle.model.proofs.Model as model
use Rattle.model.proofs.Invariants.{YardOk}
use Rattle.model.proofs.RollAccepted.{refused_by}
use Rattle.agreement.specs.YardRefusals.{order_yard_refusal, hear_yard_refusal, beacon_yard_refusal, step_refusal}
use Rattle.agreement.proofs.Views.{roles_of, air_view, yard_view}
use Rattle.agreement.proofs.Sound.{Sound}
use Rattle.agreement.proofs.OrderWays.{OrderStays}
use Rattle.agreement.proofs.HearWays.{HearStays}
use Rattle.agreement.proofs.BeaconWays.{BeaconStays}

module _ (present sources dests : ℕ) where
  abbrev R : model.Roles
  R = roles_of present sources dests

  -- what the steps need of the yard that they find and leave
  pub record Fit (Y : model.Yard) : Type 0 where
    pub ok : YardOk R Y
    pub low : (i : ℕ) → (Y.posts i).clock ≤ 1024
    pub room : Y.frames ≤ 2048

  pub record Simulates (w : World) (s : Single) : Type 0 where
    pub view : yard_view (single w s) ≡ model.step R (yard_view w) s
    pub sound : Sound present sources dests (single w s)
    pub number : answer_number (answer w (one s)) ≡ step_refusal w (one s)
    pub stays : 0 < step_refusal w (one s) → single w s ≡ w
    pub sends : sent_by w (one s) ≡ model.sent_by R (yard_view w) s

  -- ---- refused steps

  pub order_refused_same : (w : World) → Sound present sources dests w → (lane word n : ℕ) → OrderStays w lane word n → n ≢ 0
      → order_yard_refusal w lane word ≡ n → model.order_refused R (yard_view w) lane word ≡ n → Simulates w (order lane word)
  unfolding model.step model.sent_by sent_by order_sent_by answer
  order_refused_same w s lane word n o ne c m = record {
    view = rw (m, ne_eqb n 0 ne) (ap yard_view o.leaves);
    sound = rw o.leaves s;
    number = rw (o.answer, c);
    stays = λ l. o.leaves;
    sends = rw (o.answer, m, ne_eqb n 0 ne);
  }

  pub hear_refused_same : (w : World) → Sound present sources dests w → (lane k n : ℕ) → HearStays w lane k n → n ≢ 0
      → hear_yard_refusal w lane k ≡ n → model.hear_refused R (yard_view w) lane k ≡ n → Simulates w (hear lane k)
  unfolding model.step model.sent_by sent_by answer
  hear_refused_same w s lane k n o ne c m = record {
    view = rw (m, ne_eqb n 0 ne) (ap yard_view o.leaves);
    sound = rw o.leaves s;
    number = rw (o.answer, c);
    stays = λ l. o.leaves;
    sends = refl;
  }

  pub beacon_refused_same : (w : World) → Sound present sources dests w → (lane n : ℕ) → BeaconStays w lane n → n ≢ 0
      → beacon_yard_refusal w lane ≡ n → model.beacon_refused R (yard_view w) lane ≡ n → Simulates w (beacon lane)
  unfolding model.step model.sent_by sent_by answer
  beacon_refused_same w s lane n o ne c m = record {
    view = rw (m, ne_eqb n 0 ne) (ap yard_view o.leaves);
    sound = rw o.leaves s;
    number = rw (o.answer, c);
    stays = λ l. o.leaves;
    sends = refl;
  }

  -- ---- the yard's numbers are the model's

  pub order_numbers : (w : World) → Sound present sources dests w → (lane word : ℕ) → model.order_refused R (yard_view w) lane word ≡ order_yard_refusal w lane word
  unfolding model.order_refused order_yard_refusal
  order_numbers w s lane word = rw (s.its_present, s.its_sources, eq-eqb (length w.air) 65536 s.whole)

  pub hear_numbers : (w : World) → Sound present sources dests w → (lane k : ℕ) → model.hear_refused R (yard_view w) lane k ≡ hear_yard_refusal w lane k
  unfolding model.hear_refused hear_yard_refusal air_view
  hear_numbers w s lane k =
      rw (s.its_present, eq-eqb (length w.air) 65536 s.whole) (go (below_or_not k w.yard.frames))
    where
      go : (k < w.yard.frames) ⊎ (w.yard.frames ≤ k)
          → ◌≡◌ {A = ℕ}
          (cond (ltb 7 lane) 4 (cond (not (has_lane present lane)) 21 (cond (leb w.yard.frames k) 25 (cond (eqb (air_view w.air w.yard.frames k).sender lane) 26 0))))
          (cond (ltb 7 lane) 4 (cond (not (has_lane present lane)) 21 (cond (leb w.yard.frames k) 25 (cond (eqb (frame_at w.air k).sender lane) 26 0))))
      go (inl l) = rw (lt-ltb k w.yard.frames l)
      go (inr l) = rw (le-leb w.yard.frames k l)

  pub beacon_numbers : (w : World) → Sound present sources dests w → (lane : ℕ) → model.beacon_refused R (yard_view w) lane ≡ beacon_yard_refusal w lane
  unfolding model.beacon_refused beacon_yard_refusal
  beacon_numbers w s lane = rw (s.its_present, eq-eqb (length w.air) 65536 s.whole)

  -- every single step's
  pub single_numbers : (w : World) → Sound present sources dests w → (x : Single) → refused_by R (yard_view w) x ≡ step_refusal w (one x)
  single_numbers w s (order lane word) = order_numbers w s lane word
  single_numbers w s (hear lane k) = hear_numbers w s lane k
  single_numbers w s (beacon lane) = beacon_numbers w s lane
