-- A beacon in a yard, refused or not, does and answers what the model's beacon does. Assumes nothing.
use mathlib.Core.Path.{◌≡◌, refl, sym, ap, ◌∙◌}
use mathlib.Core.Logic.{◌⊎◌, inl, inr}
use mathlib.Core.Bool.{true, false, not}
use Prim.Native.Nat.{ℕ, ◌<◌, ◌≤◌}
use native.Mathlib.Omega.{arith}
use lib.ListN.{length}
use borrow.Author.Tests.{lt-ltb, le-ltb, le-leb, lt-leb, eq-eqb}
use Rattle.cells.specs.Sets.{has_lane}
use Rattle.state.specs.Yards.{post_at, beacons_at}
use Rattle.yard.specs.Worlds.{World, beacon}
use Rattle.roll.specs.Runs.{answer, sent_by}
use Rattle.laws.proofs.TestLaws.{below_or_not, true_or_false}
use Rattle.model.proofs.Model as model
use Rattle.agreement.specs.YardRefusals.{beacon_yard_refusal}
use Rattle.agreement.proofs.Views.{roles_of, yard_view}
use Rattle.agreement.proofs.Sound.{Sound}
use Rattle.agreement.proofs.BeaconWays.{beacon_4, beacon_21, beacon_27}
use Rattle.agreement.proofs.BeaconAccepted.{beacon_is_done, beacon_view, beacon_sound}
use Rattle.agreement.proofs.Simulates.{Fit, Simulates, beacon_refused_same, beacon_numbers}
use Rattle.agreement.proofs.HearSimulates.{not_in_yard_lem}

module _ (present sources dests : ℕ) where
  abbrev R : model.Roles
  R = roles_of present sources dests

  -- ---- the numbers of a beacon

  beacon_yard_4 : (w : World) (lane : ℕ) → 8 ≤ lane → beacon_yard_refusal w lane ≡ 4
  unfolding beacon_yard_refusal
  beacon_yard_4 w lane l = rw (lt-ltb 7 lane (omega arith))

  beacon_yard_21 : (w : World) → Sound present sources dests w → (lane : ℕ) → lane < 8 → has_lane present lane ≡ false → beacon_yard_refusal w lane ≡ 21
  unfolding beacon_yard_refusal
  beacon_yard_21 w s lane l e = rw (le-ltb 7 lane (omega arith), eq-eqb (length w.air) 65536 s.whole, s.its_present, e)

  beacon_yard_27 : (w : World) → Sound present sources dests w → (lane : ℕ) → lane < 8 → has_lane present lane ≡ true → 128 ≤ beacons_at w.yard lane
      → beacon_yard_refusal w lane ≡ 27
  unfolding beacon_yard_refusal
  beacon_yard_27 w s lane l e h =
      rw (le-ltb 7 lane (omega arith), eq-eqb (length w.air) 65536 s.whole, s.its_present, e, le-leb 128 (beacons_at w.yard lane) h)

  beacon_yard_0 : (w : World) → Sound present sources dests w → (lane : ℕ) → lane < 8 → has_lane present lane ≡ true → beacons_at w.yard lane < 128
      → beacon_yard_refusal w lane ≡ 0
  unfolding beacon_yard_refusal
  beacon_yard_0 w s lane l e h =
      rw (le-ltb 7 lane (omega arith), eq-eqb (length w.air) 65536 s.whole, s.its_present, e, lt-leb 128 (beacons_at w.yard lane) h)

  -- ---- beacon

  module _ (w : World) (s : Sound present sources dests w) (lane : ℕ)
      (after : Fit present sources dests (model.step R (yard_view w) (beacon lane))) where
    beacon_accepted : lane < 8 → has_lane present lane ≡ true → beacons_at w.yard lane < 128 → Simulates present sources dests w (beacon lane)
    unfolding answer sent_by model.step model.sent_by
    beacon_accepted l e h = record {
      view = beacon_view present sources dests w s lane l inside h room ∙ sym done_step;
      sound = beacon_sound present sources dests w s lane l inside h room;
      number = rw ((beacon_is_done present sources dests w s lane l inside h room).answer, c);
      stays = λ q. absurd (omega (arith, c));
      sends = refl;
    }
      where
        inside : not (has_lane (post_at w.yard lane).posts (post_at w.yard lane).lane) ≡ false
        inside = not_in_yard_lem present sources dests w s lane l ∙ ap not e

        c : beacon_yard_refusal w lane ≡ 0
        c = beacon_yard_0 w s lane l e h

        done_step : model.step R (yard_view w) (beacon lane) ≡ model.beacon_done R (yard_view w) lane
        done_step = rw (beacon_numbers present sources dests w s lane ∙ c)

        room : w.yard.frames < 2048
        room = omega (arith, ap (λ (Z : model.Yard). Z.frames) done_step, after.room)

    pub beacon_simulates : Simulates present sources dests w (beacon lane)
    beacon_simulates = go (below_or_not lane 8) (true_or_false (has_lane present lane)) (below_or_not (beacons_at w.yard lane) 128)
      where
        go : (lane < 8) ⊎ (8 ≤ lane) → (has_lane present lane ≡ true) ⊎ (has_lane present lane ≡ false) → (beacons_at w.yard lane < 128) ⊎ (128 ≤ beacons_at w.yard lane)
            → Simulates present sources dests w (beacon lane)
        go (inr l) e h =
            let c = beacon_yard_4 w lane l in
            beacon_refused_same present sources dests w s lane 4 (beacon_4 w lane l) (omega arith) c (beacon_numbers present sources dests w s lane ∙ c)
        go (inl l) (inr e) h =
            let c = beacon_yard_21 w s lane l e in
            beacon_refused_same present sources dests w s lane 21
            (beacon_21 w lane l s.whole (not_in_yard_lem present sources dests w s lane l ∙ ap not e)) (omega arith) c
            (beacon_numbers present sources dests w s lane ∙ c)
        go (inl l) (inl e) (inr h) =
            let c = beacon_yard_27 w s lane l e h in
            beacon_refused_same present sources dests w s lane 27
            (beacon_27 w lane l s.whole (not_in_yard_lem present sources dests w s lane l ∙ ap not e) h) (omega arith) c
            (beacon_numbers present sources dests w s lane ∙ c)
        go (inl l) (inl e) (inl h) = beacon_accepted l e h
