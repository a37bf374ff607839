-- A fresh yard that is not refused: its roles, its records, and how the model sees it. Assumes nothing.
use mathlib.Core.Path.{◌≡◌, refl, ap, ◌∙◌}
use mathlib.Core.List.{List, []}
use mathlib.Core.Logic.{◌⊎◌, inl, inr}
use mathlib.Core.Bool.{true, false, cond}
use Prim.Native.Nat.{ℕ, zero, suc, ◌/◌, ◌%◌, ◌^◌, ◌<◌, ◌≤◌}
use native.Mathlib.Omega.{arith}
use lib.Dec.{ltb, eqb}
use lib.Count.{ones}
use lib.ListN.{length, length-replicate, get_or-eq_default}
use borrow.Author.Tests.{ltb-true, eqb-false}
use Rattle.frame.proofs.Laws.{passed}
use Rattle.cells.specs.Sets.{has_lane, role_astray}
use Rattle.post.specs.Record.{fresh_post}
use Rattle.judge.specs.Judgement.{bad_record}
use Rattle.state.specs.Yards.{no_post, post_at, beacons_at, fresh_yard, yard_refusal}
use Rattle.roll.specs.Logs.{log_at}
use Rattle.laws.proofs.TestLaws.{below_or_not, and_parts}
use Rattle.laws.proofs.Valid.{Valid, valid_judged}
use Rattle.laws.proofs.ValidFresh.{fresh_shaped, fresh_valid}
use Rattle.model.proofs.Model as model
use Rattle.model.proofs.Invariants.{RolesOk}
use Rattle.agreement.specs.Demand3.{fresh_world}
use Rattle.agreement.proofs.Views.{roles_of, places_view, post_view, air_view, yard_view}
use Rattle.agreement.proofs.ArrayViews.{lanes_zeros, places_zeros}
use Rattle.agreement.proofs.PostViews.{view_fresh, view_none}
use Rattle.agreement.proofs.Sound.{InYard, Sound}

-- a lane of a set is one of the eight
pub below_eight : (set i : ℕ) → has_lane set i ≡ true → i < 8
below_eight set i e = ltb-true i 8 (and_parts (ltb i 8) (eqb (set / 2 ^ i % 2) 1) e).0

module _ (present sources dests : ℕ) where
  -- the record of each lane
  pub fresh_at : (lane : ℕ) → lane < 8 → post_at (fresh_yard present sources dests) lane ≡ fresh_post lane present sources dests
  unfolding fresh_yard
  fresh_at zero l = refl
  fresh_at (suc zero) l = refl
  fresh_at (suc (suc zero)) l = refl
  fresh_at (suc (suc (suc zero))) l = refl
  fresh_at (suc (suc (suc (suc zero)))) l = refl
  fresh_at (suc (suc (suc (suc (suc zero))))) l = refl
  fresh_at (suc (suc (suc (suc (suc (suc zero)))))) l = refl
  fresh_at (suc (suc (suc (suc (suc (suc (suc zero))))))) l = refl
  fresh_at (suc (suc (suc (suc (suc (suc (suc (suc n)))))))) l = absurd (omega arith)

  eight_posts : length (fresh_yard present sources dests).posts ≡ 8
  unfolding fresh_yard
  eight_posts = refl

  pub none_past : (lane : ℕ) → 8 ≤ lane → post_at (fresh_yard present sources dests) lane ≡ no_post
  none_past lane l = get_or-eq_default (fresh_yard present sources dests).posts no_post {n = lane} (omega (arith, eight_posts))

  -- as the model sees it
  fresh_post_view : (lane : ℕ) → post_view (post_at (fresh_yard present sources dests) lane) ≡ model.fresh_post
  fresh_post_view lane = go (below_or_not lane 8)
    where
      go : (lane < 8) ⊎ (8 ≤ lane) → post_view (post_at (fresh_yard present sources dests) lane) ≡ model.fresh_post
      go (inl l) = ap post_view (fresh_at lane l) ∙ view_fresh lane present sources dests
      go (inr l) = ap post_view (none_past lane l) ∙ view_none

  fresh_frames : (fresh_yard present sources dests).frames ≡ 0
  unfolding fresh_yard
  fresh_frames = refl

  pub fresh_beacons : beacons_at (fresh_yard present sources dests) ≡ (λ (i : ℕ). 0)
  unfolding fresh_yard
  fresh_beacons = lanes_zeros 8

  fresh_first : places_view (fresh_yard present sources dests).first ≡ (λ (i n : ℕ). 0)
  unfolding fresh_yard
  fresh_first = places_zeros 128

  pub fresh_view : (air : List ℕ) → yard_view (fresh_world present sources dests air) ≡ model.fresh (air_view air 0)
  unfolding model.fresh
  fresh_view air = λ t. record {
    posts = λ lane. fresh_post_view lane t;
    air = air_view air (fresh_frames t);
    frames = fresh_frames t;
    beacons = fresh_beacons t;
    first = fresh_first t;
  }

  -- nothing was sent
  pub fresh_serial : (lane : ℕ) → (post_at (fresh_yard present sources dests) lane).serial.0 ≡ 0
  fresh_serial lane = ap (λ (P : model.Post). P.own) (fresh_post_view lane) ∙ (unfold model.fresh_post in refl)

  -- a log in which there is nothing
  pub fresh_log : (air : List ℕ) (lane : ℕ) → log_at (fresh_world present sources dests air) lane ≡ []
  fresh_log air lane = ap (λ (P : model.Post). P.log) (fresh_post_view lane) ∙ (unfold model.fresh_post in refl)

  module _ (small : present < 256) (smallSources : sources < 256) (smallDests : dests < 256) (z : yard_refusal present sources dests ≡ 0) where
    -- neither 3 nor 12
    neither_arises : (eqb (ones present) 0 ≡ false) × (role_astray present sources dests ≡ false)
    neither_arises =
        let parts = passed (eqb (ones present) 0) 3 (cond (role_astray present sources dests) 12 0) (omega arith) (unfold yard_refusal in z) in
        (parts.0, (passed (role_astray present sources dests) 12 0 (omega arith) parts.1).0)

    -- N is not 0
    pub some_ones : 0 < ones present
    some_ones = let e = eqb-false (ones present) 0 neither_arises.0 in omega arith

    first_valid : Valid (fresh_post 0 present sources dests)
    first_valid = fresh_valid 0 present sources dests (omega arith) neither_arises.1

    pub roles_ok : RolesOk (roles_of present sources dests)
    roles_ok = record {
      sources_present = λ i e. first_valid.sources i (below_eight sources i e) e;
      dests_present = λ i e. first_valid.dests i (below_eight dests i e) e;
      present_lanes = λ i e. below_eight present i e;
    }

    fresh_in_yard : (lane : ℕ) → lane < 8 → InYard present sources dests lane (post_at (fresh_yard present sources dests) lane)
    fresh_in_yard lane l = rw (fresh_at lane l) (record {
      its_lane = refl;
      its_posts = refl;
      its_sources = refl;
      its_dests = refl;
      shaped = fresh_shaped lane present sources dests small smallSources smallDests;
      valid = fresh_valid lane present sources dests l neither_arises.1;
    })

    pub fresh_sound : (air : List ℕ) → length air ≡ 65536 → Sound present sources dests (fresh_world present sources dests air)
    fresh_sound air e = record {
      its_present = unfold fresh_yard in refl;
      its_sources = unfold fresh_yard in refl;
      eight = eight_posts;
      counts = unfold fresh_yard in length-replicate {A = ℕ} 8 0;
      places = unfold fresh_yard in length-replicate {A = ℕ} 128 0;
      whole = e;
      post = fresh_in_yard;
      on_air = λ k l. absurd (omega (arith, fresh_frames));
    }

    pub fresh_records : (lane : ℕ) → lane < 8 → bad_record (post_at (fresh_yard present sources dests) lane) ≡ false
    fresh_records lane l = valid_judged (post_at (fresh_yard present sources dests) lane) (fresh_in_yard lane l).valid
