-- A hearing in a yard, refused or not, does and answers what the model's hearing does. Assumes nothing.
use mathlib.Core.Path.{◌≡◌, refl, sym, ap, ◌∙◌, subst}
use mathlib.Core.Logic.{◌⊎◌, inl, inr, ◌≢◌}
use mathlib.Core.Bool.{Bool, true, false, cond, not}
use Prim.Native.Nat.{ℕ, ◌<◌, ◌≤◌}
use native.Mathlib.Omega.{arith}
use lib.Dec.{leb, eqb}
use lib.ListN.{length}
use borrow.Author.Tests.{lt-ltb, le-ltb, le-leb, lt-leb, eq-eqb}
use Rattle.cells.specs.Sets.{has_lane}
use Rattle.frame.specs.declared.Frame as frames
use Rattle.post.specs.declared.Post as posts
use Rattle.post.specs.Record.{last_of}
use Rattle.deliver.specs.Delivery.{delivered}
use Rattle.steps.specs.Refusals.{not_in_yard, is_order, is_next, hear_refusal}
use Rattle.post.specs.Taking.{raised_post}
use Rattle.steps.specs.Answers.{hear_number}
use Rattle.steps.specs.Steps.{hear_taken, hear_other, hear_step}
use Rattle.steps.specs.HearAnswer as hearings
use Rattle.state.specs.Yards.{post_at}
use Rattle.yard.specs.Singles.{frame_at}
use Rattle.yard.specs.Worlds.{World, hear}
use Rattle.roll.specs.Runs.{one, answer, sent_by}
use Rattle.roll.specs.Answers.{answer_number}
use Rattle.laws.proofs.TestLaws.{same_or_not, below_or_not, true_or_false}
use Rattle.model.proofs.Model as model
use Rattle.model.proofs.Invariants.{FrameOk, YardOk}
use Rattle.agreement.specs.YardRefusals.{hear_yard_refusal}
use Rattle.agreement.proofs.Views.{roles_of, frame_view, yard_view}
use Rattle.agreement.proofs.AirViews.{air_at}
use Rattle.agreement.proofs.PostViews.{view_takes}
use Rattle.agreement.proofs.Sound.{Sound}
use Rattle.agreement.proofs.HearWays.{hear_4, hear_21, hear_25, Hearing, hear_refused_here, hear_answer}
use Rattle.agreement.proofs.YardNumbers.{hear_number_lem}
use Rattle.agreement.proofs.HearAccepted.{hearing_takes, hear_silent_view, hear_silent_sound, hear_spoken_view, hear_spoken_sound}
use Rattle.agreement.proofs.Simulates.{Fit, Simulates, hear_refused_same, hear_numbers}

-- a hearing that is not refused answers no number
pub hear_zero : (p : posts.Post) (f : frames.Frame) → hear_refusal p f ≡ 0 → hear_number (hear_step p f).answer ≡ 0
unfolding hear_step hear_taken hear_other
hear_zero p f z = rw z (go (is_next f (last_of p f.lane)))
  where
    other : (a b : Bool) (n : ℕ) → hear_number (cond a (cond b (hearings.Again n) (hearings.Early n)) (hearings.Beacon n)) ≡ 0
    other true true n = refl
    other true false n = refl
    other false b n = refl

    go : (a : Bool) → hear_number (cond a (hear_taken p f) (hear_other p f)).answer ≡ 0
    go true = refl
    go false = other (is_order f) (leb f.serial.0 (last_of p f.lane)) (delivered (raised_post p f)).count

module _ (present sources dests : ℕ) where
  abbrev R : model.Roles
  R = roles_of present sources dests

  -- whether a lane has a post, by its record and by the yard's set
  pub not_in_yard_lem : (w : World) → Sound present sources dests w → (lane : ℕ) → lane < 8
      → not_in_yard (post_at w.yard lane).posts (post_at w.yard lane).lane ≡ not (has_lane present lane)
  not_in_yard_lem w s lane l = let i = s.post lane l in rw (i.its_posts, i.its_lane)

  -- ---- the numbers of a hearing

  hear_yard_4 : (w : World) (lane k : ℕ) → 8 ≤ lane → hear_yard_refusal w lane k ≡ 4
  unfolding hear_yard_refusal
  hear_yard_4 w lane k l = rw (lt-ltb 7 lane (omega arith))

  hear_yard_25 : (w : World) → Sound present sources dests w → (lane k : ℕ) → lane < 8 → w.yard.frames ≤ k → has_lane present lane ≡ true
      → hear_yard_refusal w lane k ≡ 25
  unfolding hear_yard_refusal
  hear_yard_25 w s lane k l h e =
      rw (le-ltb 7 lane (omega arith), eq-eqb (length w.air) 65536 s.whole, s.its_present, e, le-leb w.yard.frames k h)

  hear_yard_21 : (w : World) → Sound present sources dests w → (lane k : ℕ) → lane < 8 → has_lane present lane ≡ false → hear_yard_refusal w lane k ≡ 21
  unfolding hear_yard_refusal
  hear_yard_21 w s lane k l e = rw (le-ltb 7 lane (omega arith), eq-eqb (length w.air) 65536 s.whole, s.its_present, e)

  hear_yard_post : (w : World) → Sound present sources dests w → (lane k : ℕ) → lane < 8 → k < w.yard.frames
      → hear_yard_refusal w lane k ≡ cond (not (has_lane present lane)) 21 (cond (eqb (frame_at w.air k).sender lane) 26 0)
  unfolding hear_yard_refusal
  hear_yard_post w s lane k l h =
      rw (le-ltb 7 lane (omega arith), eq-eqb (length w.air) 65536 s.whole, s.its_present, lt-leb w.yard.frames k h)

  -- ---- hear

  module _ (w : World) (s : Sound present sources dests w) (fit : Fit present sources dests (yard_view w)) (lane k : ℕ)
      (after : Fit present sources dests (model.step R (yard_view w) (hear lane k))) where
    module _ (l : lane < 8) (there : k < w.yard.frames) where
      abbrev p : posts.Post
      p = post_at w.yard lane

      abbrev f : frames.Frame
      f = frame_at w.air k

      hearing : Hearing w lane k
      hearing = record {
        here = l;
        whole = s.whole;
        on_air = there;
        room = omega (arith, fit.room);
        readable = (s.on_air k there).readable;
      }

      its_number : hear_yard_refusal w lane k ≡ hear_refusal p f
      its_number =
          hear_yard_post w s lane k l there
          ∙ sym (hear_number_lem present sources dests w s fit.ok fit.low lane l f
          (subst (FrameOk R (yard_view w).posts) (air_at w k there) (fit.ok.frames_ok k there))
          (s.on_air k there).sendable)

      module _ (z : hear_refusal p f ≡ 0) where
        abbrev Y : model.Yard
        Y = yard_view w

        c : hear_yard_refusal w lane k ≡ 0
        c = its_number ∙ z

        done_step : model.step R Y (hear lane k) ≡ model.hear_done R Y lane (frame_view f)
        unfolding model.step
        done_step = rw (hear_numbers present sources dests w s lane k ∙ c) (ap (model.hear_done R Y lane) (air_at w k there))

        next : YardOk R (model.hear_done R Y lane (frame_view f))
        next = subst (YardOk R) done_step after.ok

        accepted_number : answer_number (answer w (one (hear lane k))) ≡ hear_yard_refusal w lane k
        unfolding answer
        accepted_number = rw (hear_answer w lane k hearing, c) (hear_zero p f z)

        hear_accepted : Simulates present sources dests w (hear lane k)
        unfolding sent_by model.sent_by
        hear_accepted = go (true_or_false (is_next f (last_of p f.lane)))
          where
            go : (is_next f (last_of p f.lane) ≡ true) ⊎ (is_next f (last_of p f.lane) ≡ false) → Simulates present sources dests w (hear lane k)
            go (inr n) = record {
              view = hear_silent_view present sources dests w s lane k hearing z next n ∙ sym done_step;
              sound = hear_silent_sound present sources dests w s lane k hearing z next n;
              number = accepted_number;
              stays = λ h. absurd (omega (arith, c));
              sends = refl;
            }
            go (inl n) = record {
              view = hear_spoken_view present sources dests w s lane k hearing z next n room ∙ sym done_step;
              sound = hear_spoken_sound present sources dests w s lane k hearing z next n room;
              number = accepted_number;
              stays = λ h. absurd (omega (arith, c));
              sends = refl;
            }
              where
                room : w.yard.frames < 2048
                room =
                    omega (
                      arith,
                      ap (λ (Z : model.Yard). Z.frames) (done_step ∙ hearing_takes R Y lane (frame_view f) (view_takes p f ∙ n)),
                      after.room,
                    )

      hear_there : Simulates present sources dests w (hear lane k)
      hear_there = go (same_or_not (hear_refusal p f) 0)
        where
          go : (hear_refusal p f ≡ 0) ⊎ (hear_refusal p f ≢ 0) → Simulates present sources dests w (hear lane k)
          go (inl z) = hear_accepted z
          go (inr n) =
              hear_refused_same present sources dests w s lane k (hear_refusal p f) (hear_refused_here w lane k hearing n) n its_number
              (hear_numbers present sources dests w s lane k ∙ its_number)

    pub hear_simulates : Simulates present sources dests w (hear lane k)
    hear_simulates = go (below_or_not lane 8) (below_or_not k w.yard.frames) (true_or_false (has_lane present lane))
      where
        go : (lane < 8) ⊎ (8 ≤ lane) → (k < w.yard.frames) ⊎ (w.yard.frames ≤ k) → (has_lane present lane ≡ true) ⊎ (has_lane present lane ≡ false)
            → Simulates present sources dests w (hear lane k)
        go (inr l) h e =
            let c = hear_yard_4 w lane k l in
            hear_refused_same present sources dests w s lane k 4 (hear_4 w lane k l) (omega arith) c (hear_numbers present sources dests w s lane k ∙ c)
        go (inl l) (inl h) e = hear_there l h
        go (inl l) (inr h) (inl e) =
            let c = hear_yard_25 w s lane k l h e in
            hear_refused_same present sources dests w s lane k 25 (hear_25 w lane k l s.whole h (not_in_yard_lem w s lane l ∙ ap not e)) (omega arith) c
            (hear_numbers present sources dests w s lane k ∙ c)
        go (inl l) (inr h) (inr e) =
            let c = hear_yard_21 w s lane k l e in
            hear_refused_same present sources dests w s lane k 21 (hear_21 w lane k l s.whole h (not_in_yard_lem w s lane l ∙ ap not e)) (omega arith) c
            (hear_numbers present sources dests w s lane k ∙ c)
