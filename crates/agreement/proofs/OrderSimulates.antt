-- An order in a yard, refused or not, does, answers and sends what the model's order does. Assumes nothing.
use mathlib.Core.Path.{◌≡◌, refl, ap, ◌∙◌, subst}
use mathlib.Core.Logic.{◌⊎◌, inl, inr, ◌≢◌}
use Prim.Native.Nat.{ℕ, ◌+◌, ◌<◌, ◌≤◌}
use native.Mathlib.Omega.{arith}
use native.Mathlib.Numerals.{add-one}
use lib.ListN.{length}
use borrow.Author.Tests.{lt-ltb, le-ltb, eq-eqb}
use Rattle.post.specs.declared.Post as posts
use Rattle.post.specs.Taking.{kept, ticked, own_taken}
use Rattle.deliver.specs.Delivery.{delivered}
use Rattle.steps.specs.Refusals.{order_refusal}
use Rattle.steps.specs.Steps.{order_sent, order_step}
use Rattle.steps.specs.OrderAnswer as orders
use Rattle.state.specs.Yards.{post_at}
use Rattle.yard.specs.Worlds.{World, order}
use Rattle.roll.specs.Runs.{answer, order_sent_by, sent_by}
use Rattle.laws.proofs.TestLaws.{same_or_not, below_or_not}
use Rattle.model.proofs.Model as model
use Rattle.model.proofs.Invariants.{YardOk}
use Rattle.agreement.specs.YardRefusals.{order_yard_refusal}
use Rattle.agreement.proofs.Views.{roles_of, yard_view}
use Rattle.agreement.proofs.Sound.{Sound}
use Rattle.agreement.proofs.OrderWays.{order_4, order_5, order_refused_here, OrderDone}
use Rattle.agreement.proofs.YardNumbers.{order_number_lem}
use Rattle.agreement.proofs.OrderAccepted.{order_is_done, order_view, order_sound}
use Rattle.agreement.proofs.Simulates.{Fit, Simulates, order_refused_same, order_numbers}

-- what an order that is sent answers
order_answer : (p : posts.Post) (word : ℕ) → order_refusal p ≡ 0
    → (count : ℕ) × ((order_step p word).answer ≡ orders.Sent (record { 0 = p.serial.0 + 1 }) (record { 0 = p.clock.0 + 1 }) count)
unfolding order_step order_sent own_taken kept ticked
order_answer p word z = ((delivered (own_taken p word)).count, rw z)

module _ (present sources dests : ℕ) where
  abbrev R : model.Roles
  R = roles_of present sources dests

  order_yard_4 : (w : World) (lane word : ℕ) → 8 ≤ lane → order_yard_refusal w lane word ≡ 4
  unfolding order_yard_refusal
  order_yard_4 w lane word l = rw (lt-ltb 7 lane (omega arith))

  order_yard_5 : (w : World) (lane word : ℕ) → lane < 8 → 65535 < word → order_yard_refusal w lane word ≡ 5
  unfolding order_yard_refusal
  order_yard_5 w lane word l b = rw (le-ltb 7 lane (omega arith), lt-ltb 65535 word b)

  -- past 4, 5 and 13 the yard's number is the post's
  order_yard_post : (w : World) → Sound present sources dests w → (lane word : ℕ) → lane < 8 → word ≤ 65535
      → (post_at w.yard lane).clock.0 ≤ 1024 → order_yard_refusal w lane word ≡ order_refusal (post_at w.yard lane)
  unfolding order_yard_refusal
  order_yard_post w s lane word l b c =
      rw (
        le-ltb 7 lane (omega arith),
        le-ltb 65535 word b,
        eq-eqb (length w.air) 65536 s.whole,
        s.its_present,
        s.its_sources,
        order_number_lem present sources dests lane (post_at w.yard lane) (s.post lane l) (omega arith),
      )

  module _ (w : World) (s : Sound present sources dests w) (fit : Fit present sources dests (yard_view w)) (lane word : ℕ)
      (after : Fit present sources dests (model.step R (yard_view w) (order lane word))) where
    order_accepted : lane < 8 → word ≤ 65535 → order_refusal (post_at w.yard lane) ≡ 0 → order_yard_refusal w lane word ≡ 0 → Simulates present sources dests w (order lane word)
    unfolding sent_by order_sent_by answer model.step model.sent_by
    order_accepted l b z c = record {
      view = rw (order_numbers present sources dests w s lane word ∙ c) (order_view present sources dests w s lane word l b z room next);
      sound = order_sound present sources dests w s lane word l b z room next;
      number = rw (done.answer, says.1, c);
      stays = λ h. absurd (omega (arith, c));
      sends = rw (done.answer, says.1, order_numbers present sources dests w s lane word ∙ c, add-one (post_at w.yard lane).serial.0, add-one (post_at w.yard lane).clock.0) refl;
    }
      where
        done_step : model.step R (yard_view w) (order lane word) ≡ model.order_done R (yard_view w) lane word
        done_step = rw (order_numbers present sources dests w s lane word ∙ c)

        next : YardOk R (model.order_done R (yard_view w) lane word)
        next = subst (YardOk R) done_step after.ok

        room : w.yard.frames < 2048
        room = omega (arith, ap (λ (Y : model.Yard). Y.frames) done_step, after.room)

        done : OrderDone w lane word
        done = order_is_done present sources dests w s lane word l b z room next

        says : (count : ℕ) × ((order_step (post_at w.yard lane) word).answer
            ≡ orders.Sent (record { 0 = (post_at w.yard lane).serial.0 + 1 }) (record { 0 = (post_at w.yard lane).clock.0 + 1 }) count)
        says = order_answer (post_at w.yard lane) word z

    pub order_simulates : Simulates present sources dests w (order lane word)
    order_simulates = go (below_or_not lane 8) (below_or_not 65535 word)
      where
        go : (lane < 8) ⊎ (8 ≤ lane) → (65535 < word) ⊎ (word ≤ 65535) → Simulates present sources dests w (order lane word)
        go (inr l) b =
            let c = order_yard_4 w lane word l in
            order_refused_same present sources dests w s lane word 4 (order_4 w lane word l) (omega arith) c (order_numbers present sources dests w s lane word ∙ c)
        go (inl l) (inl b) =
            let c = order_yard_5 w lane word l b in
            order_refused_same present sources dests w s lane word 5 (order_5 w lane word l b) (omega arith) c (order_numbers present sources dests w s lane word ∙ c)
        go (inl l) (inr b) = here (same_or_not (order_refusal (post_at w.yard lane)) 0)
          where
            c : order_yard_refusal w lane word ≡ order_refusal (post_at w.yard lane)
            c = order_yard_post w s lane word l b (fit.low lane)

            here : (order_refusal (post_at w.yard lane) ≡ 0) ⊎ (order_refusal (post_at w.yard lane) ≢ 0) → Simulates present sources dests w (order lane word)
            here (inl z) = order_accepted l b z (c ∙ z)
            here (inr n) =
                order_refused_same present sources dests w s lane word (order_refusal (post_at w.yard lane)) (order_refused_here w lane word l b s.whole n) n c
                (order_numbers present sources dests w s lane word ∙ c)
