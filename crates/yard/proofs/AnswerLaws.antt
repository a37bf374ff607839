-- The number that a step on a state answers is the refusal's, or 0; its values are those of the post's step, or 0. So what a step that
-- answers and leaves this promises, where its result is `Ok`, and where it hands on a refusal. Assumes nothing.
use mathlib.Core.Path.{◌≡◌, refl, ◌∙◌}
use mathlib.Core.Bool.{Bool, true, false, cond}
use mathlib.Core.List.{List, []}
use Prim.Native.Nat.{ℕ}
use lib.Dec.{ltb, eqb}
use lib.ListN.{get_or}
use Rattle.air.specs.Air.{bad_air}
use Rattle.post.specs.declared.Post.{Post}
use Rattle.post.specs.Taking.{own_taken}
use Rattle.deliver.specs.Known.{delivered_from}
use Rattle.steps.specs.Answers.{order_number, hear_number, beacon_number}
use Rattle.steps.specs.Values.{order_serial, order_stamp, order_count, order_step_serial, order_step_stamp, hear_count}
use Rattle.steps.specs.Knowing.{order_count_by, hear_took, hear_count_by}
use Rattle.steps.specs.Refusals.{not_in_yard, order_refusal, hear_refusal}
use Rattle.steps.specs.Steps.{beacon_step}
use Rattle.std.specs.Prelude.{Result, Ok, Err, IsErrAnd}
use Rattle.refusal.specs.declared.Refusal.{Refusal}
use Rattle.refusal.specs.Numbers.{refusal_number, refused_with}
use Rattle.steps.specs.OrderAnswer.{OrderAnswer, order_answer}
use Rattle.steps.specs.HearAnswer.{HearAnswer, hear_answer}
use Rattle.steps.specs.BeaconAnswer.{BeaconAnswer, beacon_answer}
use Rattle.steps.specs.declared.Sent.{Sent}
use Rattle.steps.specs.declared.Hearing.{Hearing}
use Rattle.steps.specs.declared.Hearing.TheVariants as hearing
use Rattle.steps.proofs.AnswerLaws as steps
use Rattle.state.specs.Yards.{post_at, beacons_at, spent}
use Rattle.yard.specs.Singles.{stops_hearing, frame_at}
use Rattle.state.specs.States.{Held, whole, other, held_in}
use Rattle.yard.specs.InState.{After, after, orders_in, hears_in, beacons_in}
use Rattle.yard.specs.Answers.{order_refusal_in, order_serial_in, order_stamp_in, order_count_in, hear_refusal_in, hear_count_in, beacon_refusal_in}

-- a test made twice
twice : (b : Bool) (n : ℕ) → cond b n 0 ≡ cond b (cond b n 0) 0
twice true n = refl
twice false n = refl

-- ---- order

abbrev OrderTells : Held → List ℕ → ℕ → ℕ → OrderAnswer → Type 0
OrderTells h air lane word a =
    (order_number a ≡ order_refusal_in h air lane word)
    × ((order_serial a ≡ order_serial_in h air lane word) × ((order_stamp a ≡ order_stamp_in h air lane word) × (order_count a ≡ order_count_in h air lane word)))

order_values : (h : Held) (air : List ℕ) (lane word : ℕ) → OrderTells h air lane word (orders_in h air lane word).answer
unfolding orders_in order_refusal_in order_serial_in order_stamp_in order_count_in order_step_serial order_step_stamp order_count_by
order_values (other cells) air lane word = (refl, (refl, (refl, refl)))
order_values (whole y knowns) air lane word = go (ltb 7 lane) refl (ltb 65535 word) refl (bad_air air) refl
  where
    go : (a : Bool) → ltb 7 lane ≡ a → (b : Bool) → ltb 65535 word ≡ b → (c : Bool) → bad_air air ≡ c
        → OrderTells (whole y knowns) air lane word (orders_in (whole y knowns) air lane word).answer
    go true e b q c d = rw e (refl, (refl, (refl, refl)))
    go false e true q c d = rw (e, q) (refl, (refl, (refl, refl)))
    go false e false q true d = rw (e, q, d) (refl, (refl, (refl, refl)))
    go false e false q false d =
        let v = steps.order_answers (get_or knowns lane []) (post_at y lane) word in
        let n : ℕ = (delivered_from (get_or knowns lane []) (own_taken (post_at y lane) word)).count in
        rw (e, q, d) (v.0, (v.1.0, (v.1.1.0, v.1.1.1 ∙ twice (eqb (order_refusal (post_at y lane)) 0) n)))

-- what `order` promises
pub order_tells : (h : Held) (air : List ℕ) (lane word : ℕ) (r : After OrderAnswer) → r ≡ orders_in h air lane word
    → (r ≡ orders_in h air lane word) × OrderTells h air lane word r.answer
order_tells h air lane word r e = (e, rw e (order_values h air lane word))

abbrev OrderPromised : List ℕ → List ℕ → List ℕ → List ℕ → ℕ → ℕ → ℕ → OrderAnswer → Type 0
OrderPromised s air t exit lane word number a = record {
  air_after : after a t exit ≡ orders_in (held_in s) air lane word;
  number : number ≡ order_refusal_in (held_in s) air lane word;
  serial : order_serial a ≡ order_serial_in (held_in s) air lane word;
  stamp : order_stamp a ≡ order_stamp_in (held_in s) air lane word;
  count : order_count a ≡ order_count_in (held_in s) air lane word;
}

module _ (s air t exit : List ℕ) (lane word : ℕ) where
  pub order_promised : (number : ℕ) (a : OrderAnswer) → number ≡ order_number a → after a t exit ≡ orders_in (held_in s) air lane word
      → OrderPromised s air t exit lane word number a
  order_promised number a e r =
      let tells = (order_tells (held_in s) air lane word (after a t exit) r).1 in
      record { air_after = r; number = e ∙ tells.0; serial = tells.1.0; stamp = tells.1.1.0; count = tells.1.1.1 }

  pub order_handed : (o : Result Sent Refusal) (e : Refusal) → IsErrAnd o (λ x. x ≡ e) → after (order_answer (Err e)) t exit ≡ orders_in (held_in s) air lane word
      → OrderPromised s air t exit lane word (refused_with o) (order_answer o)
  order_handed (Ok x) e h r = absurd h
  order_handed (Err x) e h r = rw h (order_promised (refusal_number e) (order_answer (Err e)) refl r)

-- ---- hear

abbrev HearTells : Held → List ℕ → ℕ → ℕ → HearAnswer → Type 0
HearTells h air lane k a = (hear_number a ≡ hear_refusal_in h air lane k) × (hear_count a ≡ hear_count_in h air lane k)

hear_values : (h : Held) (air : List ℕ) (lane k : ℕ) → HearTells h air lane k (hears_in h air lane k).answer
unfolding hears_in hear_refusal_in hear_count_in hear_count_by
hear_values (other cells) air lane k = (refl, refl)
hear_values (whole y knowns) air lane k = go (ltb 7 lane) refl (eqb (stops_hearing air (post_at y lane) y.frames k) 0) refl
  where
    go : (a : Bool) → ltb 7 lane ≡ a → (b : Bool) → eqb (stops_hearing air (post_at y lane) y.frames k) 0 ≡ b
        → HearTells (whole y knowns) air lane k (hears_in (whole y knowns) air lane k).answer
    go true e b q = rw e (refl, refl)
    go false e false q = rw (e, q) (refl, rw q)
    go false e true q =
        let known : List ℕ = get_or knowns lane [] in
        let v = steps.hear_answers (get_or knowns lane []) (post_at y lane) (frame_at air k) in
        rw (e, q) (v.0, v.1 ∙ twice (eqb (hear_refusal (post_at y lane) (frame_at air k)) 0) (delivered_from known (hear_took (post_at y lane) (frame_at air k))).count)

-- what `hear` promises
pub hear_tells : (h : Held) (air : List ℕ) (lane k : ℕ) (r : After HearAnswer) → r ≡ hears_in h air lane k
    → (r ≡ hears_in h air lane k) × HearTells h air lane k r.answer
hear_tells h air lane k r e = (e, rw e (hear_values h air lane k))

abbrev HearPromised : List ℕ → List ℕ → List ℕ → List ℕ → ℕ → ℕ → ℕ → HearAnswer → Type 0
HearPromised s air t exit lane k number a = record {
  air_after : after a t exit ≡ hears_in (held_in s) air lane k;
  number : number ≡ hear_refusal_in (held_in s) air lane k;
  count : hear_count a ≡ hear_count_in (held_in s) air lane k;
}

heard_number : (heard : Hearing) → 0 ≡ hear_number (hear_answer (Ok heard))
heard_number (hearing.Taken count) = refl
heard_number (hearing.Again count) = refl
heard_number (hearing.Early count) = refl
heard_number (hearing.Beacon count) = refl

module _ (s air t exit : List ℕ) (lane k : ℕ) where
  promised : (number : ℕ) (a : HearAnswer) → number ≡ hear_number a → after a t exit ≡ hears_in (held_in s) air lane k
      → HearPromised s air t exit lane k number a
  promised number a e r =
      let tells = (hear_tells (held_in s) air lane k (after a t exit) r).1 in
      record { air_after = r; number = e ∙ tells.0; count = tells.1 }

  pub hear_promised : (heard : Hearing) → after (hear_answer (Ok heard)) t exit ≡ hears_in (held_in s) air lane k
      → HearPromised s air t exit lane k 0 (hear_answer (Ok heard))
  hear_promised heard r = promised 0 (hear_answer (Ok heard)) (heard_number heard) r

  pub hear_handed : (o : Result Hearing Refusal) (e : Refusal) → IsErrAnd o (λ x. x ≡ e) → after (hear_answer (Err e)) t exit ≡ hears_in (held_in s) air lane k
      → HearPromised s air t exit lane k (refused_with o) (hear_answer o)
  hear_handed (Ok x) e h r = absurd h
  hear_handed (Err x) e h r = rw h (promised (refusal_number e) (hear_answer (Err e)) refl r)

-- ---- beacon

sent_number : (p : Post) → not_in_yard p.posts p.lane ≡ false → beacon_number (beacon_step p).answer ≡ 0
unfolding beacon_step
sent_number p e = rw e

beacon_value : (h : Held) (air : List ℕ) (lane : ℕ) → beacon_number (beacons_in h air lane).answer ≡ beacon_refusal_in h air lane
unfolding beacons_in beacon_refusal_in
beacon_value (other cells) air lane = refl
beacon_value (whole y knowns) air lane = go (ltb 7 lane) refl (bad_air air) refl (not_in_yard (post_at y lane).posts (post_at y lane).lane) refl (spent (beacons_at y lane)) refl
  where
    go : (a : Bool) → ltb 7 lane ≡ a → (b : Bool) → bad_air air ≡ b → (c : Bool) → not_in_yard (post_at y lane).posts (post_at y lane).lane ≡ c
        → (d : Bool) → spent (beacons_at y lane) ≡ d
        → beacon_number (beacons_in (whole y knowns) air lane).answer ≡ beacon_refusal_in (whole y knowns) air lane
    go true e b q c r d t = rw e
    go false e true q c r d t = rw (e, q)
    go false e false q true r d t = rw (e, q, r)
    go false e false q false r true t = rw (e, q, r, t)
    go false e false q false r false t = rw (e, q, r, t) (sent_number (post_at y lane) r)

-- what `beacon` promises
pub beacon_tells : (h : Held) (air : List ℕ) (lane : ℕ) (r : After BeaconAnswer) → r ≡ beacons_in h air lane
    → (r ≡ beacons_in h air lane) × (beacon_number r.answer ≡ beacon_refusal_in h air lane)
beacon_tells h air lane r e = (e, rw e (beacon_value h air lane))

abbrev BeaconPromised : List ℕ → List ℕ → List ℕ → List ℕ → ℕ → ℕ → BeaconAnswer → Type 0
BeaconPromised s air t exit lane number a = record {
  air_after : after a t exit ≡ beacons_in (held_in s) air lane;
  number : number ≡ beacon_refusal_in (held_in s) air lane;
}

module _ (s air t exit : List ℕ) (lane : ℕ) where
  pub beacon_promised : (number : ℕ) (a : BeaconAnswer) → number ≡ beacon_number a → after a t exit ≡ beacons_in (held_in s) air lane
      → BeaconPromised s air t exit lane number a
  beacon_promised number a e r = record { air_after = r; number = e ∙ (beacon_tells (held_in s) air lane (after a t exit) r).1 }

  pub beacon_handed : (o : Result Unit Refusal) (e : Refusal) → IsErrAnd o (λ x. x ≡ e) → after (beacon_answer {A = Unit} (Err e)) t exit ≡ beacons_in (held_in s) air lane
      → BeaconPromised s air t exit lane (refused_with o) (beacon_answer o)
  beacon_handed (Ok x) e h r = absurd h
  beacon_handed (Err x) e h r = rw h (beacon_promised (refusal_number e) (beacon_answer {A = Unit} (Err e)) refl r)
