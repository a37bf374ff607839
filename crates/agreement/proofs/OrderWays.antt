-- An order in a yard, by each way that it can end: what it answers, and the yard and the air that it leaves. Assumes nothing.
use mathlib.Core.Path.{◌≡◌, refl, ap, ◌∙◌}
use mathlib.Core.Logic.{◌≢◌}
use Prim.Native.Nat.{ℕ, ◌+◌, ◌<◌, ◌≤◌}
use native.Mathlib.Omega.{arith}
use lib.ListN.{length, set}
use lib.Seq.{set-get_or}
use borrow.Author.Tests.{lt-ltb, le-ltb, eq-eqb, ne_eqb}
use Rattle.frame.specs.declared.Frame.{Frame}
use Rattle.air.specs.Air.{frames_with}
use Rattle.cells.specs.Tables.{order_place}
use Rattle.post.specs.declared.Post.{Post}
use Rattle.post.specs.Taking.{kept, ticked, own_taken}
use Rattle.steps.specs.Refusals.{order_refusal}
use Rattle.steps.specs.Steps.{order_step}
use Rattle.steps.specs.OrderAnswer as orders
use Rattle.state.specs.Yards.{post_at}
use Rattle.yard.specs.Singles.{post_orders, post_orders_air, first_after, yard_orders, yard_orders_air}
use Rattle.yard.specs.Worlds.{World, order, single}
use Rattle.laws.proofs.ValidLog.{delivered_log_only}
use Rattle.laws.proofs.ValidSteps.{order_post}
use Rattle.laws.proofs.Broadcasts.{Sendable}
use Rattle.agreement.proofs.AirViews.{silent_air, silent_frames, spoken_frames}

-- an order that leaves the world as it was, answering its refusal
pub record OrderStays (w : World) (lane word number : ℕ) : Type 0 where
  pub answer : (yard_orders w.air w.yard lane word).answer ≡ orders.Refused number
  pub leaves : single w (order lane word) ≡ w

-- a post that answers a refusal, stays and speaks nothing leaves the yard
order_stays : (w : World) (lane word number : ℕ) → lane < 8
    → post_orders w.air (post_at w.yard lane) w.yard.frames word
    ≡ record { answer = orders.Refused number; post = post_at w.yard lane; frames = w.yard.frames }
    → post_orders_air w.air (post_at w.yard lane) w.yard.frames word ≡ w.air
    → OrderStays w lane word number
unfolding single yard_orders yard_orders_air first_after
order_stays w lane word number l e a = record {
  answer = rw (lt-ltb lane 8 l, e);
  leaves = rw (lt-ltb lane 8 l, e, a, le-ltb w.yard.frames w.yard.frames (omega arith), set-get_or);
}

-- 4
pub order_4 : (w : World) (lane word : ℕ) → 8 ≤ lane → OrderStays w lane word 4
unfolding single yard_orders yard_orders_air
order_4 w lane word l = record { answer = rw (le-ltb lane 8 l); leaves = rw (le-ltb lane 8 l) }

-- 5
pub order_5 : (w : World) (lane word : ℕ) → lane < 8 → 65535 < word → OrderStays w lane word 5
unfolding post_orders post_orders_air
order_5 w lane word l b = order_stays w lane word 5 l (rw (lt-ltb 65535 word b)) (rw (lt-ltb 65535 word b))

-- 13
pub order_13 : (w : World) (lane word : ℕ) → lane < 8 → word ≤ 65535 → length w.air ≢ 65536 → OrderStays w lane word 13
unfolding post_orders post_orders_air
order_13 w lane word l b n =
    order_stays w lane word 13 l
    (rw (le-ltb 65535 word b, ne_eqb (length w.air) 65536 n))
    (rw (le-ltb 65535 word b, ne_eqb (length w.air) 65536 n))

-- the post's own refusals
pub order_refused_here : (w : World) (lane word : ℕ) → lane < 8 → word ≤ 65535 → length w.air ≡ 65536 → order_refusal (post_at w.yard lane) ≢ 0
    → OrderStays w lane word (order_refusal (post_at w.yard lane))
unfolding post_orders post_orders_air order_step
order_refused_here w lane word l b e n =
    let p = post_at w.yard lane in
    order_stays w lane word (order_refusal p) l
    (rw (le-ltb 65535 word b, eq-eqb (length w.air) 65536 e, ne_eqb (order_refusal p) 0 n, silent_frames w.air w.yard.frames))
    (rw (le-ltb 65535 word b, eq-eqb (length w.air) 65536 e, ne_eqb (order_refusal p) 0 n, silent_air w.air w.yard.frames))

-- the world after post `lane` became q and broadcast f, the first frame of order (lane, serial)
abbrev pub ordered_world : World → ℕ → Post → Frame → ℕ → World
ordered_world w lane q f serial = record {
  yard = record {
    present = w.yard.present;
    sources = w.yard.sources;
    posts = set w.yard.posts lane q;
    frames = w.yard.frames + 1;
    beacons = w.yard.beacons;
    first = set w.yard.first (order_place lane serial) w.yard.frames;
  };
  air = frames_with w.air w.yard.frames f;
}

-- an order that is sent
pub record OrderDone (w : World) (lane word : ℕ) : Type 0 where
  pub answer : (yard_orders w.air w.yard lane word).answer ≡ (order_step (post_at w.yard lane) word).answer
  pub leaves : single w (order lane word)
      ≡ ordered_world w lane (order_step (post_at w.yard lane) word).post (order_step (post_at w.yard lane) word).frame
      ((post_at w.yard lane).serial.0 + 1)

-- its post has the next own serial
order_serial_lem : (p : Post) (word : ℕ) → order_refusal p ≡ 0 → (order_step p word).post.serial.0 ≡ p.serial.0 + 1
order_serial_lem p word z =
    ap (λ (q : Post). q.serial.0) (order_post p word z ∙ delivered_log_only (own_taken p word)) ∙ own
  where
    own : (own_taken p word).serial.0 ≡ p.serial.0 + 1
    own = unfold own_taken kept ticked in refl

order_posts : (w : World) (lane word : ℕ) → word ≤ 65535 → length w.air ≡ 65536 → w.yard.frames < 2048
    → Sendable (order_step (post_at w.yard lane) word).frame
    → post_orders w.air (post_at w.yard lane) w.yard.frames word
    ≡ record {
      answer = (order_step (post_at w.yard lane) word).answer;
      post = (order_step (post_at w.yard lane) word).post;
      frames = w.yard.frames + 1;
    }
unfolding post_orders
order_posts w lane word b e r s =
    rw (
      le-ltb 65535 word b,
      eq-eqb (length w.air) 65536 e,
      spoken_frames w.air w.yard.frames (order_step (post_at w.yard lane) word).frame e r s,
    )

order_airs : (w : World) (lane word : ℕ) → word ≤ 65535 → length w.air ≡ 65536
    → post_orders_air w.air (post_at w.yard lane) w.yard.frames word
    ≡ frames_with w.air w.yard.frames (order_step (post_at w.yard lane) word).frame
unfolding post_orders_air
order_airs w lane word b e = rw (le-ltb 65535 word b, eq-eqb (length w.air) 65536 e)

pub order_done_lem : (w : World) (lane word : ℕ) → lane < 8 → word ≤ 65535 → length w.air ≡ 65536 → w.yard.frames < 2048
    → order_refusal (post_at w.yard lane) ≡ 0 → Sendable (order_step (post_at w.yard lane) word).frame
    → OrderDone w lane word
unfolding single yard_orders yard_orders_air first_after
order_done_lem w lane word l b e r z s = record {
  answer = rw (lt-ltb lane 8 l, order_posts w lane word b e r s);
  leaves = rw (
    lt-ltb lane 8 l,
    order_posts w lane word b e r s,
    order_airs w lane word b e,
    lt-ltb w.yard.frames (w.yard.frames + 1) (omega arith),
    order_serial_lem (post_at w.yard lane) word z,
  );
}
