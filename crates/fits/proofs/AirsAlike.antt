-- Two airs of one length that agree on every frame that was broadcast: a step does the same on both, and leaves two such airs. Assumes nothing.
use mathlib.Core.Path.{◌≡◌, refl, sym, ap, ◌∙◌}
use mathlib.Core.Logic.{◌⊎◌, inl, inr, ◌≢◌}
use mathlib.Core.Bool.{Bool, true, false, cond, not, ◌&&◌}
use mathlib.Core.List.{List}
use Prim.Native.Nat.{ℕ, ◌+◌, ◌<◌}
use native.Mathlib.Omega.{arith}
use lib.Dec.{ltb, eqb}
use lib.ListN.{length}
use borrow.Author.Tests.{ltb-true, eqb-true, ne_eqb}
use Rattle.frame.specs.declared.Frame.{Frame}
use Rattle.air.specs.Air.{bad_air, not_on_air, stretch_at, place_refusal, frames_with}
use Rattle.air.proofs.Stretches.{same_stretch, length_stays, others_stay, frame_there}
use Rattle.post.specs.declared.Post.{Post}
use Rattle.steps.specs.Refusals.{not_in_yard}
use Rattle.steps.specs.Steps.{order_step, hear_step, beacon_step}
use Rattle.steps.specs.HearAnswer as hearings
use Rattle.state.specs.Yards.{Yard, post_at, beacons_at}
use Rattle.yard.specs.Singles.{frames_after, stops_order, absent_refusal, stops_hearing, frame_at, stops_beacon}
use Rattle.yard.specs.Singles.{post_orders, post_orders_air, post_hears, post_hears_air, post_beacons, post_beacons_air}
use Rattle.yard.specs.Singles.{yard_orders, yard_orders_air, yard_hears, yard_hears_air, yard_beacons, yard_beacons_air}
use Rattle.yard.specs.Singles.{PostOrdered}
use Rattle.yard.specs.Singles.{PostHeard}
use Rattle.yard.specs.Singles.{PostBeaconed}
use Rattle.yard.specs.Singles.{YardOrdered}
use Rattle.yard.specs.Singles.{YardHeard}
use Rattle.yard.specs.Singles.{YardBeaconed}
use Rattle.laws.proofs.TestLaws.{same_or_not, not_both, and_parts}

abbrev pub Alike : ℕ → List ℕ → List ℕ → Type 0
Alike frames a b = (length a ≡ length b) × ((k : ℕ) → k < frames → k < 2048 → stretch_at a k ≡ stretch_at b k)

-- ---- a broadcast

-- there is room for it on both airs or on neither
place_alike : (a b : List ℕ) (n : ℕ) (f : Frame) → length a ≡ length b → place_refusal a n f ≡ place_refusal b n f
unfolding place_refusal
place_alike a b n f e = rw (same_stretch a b n e) refl

frames_alike : (a b : List ℕ) (n : ℕ) (f : Frame) → length a ≡ length b → frames_after a n f ≡ frames_after b n f
unfolding frames_after
frames_alike a b n f e = rw (place_alike a b n f e) refl

-- it is one frame more, and that frame is there
one_more : (a : List ℕ) (n k : ℕ) (f : Frame) → k < frames_after a n f → (k < n) ⊎ ((k ≡ n) × (place_refusal a n f ≡ 0))
unfolding frames_after
one_more a n k f h = go (eqb (place_refusal a n f) 0) refl h
  where
    go : (t : Bool) → eqb (place_refusal a n f) 0 ≡ t → k < cond t (n + 1) n → (k < n) ⊎ ((k ≡ n) × (place_refusal a n f ≡ 0))
    go true e l = last (same_or_not k n)
      where
        last : (k ≡ n) ⊎ (k ≢ n) → (k < n) ⊎ ((k ≡ n) × (place_refusal a n f ≡ 0))
        last (inl q) = inr (q, eqb-true (place_refusal a n f) 0 e)
        last (inr q) = inl (omega arith)
    go false e l = inl l

air_alike : (a b : List ℕ) (n : ℕ) (f : Frame) → Alike n a b → Alike (frames_after a n f) (frames_with a n f) (frames_with b n f)
air_alike a b n f h =
    (length_stays a n f ∙ h.0 ∙ sym (length_stays b n f), λ k l r. go k r (one_more a n k f l))
  where
    go : (k : ℕ) → k < 2048 → (k < n) ⊎ ((k ≡ n) × (place_refusal a n f ≡ 0)) → stretch_at (frames_with a n f) k ≡ stretch_at (frames_with b n f) k
    go k r (inl l) = others_stay a n k f (λ e. omega arith) ∙ h.1 k l r ∙ sym (others_stay b n k f (λ e. omega arith))
    go k r (inr (e, z)) = rw e (frame_there a n f z ∙ sym (frame_there b n f (sym (place_alike a b n f h.0) ∙ z)))

-- two ways that a step can go
pub either : {A : Type 0} (count : A → ℕ) (t : Bool) (x y : A) (a b c d : List ℕ) → Alike (count x) a b → Alike (count y) c d
    → Alike (count (cond t x y)) (cond t a c) (cond t b d)
either count true x y a b c d h k = h
either count false x y a b c d h k = k

-- ---- a post's step

-- where there is no frame k, the hearing is refused
absent_refused : (t u v : Bool) → u ≡ true → ◌≢◌ {A = ℕ} (cond t 13 (cond u (cond v 21 25) 0)) 0
absent_refused true u v e z = omega (arith, z)
absent_refused false true true e z = omega (arith, z)
absent_refused false true false e z = omega (arith, z)
absent_refused false false v e z = not_both false e refl

absent_hears : (a : List ℕ) (p : Post) (n k : ℕ) → not_on_air n k ≡ true
    → (post_hears a p n k ≡ record { answer = hearings.Refused (absent_refusal a p.lane p.posts n k); post = p; frames = n })
    × (post_hears_air a p n k ≡ a)
unfolding post_hears post_hears_air
absent_hears a p n k e =
    let absent = absent_refusal a p.lane p.posts n k in
    let z = ne_eqb absent 0 (absent_refused (bad_air a) (not_on_air n k) (not_in_yard p.posts p.lane) e) in
    (rw (z, z) refl, rw (z, z) refl)

module _ (a b : List ℕ) (p : Post) (n : ℕ) (h : Alike n a b) where
  post_orders_lem : (word : ℕ) → post_orders a p n word ≡ post_orders b p n word
  unfolding post_orders
  post_orders_lem word = rw (h.0, frames_alike a b n (order_step p word).frame h.0) refl

  orders_airs : (word : ℕ) → Alike (post_orders a p n word).frames (post_orders_air a p n word) (post_orders_air b p n word)
  unfolding post_orders post_orders_air
  orders_airs word =
      rw (← h.0) (either (λ (s : PostOrdered). s.frames) (eqb (stops_order a word) 0) _ _ _ _ _ _ (air_alike a b n (order_step p word).frame h) h)

  post_beacons_lem : (beacons : ℕ) → post_beacons a p n beacons ≡ post_beacons b p n beacons
  unfolding post_beacons
  post_beacons_lem beacons = rw (h.0, frames_alike a b n (beacon_step p).frame h.0) refl

  beacons_airs : (beacons : ℕ) → Alike (post_beacons a p n beacons).frames (post_beacons_air a p n beacons) (post_beacons_air b p n beacons)
  unfolding post_beacons post_beacons_air
  beacons_airs beacons =
      rw (← h.0) (either (λ (s : PostBeaconed). s.frames) (eqb (stops_beacon a p beacons) 0) _ _ _ _ _ _ (air_alike a b n (beacon_step p).frame h) h)

  -- frame k is the same on both airs, or on neither
  hears_there : (k : ℕ) → stretch_at a k ≡ stretch_at b k → post_hears a p n k ≡ post_hears b p n k
  unfolding post_hears
  hears_there k e = rw (h.0, e, frames_alike a b n (hear_step p (frame_at b k)).frame h.0) refl

  airs_there : (k : ℕ) → stretch_at a k ≡ stretch_at b k → Alike (post_hears a p n k).frames (post_hears_air a p n k) (post_hears_air b p n k)
  unfolding post_hears post_hears_air
  airs_there k e =
      rw (← h.0, ← e) (either (λ (s : PostHeard). s.frames) (eqb (stops_hearing a p n k) 0) _ _ _ _ _ _ (air_alike a b n (hear_step p (frame_at a k)).frame h) h)

  hears_absent : (k : ℕ) → not_on_air n k ≡ true → post_hears a p n k ≡ post_hears b p n k
  hears_absent k e = (absent_hears a p n k e).0 ∙ rw h.0 refl ∙ sym (absent_hears b p n k e).0

  airs_absent : (k : ℕ) → not_on_air n k ≡ true → Alike (post_hears a p n k).frames (post_hears_air a p n k) (post_hears_air b p n k)
  airs_absent k e = rw ((absent_hears a p n k e).0, (absent_hears a p n k e).1, (absent_hears b p n k e).1) h

  post_hears_lem : (k : ℕ) → (post_hears a p n k ≡ post_hears b p n k) × Alike (post_hears a p n k).frames (post_hears_air a p n k) (post_hears_air b p n k)
  post_hears_lem k = go (ltb k n && ltb k 2048) refl
    where
      go : (t : Bool) → (ltb k n && ltb k 2048) ≡ t
          → (post_hears a p n k ≡ post_hears b p n k) × Alike (post_hears a p n k).frames (post_hears_air a p n k) (post_hears_air b p n k)
      go true e =
          let l = and_parts (ltb k n) (ltb k 2048) e in
          let same = h.1 k (ltb-true k n l.0) (ltb-true k 2048 l.1) in
          (hears_there k same, airs_there k same)
      go false e = (hears_absent k (ap not e), airs_absent k (ap not e))

-- ---- a step in the yard

module _ (a b : List ℕ) (y : Yard) (h : Alike y.frames a b) where
  pub yard_orders_lem : (lane word : ℕ) → yard_orders a y lane word ≡ yard_orders b y lane word
  unfolding yard_orders
  yard_orders_lem lane word = rw (post_orders_lem a b (post_at y lane) y.frames h word) refl

  pub yard_orders_airs : (lane word : ℕ) → Alike (yard_orders a y lane word).yard.frames (yard_orders_air a y lane word) (yard_orders_air b y lane word)
  unfolding yard_orders yard_orders_air
  yard_orders_airs lane word =
      either (λ (s : YardOrdered). s.yard.frames) (ltb lane 8) _ _ _ _ _ _ (orders_airs a b (post_at y lane) y.frames h word) h

  pub yard_hears_lem : (lane k : ℕ) → yard_hears a y lane k ≡ yard_hears b y lane k
  unfolding yard_hears
  yard_hears_lem lane k = rw (post_hears_lem a b (post_at y lane) y.frames h k).0 refl

  pub yard_hears_airs : (lane k : ℕ) → Alike (yard_hears a y lane k).yard.frames (yard_hears_air a y lane k) (yard_hears_air b y lane k)
  unfolding yard_hears yard_hears_air
  yard_hears_airs lane k =
      either (λ (s : YardHeard). s.yard.frames) (ltb lane 8) _ _ _ _ _ _ (post_hears_lem a b (post_at y lane) y.frames h k).1 h

  pub yard_beacons_lem : (lane : ℕ) → yard_beacons a y lane ≡ yard_beacons b y lane
  unfolding yard_beacons
  yard_beacons_lem lane = rw (post_beacons_lem a b (post_at y lane) y.frames h (beacons_at y lane)) refl

  pub yard_beacons_airs : (lane : ℕ) → Alike (yard_beacons a y lane).yard.frames (yard_beacons_air a y lane) (yard_beacons_air b y lane)
  unfolding yard_beacons yard_beacons_air
  yard_beacons_airs lane =
      either (λ (s : YardBeaconed). s.yard.frames) (ltb lane 8) _ _ _ _ _ _ (beacons_airs a b (post_at y lane) y.frames h (beacons_at y lane)) h
