-- Where all that the posts are said to know of their logs is so, the steps on a state are the steps in the yard. Assumes nothing.
use mathlib.Core.Path.{◌≡◌, refl, ap, ◌∙◌}
use mathlib.Core.Bool.{Bool, true, false}
use mathlib.Core.List.{List, []}
use Prim.Native.Nat.{ℕ, ◌<◌}
use native.Mathlib.Omega.{arith}
use native.Mathlib.Decide.{ℕ_discrete}
use borrow.Author.Tests.{ltb-true, ltb-false, lt-ltb, le-ltb}
use lib.Dec.{ltb, eqb}
use lib.ListN.{length, get_or, set, length-set}
use lib.Seq.{get_or-set_same, get_or-set_other, set-get_or}
use Rattle.post.specs.declared.Post.{Post}
use Rattle.deliver.specs.Known.{Known}
use Rattle.steps.specs.Steps.{order_step, hear_step}
use Rattle.steps.specs.Knowing.{orders_by, hears_by}
use Rattle.steps.proofs.KnownSteps.{orders_known, hears_known}
use Rattle.state.specs.Yards.{Yard, no_post, post_at, beacons_at}
use Rattle.yard.specs.Singles.{stops_order, first_after, post_orders, post_orders_air, yard_orders, yard_orders_air, stops_hearing, frame_at, post_hears, post_hears_air, yard_hears, yard_hears_air, stops_beacon, post_beacons, post_beacons_air, yard_beacons, yard_beacons_air}
use Rattle.state.specs.States.{whole}
use Rattle.yard.specs.InState.{orders_in, hears_in, beacons_in}
use Rattle.yard.specs.Sound.{Sound}

-- ---- a yard

-- a post changed, with what it knows then
sound_set : (y y' : Yard) (ks : List (List ℕ)) (lane : ℕ) (p : Post) (known : List ℕ) → lane < 8 → Sound y ks → y'.posts ≡ set y.posts lane p → Known known p
    → Sound y' (set ks lane known)
sound_set y y' ks lane p known small h e kn = record {
  posts = ap length e ∙ length-set y.posts lane p ∙ h.posts;
  lists = length-set ks lane known ∙ h.lists;
  known = λ i l. go i l (ℕ_discrete i lane);
}
  where
    go : (i : ℕ) → i < 8 → Dec (i ≡ lane) → Known (get_or (set ks lane known) i []) (post_at y' i)
    go i l (yes q) = rw (q, e, get_or-set_same ks lane known [] (omega (arith, h.lists)), get_or-set_same y.posts lane p no_post (omega (arith, h.posts))) kn
    go i l (no n) = rw (e, get_or-set_other ks lane i known [] n, get_or-set_other y.posts lane i p no_post n) (h.known i l)

-- no post changed
sound_same : (y y' : Yard) (ks : List (List ℕ)) → Sound y ks → y'.posts ≡ y.posts → Sound y' ks
sound_same y y' ks h e = record { posts = rw e h.posts; lists = h.lists; known = λ i l. rw e (h.known i l) }

-- a lane is over 7, or below 8
over : (lane : ℕ) → ltb lane 8 ≡ false → ltb 7 lane ≡ true
over lane e = lt-ltb 7 lane (omega (arith, ltb-false lane 8 e))

within : (lane : ℕ) → ltb lane 8 ≡ true → ltb 7 lane ≡ false
within lane e = le-ltb 7 lane (omega (arith, ltb-true lane 8 e))

-- ---- the steps, on a whole yard that is sound

module _ (y : Yard) (ks : List (List ℕ)) (air : List ℕ) (h : Sound y ks) (lane : ℕ) where
  -- a lane's post put back changes no post
  stays : set y.posts lane (post_at y lane) ≡ y.posts
  stays = set-get_or y.posts lane no_post

  abbrev Orders : ℕ → Type 0
  Orders word =
      (ks' : List (List ℕ))
      × (orders_in (whole y ks) air lane word
      ≡ record { answer = (yard_orders air y lane word).answer; held = whole (yard_orders air y lane word).yard ks'; air = yard_orders_air air y lane word })
      × Sound (yard_orders air y lane word).yard ks'

  pub orders_whole : (word : ℕ) → Orders word
  unfolding orders_in yard_orders yard_orders_air post_orders post_orders_air first_after
  orders_whole word = go (ltb lane 8) refl (eqb (stops_order air word) 0) refl
    where
      go : (a : Bool) → ltb lane 8 ≡ a → (b : Bool) → eqb (stops_order air word) 0 ≡ b → Orders word
      go false a b e = (ks, rw (a, over lane a), rw a h)
      go true a false e =
          (ks, rw (a, within lane a, e, stays, le-ltb y.frames y.frames (omega arith)), sound_same y (yard_orders air y lane word).yard ks h (rw (a, e) stays))
      go true a true e =
          let small : lane < 8 = ltb-true lane 8 a in
          let o = orders_known (get_or ks lane []) (post_at y lane) word (h.known lane small) in
          let known : List ℕ = (orders_by (get_or ks lane []) (post_at y lane) word).known in
          (set ks lane known, rw (a, within lane a, e, o.0), sound_set y (yard_orders air y lane word).yard ks lane (order_step (post_at y lane) word).post known small h (rw (a, e)) o.1)

  abbrev Hears : ℕ → Type 0
  Hears k =
      (ks' : List (List ℕ))
      × (hears_in (whole y ks) air lane k
      ≡ record { answer = (yard_hears air y lane k).answer; held = whole (yard_hears air y lane k).yard ks'; air = yard_hears_air air y lane k })
      × Sound (yard_hears air y lane k).yard ks'

  pub hears_whole : (k : ℕ) → Hears k
  unfolding hears_in yard_hears yard_hears_air post_hears post_hears_air
  hears_whole k = go (ltb lane 8) refl (eqb (stops_hearing air (post_at y lane) y.frames k) 0) refl
    where
      go : (a : Bool) → ltb lane 8 ≡ a → (b : Bool) → eqb (stops_hearing air (post_at y lane) y.frames k) 0 ≡ b → Hears k
      go false a b e = (ks, rw (a, over lane a), rw a h)
      go true a false e = (ks, rw (a, within lane a, e, stays), sound_same y (yard_hears air y lane k).yard ks h (rw (a, e) stays))
      go true a true e =
          let small : lane < 8 = ltb-true lane 8 a in
          let o = hears_known (get_or ks lane []) (post_at y lane) (frame_at air k) (h.known lane small) in
          let known : List ℕ = (hears_by (get_or ks lane []) (post_at y lane) (frame_at air k)).known in
          (set ks lane known, rw (a, within lane a, e, o.0), sound_set y (yard_hears air y lane k).yard ks lane (hear_step (post_at y lane) (frame_at air k)).post known small h (rw (a, e)) o.1)

  -- a beacon changes no post
  abbrev Beacons : Type 0
  Beacons =
      (beacons_in (whole y ks) air lane
      ≡ record { answer = (yard_beacons air y lane).answer; held = whole (yard_beacons air y lane).yard ks; air = yard_beacons_air air y lane })
      × Sound (yard_beacons air y lane).yard ks

  pub beacons_whole : Beacons
  unfolding beacons_in yard_beacons yard_beacons_air post_beacons post_beacons_air
  beacons_whole = go (ltb lane 8) refl (eqb (stops_beacon air (post_at y lane) (beacons_at y lane)) 0) refl
    where
      go : (a : Bool) → ltb lane 8 ≡ a → (b : Bool) → eqb (stops_beacon air (post_at y lane) (beacons_at y lane)) 0 ≡ b → Beacons
      go false a b e = (rw (a, over lane a), rw a h)
      go true a false e = (rw (a, within lane a, e, set-get_or y.beacons lane 0), sound_same y (yard_beacons air y lane).yard ks h (rw a))
      go true a true e = (rw (a, within lane a, e), sound_same y (yard_beacons air y lane).yard ks h (rw a))
