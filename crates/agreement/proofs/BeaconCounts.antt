-- What a beacon answers, and whose count of beacons a step changes, in any world. Assumes nothing.
use mathlib.Core.Path.{◌≡◌, refl, sym}
use mathlib.Core.Logic.{◌⊎◌, inl, inr, ◌≢◌}
use mathlib.Core.Bool.{Bool, true, false, cond}
use mathlib.Core.List.{List}
use Prim.Native.Nat.{ℕ, ◌+◌, ◌<◌, ◌≤◌}
use native.Mathlib.Omega.{arith}
use lib.Dec.{ltb, eqb}
use lib.ListN.{length, get_or, set, length-set, get_or-eq_default}
use lib.Seq.{get_or-set_same, get_or-set_other, set-get_or}
use borrow.Author.Tests.{lt-ltb, le-ltb, eqb-true, ltb-true}
use Rattle.frame.proofs.Laws.{passed}
use Rattle.air.specs.Air.{bad_air}
use Rattle.post.specs.declared.Post.{Post}
use Rattle.steps.specs.Refusals.{not_in_yard}
use Rattle.steps.specs.Steps.{beacon_step}
use Rattle.steps.specs.BeaconAnswer as beaconing
use Rattle.state.specs.Yards.{post_at, beacons_at, spent}
use Rattle.yard.specs.Singles.{stops_beacon, post_beacons, yard_orders, yard_hears, yard_beacons}
use Rattle.yard.specs.Worlds.{World, order, hear, beacon, single}
use Rattle.laws.proofs.TestLaws.{below_or_not}

-- ---- a beacon, by what stops it

-- 4, 13, 21, 27 or 0, where the post of the lane has sent c
abbrev pub stops_at : World → ℕ → ℕ → ℕ
stops_at w lane c = cond (ltb lane 8) (stops_beacon w.air (post_at w.yard lane) c) 4

-- what it answers by that
abbrev pub answers_to : ℕ → beaconing.BeaconAnswer
answers_to number = cond (eqb number 0) beaconing.Sent (beaconing.Refused number)

-- where nothing stops it the post's own step sends it
sends : (air : List ℕ) (p : Post) (c : ℕ) → stops_beacon air p c ≡ 0 → (beacon_step p).answer ≡ beaconing.Sent
unfolding beacon_step
sends air p c z =
    let r27 : ℕ = cond (spent c) 27 0 in
    let a = passed (bad_air air) 13 (cond (not_in_yard p.posts p.lane) 21 r27) (omega arith) z in
    rw (passed (not_in_yard p.posts p.lane) 21 r27 (omega arith) a.1).0

module _ (w : World) (lane : ℕ) where
  abbrev c : ℕ
  c = beacons_at w.yard lane

  abbrev number : ℕ
  number = stops_beacon w.air (post_at w.yard lane) c

  pub beacon_answer : (yard_beacons w.air w.yard lane).answer ≡ answers_to (stops_at w lane c)
  unfolding yard_beacons post_beacons
  beacon_answer = go (ltb lane 8) refl (eqb number 0) refl
    where
      go : (a : Bool) → ltb lane 8 ≡ a → (b : Bool) → eqb number 0 ≡ b → (yard_beacons w.air w.yard lane).answer ≡ answers_to (stops_at w lane c)
      go false e b f = rw e
      go true e false f = rw (e, f)
      go true e true f = rw (e, f) (sends w.air (post_at w.yard lane) c (eqb-true number 0 f))

  -- the counts after it: one more of its own lane where it is sent
  pub beacon_counts : (single w (beacon lane)).yard.beacons ≡ cond (eqb (stops_at w lane c) 0) (set w.yard.beacons lane (c + 1)) w.yard.beacons
  unfolding single yard_beacons post_beacons
  beacon_counts = go (ltb lane 8) refl (eqb number 0) refl
    where
      go : (a : Bool) → ltb lane 8 ≡ a → (b : Bool) → eqb number 0 ≡ b
          → (single w (beacon lane)).yard.beacons ≡ cond (eqb (stops_at w lane c) 0) (set w.yard.beacons lane (c + 1)) w.yard.beacons
      go false e b f = rw e
      go true e false f = rw (e, f, set-get_or w.yard.beacons lane 0)
      go true e true f = rw (e, f)

-- ---- whose counts change

-- no one's by an order
pub order_counts : (w : World) (lane word : ℕ) → (single w (order lane word)).yard.beacons ≡ w.yard.beacons
unfolding single yard_orders
order_counts w lane word = go (below_or_not lane 8)
  where
    go : (lane < 8) ⊎ (8 ≤ lane) → (yard_orders w.air w.yard lane word).yard.beacons ≡ w.yard.beacons
    go (inl l) = rw (lt-ltb lane 8 l)
    go (inr l) = rw (le-ltb lane 8 l)

-- or a hearing
pub hear_counts : (w : World) (lane k : ℕ) → (single w (hear lane k)).yard.beacons ≡ w.yard.beacons
unfolding single yard_hears
hear_counts w lane k = go (below_or_not lane 8)
  where
    go : (lane < 8) ⊎ (8 ≤ lane) → (yard_hears w.air w.yard lane k).yard.beacons ≡ w.yard.beacons
    go (inl l) = rw (lt-ltb lane 8 l)
    go (inr l) = rw (le-ltb lane 8 l)

-- no other lane's by a beacon
pub other_count : (w : World) (lane q : ℕ) → lane ≢ q → beacons_at (single w (beacon lane)).yard q ≡ beacons_at w.yard q
other_count w lane q n = rw (beacon_counts w lane) (go (eqb (stops_at w lane (beacons_at w.yard lane)) 0))
  where
    go : (b : Bool) → get_or (cond b (set w.yard.beacons lane (beacons_at w.yard lane + 1)) w.yard.beacons) q 0 ≡ beacons_at w.yard q
    go true = get_or-set_other w.yard.beacons lane q (beacons_at w.yard lane + 1) 0 (λ e. n (sym e))
    go false = refl

-- its own, where the yard has eight counts
pub own_count : (w : World) (q : ℕ) → length w.yard.beacons ≡ 8
    → beacons_at (single w (beacon q)).yard q ≡ cond (eqb (stops_at w q (beacons_at w.yard q)) 0) (beacons_at w.yard q + 1) (beacons_at w.yard q)
own_count w q eight = rw (beacon_counts w q) (go (ltb q 8) refl (eqb (stops_at w q (beacons_at w.yard q)) 0) refl)
  where
    c : ℕ
    c = beacons_at w.yard q

    go : (a : Bool) → ltb q 8 ≡ a → (b : Bool) → eqb (stops_at w q c) 0 ≡ b → get_or (cond b (set w.yard.beacons q (c + 1)) w.yard.beacons) q 0 ≡ cond b (c + 1) c
    go a e false f = refl
    go true e true f = get_or-set_same w.yard.beacons q (c + 1) 0 (omega (arith, ltb-true q 8 e))
    go false e true f = absurd (let z : stops_at w q c ≡ 4 = rw e in omega (arith, eqb-true (stops_at w q c) 0 f))

-- one more at most, in any yard
pub own_few : (w : World) (q : ℕ) → (beacons_at w.yard q ≤ beacons_at (single w (beacon q)).yard q) × (beacons_at (single w (beacon q)).yard q ≤ beacons_at w.yard q + 1)
own_few w q = rw (beacon_counts w q) (go (eqb (stops_at w q c) 0) (below_or_not q (length w.yard.beacons)))
  where
    c : ℕ
    c = beacons_at w.yard q

    go : (b : Bool) → (q < length w.yard.beacons) ⊎ (length w.yard.beacons ≤ q)
        → (c ≤ get_or (cond b (set w.yard.beacons q (c + 1)) w.yard.beacons) q 0) × (get_or (cond b (set w.yard.beacons q (c + 1)) w.yard.beacons) q 0 ≤ c + 1)
    go false h = (omega arith, omega arith)
    go true (inl h) = rw (get_or-set_same w.yard.beacons q (c + 1) 0 h) (omega arith, omega arith)
    go true (inr h) =
        let z : c ≡ 0 = get_or-eq_default w.yard.beacons 0 {n = q} h in
        let y = get_or-eq_default (set w.yard.beacons q (c + 1)) 0 {n = q} (omega (arith, length-set w.yard.beacons q (c + 1))) in
        rw y (omega arith, omega arith)
