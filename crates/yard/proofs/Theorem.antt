-- Proves `StateSound` of specs/Sound.antt. Assumes nothing.
use mathlib.Core.Path.{◌≡◌, refl}
use mathlib.Core.Bool.{Bool, true, false}
use mathlib.Core.List.{List, [], ◌∷◌}
use Prim.Native.Nat.{ℕ}
use native.Mathlib.Omega.{arith}
use lib.Count.{ones}
use lib.Dec.{eqb}
use lib.ListN.{replicate}
use borrow.Author.Tests.{eqb-false}
use Rattle.post.specs.Record.{fresh_post}
use Rattle.deliver.proofs.KnownLaws.{known_none}
use Rattle.state.specs.Yards.{Yard, no_post, fresh_yard, yard_refusal}
use Rattle.yard.specs.Singles.{yard_orders, yard_hears, yard_beacons}
use Rattle.yard.specs.Worlds.{World, world_of, Single, order, hear, beacon, single, singles}
use Rattle.state.specs.States.{Held, whole, other}
use Rattle.state.specs.Fresh.{nothing_known, fresh_in}
use Rattle.yard.specs.InState.{After, after, orders_in, hears_in, beacons_in, Here, here_in, single_in, singles_in}
use Rattle.yard.specs.Sound.{Sound, Holds, Does, StateSound}
use Rattle.state.proofs.StateLaws.{at_lane}
use Rattle.state.proofs.Exact.{held_all}
use Rattle.yard.proofs.Sound.{orders_whole, hears_whole, beacons_whole}

-- ---- what a state holds

-- a sound yard and an air are a world
pub holds_whole : (y : Yard) (ks : List (List ℕ)) (air : List ℕ) → Sound y ks → Holds (record { held = whole y ks; air = air }) (world_of y air)
holds_whole y ks air h = record { knowns = ks; yard = refl; bytes = refl; sound = h }

pub holds_is : (h : Here) (w : World) (s : Holds h w) → h ≡ record { held = whole w.yard s.knowns; air = w.air }
holds_is h w s = rw (s.yard, s.bytes)

-- what code leaves that meets its contract
pub does_after : {Answer : Type 0} (r : Answer) (t exit : List ℕ) (s : After Answer) (a : Answer) (w : World) → after r t exit ≡ s → Does s a w
    → (r ≡ a) × Holds (here_in t exit) w
does_after r t exit s a w e d = rw (← e) at d

-- ---- the steps

-- a step that is known by an equation
does : {Answer : Type 0} (s : After Answer) (a : Answer) (y : Yard) (ks : List (List ℕ)) (air : List ℕ) → s ≡ record { answer = a; held = whole y ks; air = air }
    → Sound y ks → Does s a (world_of y air)
does s a y ks air e h = rw e (refl, record { knowns = ks; yard = refl; bytes = refl; sound = h })

pub orders_sound : (h : Here) (w : World) (lane word : ℕ) → Holds h w
    → Does (orders_in h.held h.air lane word) (yard_orders w.air w.yard lane word).answer (single w (order lane word))
unfolding single
orders_sound h w lane word s =
    let o = orders_whole w.yard s.knowns w.air s.sound lane word in
    does _ (yard_orders w.air w.yard lane word).answer (single w (order lane word)).yard o.0 (single w (order lane word)).air (rw (s.yard, s.bytes) o.1) o.2

pub hears_sound : (h : Here) (w : World) (lane k : ℕ) → Holds h w
    → Does (hears_in h.held h.air lane k) (yard_hears w.air w.yard lane k).answer (single w (hear lane k))
unfolding single
hears_sound h w lane k s =
    let o = hears_whole w.yard s.knowns w.air s.sound lane k in
    does _ (yard_hears w.air w.yard lane k).answer (single w (hear lane k)).yard o.0 (single w (hear lane k)).air (rw (s.yard, s.bytes) o.1) o.2

pub beacons_sound : (h : Here) (w : World) (lane : ℕ) → Holds h w
    → Does (beacons_in h.held h.air lane) (yard_beacons w.air w.yard lane).answer (single w (beacon lane))
unfolding single
beacons_sound h w lane s =
    let o = beacons_whole w.yard s.knowns w.air s.sound lane in
    does _ (yard_beacons w.air w.yard lane).answer (single w (beacon lane)).yard s.knowns (single w (beacon lane)).air (rw (s.yard, s.bytes) o.0) o.1

pub single_sound : (h : Here) (w : World) (s : Single) → Holds h w → Holds (single_in h s) (single w s)
unfolding single_in
single_sound h w (order lane word) s = (orders_sound h w lane word s).1
single_sound h w (hear lane k) s = (hears_sound h w lane k s).1
single_sound h w (beacon lane) s = (beacons_sound h w lane s).1

pub singles_sound : (h : Here) (w : World) (l : List Single) → Holds h w → Holds (singles_in h l) (singles w l)
unfolding singles_in singles
singles_sound h w [] s = s
singles_sound h w (x ∷ l) s = singles_sound (single_in h x) (single w x) l (single_sound h w x s)

-- ---- a fresh yard

pub fresh_held : (h : Held) (present sources dests : ℕ) → (fresh_in h present sources dests).number ≡ 0
    → (fresh_in h present sources dests).held ≡ whole (fresh_yard present sources dests) nothing_known
unfolding fresh_in
fresh_held (other cells) present sources dests z = go (eqb (ones present) 0) refl
  where
    go : (b : Bool) → eqb (ones present) 0 ≡ b → other cells ≡ whole (fresh_yard present sources dests) nothing_known
    go true e = absurd (let q : ◌≡◌ {A = ℕ} 3 0 = rw e at z in omega arith)
    go false e = absurd (let q : ◌≡◌ {A = ℕ} 12 0 = rw e at z in omega arith)
fresh_held (whole y knowns) present sources dests z = go (eqb (yard_refusal present sources dests) 0) refl
  where
    go : (b : Bool) → eqb (yard_refusal present sources dests) 0 ≡ b
        → (fresh_in (whole y knowns) present sources dests).held ≡ whole (fresh_yard present sources dests) nothing_known
    go true e = rw e
    go false e = absurd (eqb-false (yard_refusal present sources dests) 0 e (rw e at z))

pub fresh_sound : (present sources dests : ℕ) → Sound (fresh_yard present sources dests) nothing_known
unfolding fresh_yard
fresh_sound present sources dests = record {
  posts = refl;
  lists = refl;
  known = λ lane small.
      rw (at_lane no_post (λ (i : ℕ). fresh_post i present sources dests) lane small, at_lane {A = List ℕ} [] (λ (i : ℕ). replicate 8 0) lane small) (known_none (fresh_post lane present sources dests));
}

pub state_sound : StateSound
state_sound = record {
  orders = orders_sound;
  hears = hears_sound;
  beacons = beacons_sound;
  list = singles_sound;
  fresh = fresh_held;
  begins = fresh_sound;
  all = held_all;
}
