-- What the steps on a state have to do with document 01's yard; `state_sound` in proofs/Theorem.antt proves it. Assumes nothing.
use Rattle.std.specs.Prelude.{◌≡◌, List, [], ℕ, ◌<◌, length, get_or}
use Rattle.deliver.specs.Known.{Known}
use Rattle.state.specs.Yards.{Yard, post_at, fresh_yard}
use Rattle.yard.specs.Singles.{yard_orders, yard_hears, yard_beacons}
use Rattle.yard.specs.Worlds.{World, Single, order, hear, beacon, single, singles}
use Rattle.state.specs.States.{Held, whole, held_in}
use Rattle.state.specs.Fresh.{nothing_known, fresh_in}
use Rattle.yard.specs.InState.{After, orders_in, hears_in, beacons_in, Here, singles_in}

-- eight posts, and all that each of them is said to know of its log is so
pub record Sound (y : Yard) (knowns : List (List ℕ)) : Type 0 where
  pub posts : length y.posts ≡ 8
  pub lists : length knowns ≡ 8
  pub known : (lane : ℕ) → lane < 8 → Known (get_or knowns lane []) (post_at y lane)

-- a state and its air hold a world: its yard, with such knowledge, and its air
pub record Holds (h : Here) (w : World) : Type 0 where
  pub knowns : List (List ℕ)
  pub yard : h.held ≡ whole w.yard knowns
  pub bytes : h.air ≡ w.air
  pub sound : Sound w.yard knowns

-- a step on a state that answers this, and leaves this world
abbrev pub Does : {Answer : Type 0} → After Answer → Answer → World → Type 0
Does s answer w = (s.answer ≡ answer) × Holds (record { held = s.held; air = s.air }) w

pub record StateSound : Type 0 where
  -- on a state that holds a world, each step answers and leaves what the step in the yard does, whatever its arguments
  pub orders : (h : Here) (w : World) (lane word : ℕ) → Holds h w
      → Does (orders_in h.held h.air lane word) (yard_orders w.air w.yard lane word).answer (single w (order lane word))
  pub hears : (h : Here) (w : World) (lane k : ℕ) → Holds h w
      → Does (hears_in h.held h.air lane k) (yard_hears w.air w.yard lane k).answer (single w (hear lane k))
  pub beacons : (h : Here) (w : World) (lane : ℕ) → Holds h w
      → Does (beacons_in h.held h.air lane) (yard_beacons w.air w.yard lane).answer (single w (beacon lane))
  -- and so does a list of them
  pub list : (h : Here) (w : World) (l : List Single) → Holds h w → Holds (singles_in h l) (singles w l)
  -- a fresh yard that is not refused is held, and it is one to begin with
  pub fresh : (h : Held) (present sources dests : ℕ) → (fresh_in h present sources dests).number ≡ 0
      → (fresh_in h present sources dests).held ≡ whole (fresh_yard present sources dests) nothing_known
  pub begins : (present sources dests : ℕ) → Sound (fresh_yard present sources dests) nothing_known
  -- what a state holds is all of it: no two states hold the same
  pub all : (s t : List ℕ) → held_in s ≡ held_in t → s ≡ t
