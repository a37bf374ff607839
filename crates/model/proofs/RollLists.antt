-- The roll call's lists of single steps hold hearings and beacons only: no order is sent by them. Assumes nothing.
use mathlib.Core.Path.{◌≡◌, refl}
use mathlib.Core.List.{List, [], ◌∷◌, ◌++◌}
use mathlib.Core.Bool.{Bool, true, false, cond, ◌&&◌, not}
use Prim.Native.Nat.{ℕ, zero, suc, ◌+◌}
use lib.Dec.{eqb}
use Rattle.yard.specs.Worlds.{Single, order, hear, beacon}
use Rattle.model.proofs.Model.{Roles, Yard, step, sent_by, run, sent, lane_hears, lanes_hears, posts_hear, beacons_sent, sources_below, beacons_heard}
use Rattle.model.proofs.Model.{posts_hear_beacons, roll_steps}

-- ---- what holds of each step of a list

-- it holds of the first and of the rest
abbrev pub Each : (Single → Type 0) → List Single → Type 0
Each C [] = Unit {0}
Each C (s ∷ l) = C s × Each C l

module _ (C : Single → Type 0) where
  -- of two lists one after the other
  pub each_append : (l m : List Single) → Each C l → Each C m → Each C (l ++ m)
  each_append [] m a b = b
  each_append (s ∷ l) m a b = (a.0, each_append l m a.1 b)

  -- of one of two lists
  pub each_cond : (b : Bool) (l m : List Single) → Each C l → Each C m → Each C (cond b l m)
  each_cond true l m a c = a
  each_cond false l m a c = c

  -- and what follows from it
  pub each_so : (D : Single → Type 0) → ((s : Single) → C s → D s) → (l : List Single) → Each C l → Each D l
  each_so D f [] a = tt
  each_so D f (s ∷ l) a = (f s a.0, each_so D f l a.1)

-- the step is a hearing
abbrev pub IsHear : Single → Type 0
IsHear (order p w) = ⊥
IsHear (hear p k) = Unit {0}
IsHear (beacon p) = ⊥

-- the step is a hearing or a beacon
abbrev pub NoOrder : Single → Type 0
NoOrder (order p w) = ⊥
NoOrder (hear p k) = Unit {0}
NoOrder (beacon p) = Unit {0}

-- a hearing sends no order
hear_no_order : (s : Single) → IsHear s → NoOrder s
hear_no_order (order p w) h = h
hear_no_order (hear p k) h = h
hear_no_order (beacon p) h = tt

-- lists of them send nothing
pub none_sent_lem : (R : Roles) (Y : Yard) (l : List Single) → Each NoOrder l → sent R Y l ≡ []
unfolding sent sent_by
none_sent_lem R Y [] m = refl
none_sent_lem R Y (order p w ∷ l) m = absurd m.0
none_sent_lem R Y (hear p k ∷ l) m = none_sent_lem R (step R Y (hear p k)) l m.1
none_sent_lem R Y (beacon p ∷ l) m = none_sent_lem R (step R Y (beacon p)) l m.1

-- ---- the hearings of the orders

-- of one lane
hears_lane : (Y : Yard) (p i n : ℕ) → Each IsHear (lane_hears Y p i n)
unfolding lane_hears
hears_lane Y p i zero = tt
hears_lane Y p i (suc n) = each_append IsHear (lane_hears Y p i n) (hear p (Y.first i (suc n)) ∷ []) (hears_lane Y p i n) (tt, tt)

-- of the lanes below k
hears_lanes : (Y : Yard) (p k : ℕ) → Each IsHear (lanes_hears Y p k)
unfolding lanes_hears
hears_lanes Y p zero = tt
hears_lanes Y p (suc i) = each_append IsHear (lanes_hears Y p i) (cond (eqb i p) [] (lane_hears Y p i (Y.posts i).own)) (hears_lanes Y p i)
    (each_cond IsHear (eqb i p) [] (lane_hears Y p i (Y.posts i).own) tt (hears_lane Y p i (Y.posts i).own))

-- by the posts below k
pub hears_posts : (R : Roles) (Y : Yard) (k : ℕ) → Each IsHear (posts_hear R Y k)
unfolding posts_hear
hears_posts R Y zero = tt
hears_posts R Y (suc p) = each_append IsHear (posts_hear R Y p) (cond (R.present p) (lanes_hears Y p 8) []) (hears_posts R Y p)
    (each_cond IsHear (R.present p) (lanes_hears Y p 8) [] (hears_lanes Y p 8) tt)

-- none of them sends an order: those of one lane
pub lane_no_order : (Y : Yard) (p i n : ℕ) → Each NoOrder (lane_hears Y p i n)
lane_no_order Y p i n = each_so IsHear NoOrder hear_no_order (lane_hears Y p i n) (hears_lane Y p i n)

-- of the lanes below k
pub lanes_no_order : (Y : Yard) (p k : ℕ) → Each NoOrder (lanes_hears Y p k)
lanes_no_order Y p k = each_so IsHear NoOrder hear_no_order (lanes_hears Y p k) (hears_lanes Y p k)

-- by the posts below k
pub posts_no_order : (R : Roles) (Y : Yard) (k : ℕ) → Each NoOrder (posts_hear R Y k)
posts_no_order R Y k = each_so IsHear NoOrder hear_no_order (posts_hear R Y k) (hears_posts R Y k)

-- ---- the beacons and their hearings

module _ (R : Roles) where
  -- the beacons of the sources below k
  pub beacons_no_order : (k : ℕ) → Each NoOrder (beacons_sent R k)
  unfolding beacons_sent
  beacons_no_order zero = tt
  beacons_no_order (suc i) = each_append NoOrder (beacons_sent R i) (cond (R.source i) (beacon i ∷ []) []) (beacons_no_order i)
      (each_cond NoOrder (R.source i) (beacon i ∷ []) [] (tt, tt) tt)

  -- their hearings by post p
  heard_no_order : (c p k : ℕ) → Each NoOrder (beacons_heard R c p k)
  unfolding beacons_heard
  heard_no_order c p zero = tt
  heard_no_order c p (suc i) =
      each_append NoOrder (beacons_heard R c p i) (cond (R.source i && not (eqb i p)) (hear p (c + sources_below R i) ∷ []) []) (heard_no_order c p i)
      (each_cond NoOrder (R.source i && not (eqb i p)) (hear p (c + sources_below R i) ∷ []) [] (tt, tt) tt)

  -- by the posts below k
  all_heard_no_order : (c k : ℕ) → Each NoOrder (posts_hear_beacons R c k)
  unfolding posts_hear_beacons
  all_heard_no_order c zero = tt
  all_heard_no_order c (suc p) =
      each_append NoOrder (posts_hear_beacons R c p) (cond (R.present p) (beacons_heard R c p 8) []) (all_heard_no_order c p)
      (each_cond NoOrder (R.present p) (beacons_heard R c p 8) [] (heard_no_order c p 8) tt)

  -- ---- the whole list

  -- hearings and beacons
  pub roll_no_order : (Y : Yard) → Each NoOrder (roll_steps R Y)
  unfolding roll_steps
  roll_no_order Y =
      each_append NoOrder (posts_hear R Y 8) (beacons_sent R 8 ++ posts_hear_beacons R (run R Y (posts_hear R Y 8)).frames 8) (posts_no_order R Y 8)
      (each_append NoOrder (beacons_sent R 8) (posts_hear_beacons R (run R Y (posts_hear R Y 8)).frames 8)
      (beacons_no_order 8) (all_heard_no_order (run R Y (posts_hear R Y 8)).frames 8))

  -- so a roll call sends nothing
  pub roll_sends_none : (Y : Yard) → sent R Y (roll_steps R Y) ≡ []
  roll_sends_none Y = none_sent_lem R Y (roll_steps R Y) (roll_no_order Y)
