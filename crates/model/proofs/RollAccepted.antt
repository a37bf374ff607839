-- None of the single steps of a roll call that is not refused is itself refused. Assumes nothing.
use mathlib.Core.Path.{◌≡◌, refl, sym, ◌∙◌}
use mathlib.Core.List.{List, [], ◌∷◌, ◌++◌}
use mathlib.Core.Logic.{◌≢◌}
use mathlib.Core.Bool.{Bool, true, false, cond, ◌&&◌, not}
use Prim.Native.Nat.{ℕ, zero, suc, ◌+◌, ◌≤◌}
use native.Mathlib.Omega.{arith}
use lib.Dec.{eqb}
use borrow.Author.Tests.{eqb-false}
use Rattle.yard.specs.Worlds.{Single, order, hear, beacon}
use Rattle.model.proofs.Model.{Roles, Yard, order_refused, hear_refused, beacon_refused, step, run, lane_hears, lanes_hears, posts_hear, beacons_sent}
use Rattle.model.proofs.Model.{sources_below, beacons_heard, posts_hear_beacons, roll_steps}
use Rattle.model.proofs.Invariants.{RolesOk, YardOk}
use Rattle.model.proofs.Steps.{hear_pass, hear_fine}
use Rattle.model.proofs.Air.{First, AirOk}
use Rattle.model.proofs.RollLists.{Each, each_append}
use Rattle.model.proofs.RollHears.{Since, since_itself, since_step}
use Rattle.model.proofs.RollBeacons.{Left, Beaconed, beacon_passes, beaconed}
use Rattle.model.proofs.BeaconHears.{OnlyBeacons, beacon_hearable}
use Rattle.model.proofs.RollCall.{Y₁, Y₂, since₁, since₂, beacons₁, sent₂, still₂}

-- ---- lists of steps of which none is refused

-- the refusal's number of a single step, or 0
abbrev pub refused_by : Roles → Yard → Single → ℕ
refused_by R Y (order p w) = order_refused R Y p w
refused_by R Y (hear p k) = hear_refused R Y p k
refused_by R Y (beacon p) = beacon_refused R Y p

-- every step of a list is accepted, each in the yard that the one before left
abbrev pub Accepted : Roles → Yard → List Single → Type 0
Accepted R Y [] = Unit {0}
Accepted R Y (s ∷ l) = (refused_by R Y s ≡ 0) × Accepted R (step R Y s) l

-- a list and then another
pub accepted_append : (R : Roles) (Y : Yard) (l m : List Single) → Accepted R Y l → Accepted R (run R Y l) m → Accepted R Y (l ++ m)
unfolding run
accepted_append R Y [] m a b = b
accepted_append R Y (s ∷ l) m a b = (a.0, accepted_append R (step R Y s) l m a.1 b)

-- ---- hearings of frames that are on the air already

-- the step is a hearing that is not refused in Y
abbrev Hearable : Roles → Yard → Single → Type 0
Hearable R Y (order p w) = ⊥
Hearable R Y (hear p k) = hear_refused R Y p k ≡ 0
Hearable R Y (beacon p) = ⊥

-- one of two lists, by a test
each_by : (C : Single → Type 0) (b : Bool) (l m : List Single) → (b ≡ true → Each C l) → (b ≡ false → Each C m) → Each C (cond b l m)
each_by C true l m f g = f refl
each_by C false l m f g = g refl

module _ (R : Roles) (ro : RolesOk R) where
  -- it is not refused later either: the frame stays where it is
  hearable_since : (Y Z : Yard) → Since R Y Z → (p k : ℕ) → hear_refused R Y p k ≡ 0 → hear_refused R Z p k ≡ 0
  hearable_since Y Z z p k e = let q = hear_pass R Y p k e in
      hear_fine R Z p k q.0 q.1 (omega (arith, q.2, z.frames_more)) (rw (z.air_same k q.2) q.3)

  -- so a list of such hearings is accepted, whatever of it ran before
  hears_accepted : (Y Z : Yard) (l : List Single) → Each (Hearable R Y) l → Since R Y Z → Accepted R Z l
  hears_accepted Y Z [] h z = tt
  hears_accepted Y Z (order p w ∷ l) h z = absurd h.0
  hears_accepted Y Z (hear p k ∷ l) h z =
      (hearable_since Y Z z p k h.0, hears_accepted Y (step R Z (hear p k)) l h.1 (since_step R ro Y Z (hear p k) tt z))
  hears_accepted Y Z (beacon p ∷ l) h z = absurd h.0

  -- ---- the hearings of the orders

  module _ (Y : Yard) (a : AirOk Y) where
    -- of a lane, by another post
    lane_hearable : (p i n : ℕ) → R.present p ≡ true → i ≢ p → n ≤ (Y.posts i).own → Each (Hearable R Y) (lane_hears Y p i n)
    unfolding lane_hears
    lane_hearable p i zero b ne m = tt
    lane_hearable p i (suc n) b ne m =
        each_append (Hearable R Y) (lane_hears Y p i n) (hear p (Y.first i (suc n)) ∷ []) (lane_hearable p i n b ne (omega arith)) (here, tt)
      where
        f : First Y.air Y.frames i (suc n) (Y.first i (suc n))
        f = a.first_frames i (suc n) (omega arith) m

        here : hear_refused R Y p (Y.first i (suc n)) ≡ 0
        here = hear_fine R Y p (Y.first i (suc n)) (ro.present_lanes p b) b f.on_air (λ q. ne (sym f.from_its_lane ∙ q))

    -- of the lanes below k
    lanes_hearable : (p k : ℕ) → R.present p ≡ true → Each (Hearable R Y) (lanes_hears Y p k)
    unfolding lanes_hears
    lanes_hearable p zero b = tt
    lanes_hearable p (suc i) b =
        each_append (Hearable R Y) (lanes_hears Y p i) (cond (eqb i p) [] (lane_hears Y p i (Y.posts i).own)) (lanes_hearable p i b)
        (each_by (Hearable R Y) (eqb i p) [] (lane_hears Y p i (Y.posts i).own) (λ e. tt)
        (λ e. lane_hearable p i (Y.posts i).own b (eqb-false i p e) (omega arith)))

    -- by the posts below k
    posts_hearable : (k : ℕ) → Each (Hearable R Y) (posts_hear R Y k)
    unfolding posts_hear
    posts_hearable zero = tt
    posts_hearable (suc p) = each_append (Hearable R Y) (posts_hear R Y p) (cond (R.present p) (lanes_hears Y p 8) []) (posts_hearable p)
        (each_by (Hearable R Y) (R.present p) (lanes_hears Y p 8) [] (λ b. lanes_hearable p 8 b) (λ b. tt))

  -- ---- the beacons

  -- those of the sources below k, where each source has one left
  beacons_accepted : (Y : Yard) → YardOk R Y → Left R Y → (k : ℕ) → k ≤ 8 → Accepted R Y (beacons_sent R k)
  unfolding beacons_sent
  beacons_accepted Y y left zero l = tt
  beacons_accepted Y y left (suc k) l =
      accepted_append R Y (beacons_sent R k) (cond (R.source k) (beacon k ∷ []) []) (beacons_accepted Y y left k (omega arith)) (go (R.source k) refl)
    where
      X : Yard
      X = run R Y (beacons_sent R k)

      go : (b : Bool) → R.source k ≡ b → Accepted R X (cond b (beacon k ∷ []) [])
      go true b = (beacon_passes R ro Y y left X k l b (beaconed R ro Y y left k (omega arith)), tt)
      go false b = tt

  -- ---- the hearings of the beacons, which are on the air in Z

  module _ (Y Z : Yard) (h : Beaconed R Y Z 8) (t : OnlyBeacons R Z Z) where
    -- by post p, of the sources below k
    beacons_hearable : (p k : ℕ) → R.present p ≡ true → Each (Hearable R Z) (beacons_heard R Y.frames p k)
    unfolding beacons_heard
    beacons_hearable p zero b = tt
    beacons_hearable p (suc i) b =
        each_append (Hearable R Z) (beacons_heard R Y.frames p i) (cond (R.source i && not (eqb i p)) (hear p (Y.frames + sources_below R i) ∷ []) [])
        (beacons_hearable p i b) (go (R.source i) (eqb i p) refl refl)
      where
        go : (s e : Bool) → R.source i ≡ s → eqb i p ≡ e
            → Each (Hearable R Z) (cond (s && not e) (hear p (Y.frames + sources_below R i) ∷ []) [])
        go true true s e = tt
        go true false s e = (beacon_hearable R ro Y Z h Z t p i (ro.present_lanes p b) b s (eqb-false i p e), tt)
        go false e s q = tt

    -- by the posts below k
    posts_beacons_hearable : (k : ℕ) → Each (Hearable R Z) (posts_hear_beacons R Y.frames k)
    unfolding posts_hear_beacons
    posts_beacons_hearable zero = tt
    posts_beacons_hearable (suc p) =
        each_append (Hearable R Z) (posts_hear_beacons R Y.frames p) (cond (R.present p) (beacons_heard R Y.frames p 8) []) (posts_beacons_hearable p)
        (each_by (Hearable R Z) (R.present p) (beacons_heard R Y.frames p 8) [] (λ b. beacons_hearable p 8 b) (λ b. tt))

  -- ---- the whole call

  module _ (Y : Yard) (y : YardOk R Y) (a : AirOk Y) where
    -- where every source has a beacon left, every step of the roll call is accepted
    pub roll_accepted : Left R Y → Accepted R Y (roll_steps R Y)
    unfolding roll_steps Y₁ Y₂
    roll_accepted enough =
        accepted_append R Y (posts_hear R Y 8) (beacons_sent R 8 ++ posts_hear_beacons R W.frames 8) orders_heard
        (accepted_append R W (beacons_sent R 8) (posts_hear_beacons R W.frames 8) beacons_sent_lem beacons_heard_lem)
      where
        -- after the hearings of the orders
        W : Yard
        W = Y₁ R ro Y y a

        -- after the beacons
        X : Yard
        X = Y₂ R ro Y y a

        left : Left R W
        left = rw (beacons₁ R ro Y y a) enough

        orders_heard : Accepted R Y (posts_hear R Y 8)
        orders_heard = hears_accepted Y Y (posts_hear R Y 8) (posts_hearable Y a 8) (since_itself R ro Y y a)

        beacons_sent_lem : Accepted R W (beacons_sent R 8)
        beacons_sent_lem = beacons_accepted W (since₁ R ro Y y a).since_ok left 8 (omega arith)

        beacons_heard_lem : Accepted R X (posts_hear_beacons R W.frames 8)
        beacons_heard_lem = hears_accepted X X (posts_hear_beacons R W.frames 8)
            (posts_beacons_hearable W X (sent₂ R ro Y y a left) (still₂ R ro Y y a left) 8)
            (since_itself R ro X (since₂ R ro Y y a).since_ok (since₂ R ro Y y a).since_air)
