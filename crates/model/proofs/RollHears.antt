-- The roll call's hearings of the orders: after them every post has taken every order. Assumes nothing.
use mathlib.Core.Path.{◌≡◌, refl, sym, ◌∙◌}
use mathlib.Core.List.{List, [], ◌∷◌}
use mathlib.Core.Logic.{◌⊎◌, inl, inr, ◌≢◌}
use mathlib.Core.Bool.{Bool, true, false, cond}
use Prim.Native.Nat.{ℕ, zero, suc, ◌≤◌, ◌<◌}
use native.Mathlib.Omega.{arith}
use lib.Dec.{eqb}
use borrow.Author.Tests.{eqb-true}
use Rattle.laws.proofs.TestLaws.{same_or_not}
use Rattle.yard.specs.Worlds.{Single, order, hear, beacon}
use Rattle.model.proofs.Functions.{upd_same}
use Rattle.model.proofs.Model.{Frame, Roles, Yard, hear_refused, hear_done, step, run, lane_hears, lanes_hears, posts_hear}
use Rattle.model.proofs.Invariants.{RolesOk, YardOk}
use Rattle.model.proofs.Hearing.{IsNext, taken_or_not, hear_own, hear_beacons}
use Rattle.model.proofs.Steps.{hear_fine, hear_or_refused, beacon_or_refused, step_hear, step_ok, run_append}
use Rattle.model.proofs.Air.{IsOf, First, AirOk, first_later, step_air}
use Rattle.model.proofs.RollLists.{Each, each_cond, IsHear, NoOrder, lane_no_order, lanes_no_order, posts_no_order}

-- ---- what lasts while no order is sent

-- Z comes after Y, and no order was sent between
pub record Since (R : Roles) (Y Z : Yard) : Type 0 where
  pub since_ok : YardOk R Z
  pub since_air : AirOk Z
  pub own_same : (i : ℕ) → (Z.posts i).own ≡ (Y.posts i).own
  pub last_more : (p i : ℕ) → (Y.posts p).last i ≤ (Z.posts p).last i
  pub frames_more : Y.frames ≤ Z.frames
  pub air_same : (k : ℕ) → k < Y.frames → Z.air k ≡ Y.air k

module _ (R : Roles) (ro : RolesOk R) where
  -- nothing between
  pub since_itself : (Y : Yard) → YardOk R Y → AirOk Y → Since R Y Y
  since_itself Y y a = record {
    since_ok = y;
    since_air = a;
    own_same = λ i. refl;
    last_more = λ p i. omega arith;
    frames_more = omega arith;
    air_same = λ k l. refl;
  }

  -- a hearing or a beacon leaves all own serials
  own_stays : (Y : Yard) (s : Single) → NoOrder s → (i : ℕ) → ((step R Y s).posts i).own ≡ (Y.posts i).own
  own_stays Y (order p w) m i = absurd m
  own_stays Y (hear p k) m i = hear_or_refused R Y (λ Z. (Z.posts i).own ≡ (Y.posts i).own) p k (λ e. hear_own R Y p (Y.air k) i) refl
  own_stays Y (beacon p) m i = beacon_or_refused R Y (λ Z. (Z.posts i).own ≡ (Y.posts i).own) p (λ e. refl) refl

  -- one step more
  pub since_step : (Y Z : Yard) (s : Single) → NoOrder s → Since R Y Z → Since R Y (step R Z s)
  since_step Y Z s m z = let n = step_ok R ro Z s z.since_ok in record {
    since_ok = n.next_ok;
    since_air = step_air R ro Z s z.since_ok z.since_air;
    own_same = λ i. own_stays Z s m i ∙ z.own_same i;
    last_more = λ p i. omega (arith, z.last_more p i, n.last_grows p i);
    frames_more = omega (arith, z.frames_more, n.frames_grow);
    air_same = λ k l. n.air_stays k (omega (arith, z.frames_more)) ∙ z.air_same k l;
  }

  -- a list of steps more
  pub since_run : (Y Z : Yard) (l : List Single) → Each NoOrder l → Since R Y Z → Since R Y (run R Z l)
  unfolding run
  since_run Y Z [] m z = z
  since_run Y Z (s ∷ l) m z = since_run Y (step R Z s) l m.1 (since_step Y Z s m.0 z)

  -- what was taken before them is taken after them
  last_run : (Z : Yard) (l : List Single) → Each NoOrder l → YardOk R Z → AirOk Z → (p i : ℕ) → (Z.posts p).last i ≤ ((run R Z l).posts p).last i
  last_run Z l m z a p i = (since_run Z Z l m (since_itself Z z a)).last_more p i

  -- hearings send no beacon
  pub hears_beacons : (Y : Yard) (l : List Single) → Each IsHear l → (run R Y l).beacons ≡ Y.beacons
  unfolding run
  hears_beacons Y [] h = refl
  hears_beacons Y (order p w ∷ l) h = absurd h.0
  hears_beacons Y (hear p k ∷ l) h = hears_beacons (step R Y (hear p k)) l h.1 ∙ one
    where
      one : (step R Y (hear p k)).beacons ≡ Y.beacons
      one = hear_or_refused R Y (λ Z. Z.beacons ≡ Y.beacons) p k (λ e. hear_beacons R Y p (Y.air k)) refl
  hears_beacons Y (beacon p ∷ l) h = absurd h.0

  -- ---- one hearing

  -- of the order with the serial after n: it is taken where n was, if it was not there before
  hear_last : (Y : Yard) (p : ℕ) (f : Frame) (i n : ℕ) → IsOf f i (suc n) → n ≤ (Y.posts p).last i → suc n ≤ ((hear_done R Y p f).posts p).last i
  hear_last Y p f i n e l = taken_or_not (λ Z. suc n ≤ (Z.posts p).last i) R Y p f
      (λ x. rw (upd_same Y.posts, e.1, upd_same (Y.posts p).last) (omega (arith, e.2)))
      (λ x. rw (upd_same Y.posts) (there x))
    where
      there : (IsNext Y p f → ⊥) → suc n ≤ (Y.posts p).last i
      there x = let ne : f.carried.serial ≢ suc ((Y.posts p).last i) = λ q. x (e.0, rw e.1 q) in omega (arith, e.2)

  -- ---- the hearings, whatever of them ran before

  module _ (Y : Yard) (y : YardOk R Y) (a : AirOk Y) where
    -- of a lane: serials up to n are taken
    lane_heard_lem : (p i n : ℕ) → p < 8 → R.present p ≡ true → i ≢ p → n ≤ (Y.posts i).own → (Z : Yard) → Since R Y Z
        → n ≤ ((run R Z (lane_hears Y p i n)).posts p).last i
    unfolding lane_hears run
    lane_heard_lem p i zero l b ne m Z z = omega arith
    lane_heard_lem p i (suc n) l b ne m Z z = rw run_append (done (lane_heard_lem p i n l b ne (omega arith) Z z))
      where
        X : Yard
        X = run R Z (lane_hears Y p i n)

        x : Since R Y X
        x = since_run Y Z (lane_hears Y p i n) (lane_no_order Y p i n) z

        k : ℕ
        k = Y.first i (suc n)

        f : First X.air X.frames i (suc n) k
        f = first_later Y.air X.air Y.frames X.frames i (suc n) k (a.first_frames i (suc n) (omega arith) m) x.frames_more x.air_same

        fine : hear_refused R X p k ≡ 0
        fine = hear_fine R X p k l b f.on_air (λ q. ne (sym f.from_its_lane ∙ q))

        done : n ≤ (X.posts p).last i → suc n ≤ ((step R X (hear p k)).posts p).last i
        done h = rw (step_hear R X p k fine) (hear_last X p (X.air k) i n f.is_of h)

    -- of the lanes below k
    lanes_heard : (p k : ℕ) → p < 8 → R.present p ≡ true → (Z : Yard) → Since R Y Z → (i : ℕ) → i < k → i ≢ p
        → (Y.posts i).own ≤ ((run R Z (lanes_hears Y p k)).posts p).last i
    unfolding lanes_hears
    lanes_heard p zero l b Z z i m ne = absurd (omega arith)
    lanes_heard p (suc k) l b Z z i m ne = rw run_append (go (same_or_not i k) (lanes_heard p k l b Z z i))
      where
        X : Yard
        X = run R Z (lanes_hears Y p k)

        x : Since R Y X
        x = since_run Y Z (lanes_hears Y p k) (lanes_no_order Y p k) z

        L : Bool → List Single
        L e = cond e [] (lane_hears Y p k (Y.posts k).own)

        here : i ≡ k → (e : Bool) → eqb k p ≡ e → (Y.posts i).own ≤ ((run R X (L e)).posts p).last i
        here q true e = absurd (ne (q ∙ eqb-true k p e))
        here q false e = rw q (lane_heard_lem p k (Y.posts k).own l b (λ w. ne (q ∙ w)) (omega arith) X x)

        later : (e : Bool) → (Y.posts i).own ≤ (X.posts p).last i → (Y.posts i).own ≤ ((run R X (L e)).posts p).last i
        later e h = omega (arith, last_run X (L e) no_order x.since_ok x.since_air p i)
          where
            no_order : Each NoOrder (L e)
            no_order = each_cond NoOrder e [] (lane_hears Y p k (Y.posts k).own) tt (lane_no_order Y p k (Y.posts k).own)

        go : (i ≡ k) ⊎ (i ≢ k) → (i < k → i ≢ p → (Y.posts i).own ≤ (X.posts p).last i) → (Y.posts i).own ≤ ((run R X (L (eqb k p))).posts p).last i
        go (inl q) ih = here q (eqb k p) refl
        go (inr q) ih = later (eqb k p) (ih (omega arith) ne)

    -- by the posts below k
    pub posts_heard : (k : ℕ) → k ≤ 8 → (p i : ℕ) → p < k → R.present p ≡ true → i < 8 → i ≢ p
        → (Y.posts i).own ≤ ((run R Y (posts_hear R Y k)).posts p).last i
    unfolding posts_hear
    posts_heard zero h p i l b m ne = absurd (omega arith)
    posts_heard (suc k) h p i l b m ne = rw run_append (go (same_or_not p k) (posts_heard k (omega arith) p i))
      where
        X : Yard
        X = run R Y (posts_hear R Y k)

        x : Since R Y X
        x = since_run Y Y (posts_hear R Y k) (posts_no_order R Y k) (since_itself Y y a)

        L : List Single
        L = cond (R.present k) (lanes_hears Y k 8) []

        no_order : Each NoOrder L
        no_order = each_cond NoOrder (R.present k) (lanes_hears Y k 8) [] (lanes_no_order Y k 8) tt

        go : (p ≡ k) ⊎ (p ≢ k) → (p < k → R.present p ≡ true → i < 8 → i ≢ p → (Y.posts i).own ≤ (X.posts p).last i)
            → (Y.posts i).own ≤ ((run R X L).posts p).last i
        go (inl q) ih = rw (q, rw q at b) (lanes_heard k 8 (omega arith) (rw q at b) X x i m (rw q at ne))
        go (inr q) ih = omega (arith, ih (omega arith) b m ne, last_run X L no_order x.since_ok x.since_air p i)
