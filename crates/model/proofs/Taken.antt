-- The orders that a post has taken, as a list, and lists filtered by a test. Assumes nothing.
use mathlib.Core.Path.{◌≡◌, refl, sym, ap, ◌∙◌}
use mathlib.Core.List.{List, [], ◌∷◌, ◌++◌}
use mathlib.Core.Logic.{◌⊎◌, inl, inr, ◌≢◌}
use mathlib.Core.Bool.{Bool, true, false, cond, ◌&&◌, ◌||◌}
use Prim.Native.Nat.{ℕ, zero, suc, ◌≤◌, ◌<◌}
use native.Mathlib.Omega.{arith}
use lib.Dec.{eqb}
use borrow.Author.Tests.{eqb-true, eq-eqb}
use Rattle.laws.proofs.TestLaws.{same_or_not, not_both, and_parts, and_made}
use Rattle.laws.proofs.ListLaws.{Mem, mem_left, mem_right, mem_append}
use Rattle.roll.specs.Runs.{Order}
use Rattle.roll.specs.Logs.{rank}
use Rattle.model.proofs.Functions.{le_or_not}
use Rattle.model.proofs.Model.{Post, all_below, those, order_of, lane_orders, taken_below, has}
use Rattle.model.proofs.OrderLists.{Apart, apart_append}
use Rattle.model.proofs.Invariants.{TakenIn}

-- ---- a test at every number below one

-- it holds at all of them where it holds at each
pub below_all : (f : ℕ → Bool) (k : ℕ) → ((i : ℕ) → i < k → f i ≡ true) → all_below k f ≡ true
unfolding all_below
below_all f zero h = refl
below_all f (suc k) h = and_made (f k) (all_below k f) (h k (omega arith)) (below_all f k (λ i l. h i (omega arith)))

-- and the other way round
pub all_below_lem : (f : ℕ → Bool) (k : ℕ) → all_below k f ≡ true → (i : ℕ) → i < k → f i ≡ true
unfolding all_below
all_below_lem f zero e i l = absurd (omega arith)
all_below_lem f (suc k) e i l = go (same_or_not i k) (all_below_lem f k (and_parts (f k) (all_below k f) e).1 i)
  where
    go : (i ≡ k) ⊎ (i ≢ k) → (i < k → f i ≡ true) → f i ≡ true
    go (inl q) ih = rw q (and_parts (f k) (all_below k f) e).0
    go (inr q) ih = ih (omega arith)

-- ---- those of a list that pass a test

module _ (f : Order → Bool) where
  -- a member that passes is among them
  pub mem_those : (x : Order) (l : List Order) → Mem x l → f x ≡ true → Mem x (those f l)
  unfolding those
  mem_those x [] m e = m
  mem_those x (y ∷ l) m e = go (f y) refl m (λ n. mem_those x l n e)
    where
      go : (b : Bool) → f y ≡ b → (x ≡ y) ⊎ Mem x l → (Mem x l → Mem x (those f l)) → Mem x (cond b (y ∷ those f l) (those f l))
      go true q (inl p) ih = inl p
      go true q (inr n) ih = inr (ih n)
      go false q (inl p) ih = absurd (not_both (f y) (rw p at e) q)
      go false q (inr n) ih = ih n

  -- what is among them is a member and passes
  pub those_mem : (x : Order) (l : List Order) → Mem x (those f l) → Mem x l × (f x ≡ true)
  unfolding those
  those_mem x [] m = absurd m
  those_mem x (y ∷ l) m = go (f y) refl m (those_mem x l)
    where
      go : (b : Bool) → f y ≡ b → Mem x (cond b (y ∷ those f l) (those f l)) → (Mem x (those f l) → Mem x l × (f x ≡ true))
          → Mem x (y ∷ l) × (f x ≡ true)
      go true q (inl p) ih = (inl p, rw p q)
      go true q (inr n) ih = let r = ih n in (inr r.0, r.1)
      go false q n ih = let r = ih n in (inr r.0, r.1)

  -- they rank apart where all of the list do
  pub apart_those : (l : List Order) → Apart l → Apart (those f l)
  unfolding those
  apart_those [] a = a
  apart_those (y ∷ l) a = go (f y) (apart_those l a.1)
    where
      go : (b : Bool) → Apart (those f l) → Apart (cond b (y ∷ those f l) (those f l))
      go true ih = (λ z m. a.0 z (those_mem z l m).0, ih)
      go false ih = ih

-- ---- the list has lane i's order with serial n

-- then it is a member
pub has_mem : (i n : ℕ) (l : List Order) → has i n l ≡ true → (x : Order) × Mem x l × (x.lane ≡ i) × (x.serial ≡ n)
unfolding has
has_mem i n [] e = absurd (not_both false e refl)
has_mem i n (x ∷ l) e = go (eqb x.lane i) (eqb x.serial n) refl refl e (has_mem i n l)
  where
    go : (a b : Bool) → eqb x.lane i ≡ a → eqb x.serial n ≡ b → (a && b) || has i n l ≡ true
        → (has i n l ≡ true → (y : Order) × Mem y l × (y.lane ≡ i) × (y.serial ≡ n))
        → (y : Order) × Mem y (x ∷ l) × (y.lane ≡ i) × (y.serial ≡ n)
    go true true p q e ih = (x, inl refl, eqb-true x.lane i p, eqb-true x.serial n q)
    go true false p q e ih = let r = ih e in (r.0, inr r.1, r.2, r.3)
    go false b p q e ih = let r = ih e in (r.0, inr r.1, r.2, r.3)

-- and the other way round
pub mem_has : (x : Order) (l : List Order) → Mem x l → has x.lane x.serial l ≡ true
unfolding has
mem_has x [] m = absurd m
mem_has x (y ∷ l) (inl e) = rw (e, eq-eqb y.lane y.lane refl, eq-eqb y.serial y.serial refl) refl
mem_has x (y ∷ l) (inr m) = rw (mem_has x l m) (or-true (eqb y.lane x.lane && eqb y.serial x.serial))
  where
    or-true : (b : Bool) → b || true ≡ true
    or-true true = refl
    or-true false = refl

-- ---- the orders taken

-- those of a lane, serials 1 to k
pub mem_lane : (P : Post) (i k n : ℕ) → 0 < n → n ≤ k → Mem (order_of P i n) (lane_orders P i k)
unfolding lane_orders
mem_lane P i zero n a b = absurd (omega arith)
mem_lane P i (suc k) n a b = go (same_or_not n (suc k)) (mem_lane P i k n a)
  where
    go : (n ≡ suc k) ⊎ (n ≢ suc k) → (n ≤ k → Mem (order_of P i n) (lane_orders P i k)) → Mem (order_of P i n) (lane_orders P i (suc k))
    go (inl e) ih = inl (rw e refl)
    go (inr e) ih = inr (ih (omega arith))

-- and nothing else
pub lane_mem : (P : Post) (i k : ℕ) (x : Order) → Mem x (lane_orders P i k) → (n : ℕ) × (0 < n) × (n ≤ k) × (x ≡ order_of P i n)
unfolding lane_orders
lane_mem P i zero x m = absurd m
lane_mem P i (suc k) x (inl e) = (suc k, omega arith, omega arith, e)
lane_mem P i (suc k) x (inr m) = let r = lane_mem P i k x m in (r.0, r.1, omega (arith, r.2), r.3)

-- those of the lanes below k
pub mem_taken : (P : Post) (k i n : ℕ) → i < k → 0 < n → n ≤ P.last i → Mem (order_of P i n) (taken_below P k)
unfolding taken_below
mem_taken P zero i n l a b = absurd (omega arith)
mem_taken P (suc k) i n l a b = go (same_or_not i k) (mem_taken P k i n)
  where
    go : (i ≡ k) ⊎ (i ≢ k) → (i < k → 0 < n → n ≤ P.last i → Mem (order_of P i n) (taken_below P k))
        → Mem (order_of P i n) (lane_orders P k (P.last k) ++ taken_below P k)
    go (inl e) ih =
        mem_left (order_of P i n) (lane_orders P k (P.last k)) (taken_below P k) (rw e (mem_lane P k (P.last k) n a (rw e at b)))
    go (inr e) ih = mem_right (order_of P i n) (lane_orders P k (P.last k)) (taken_below P k) (ih (omega arith) a b)

-- an order of a lane below k that the post keeps
taken_as : (P : Post) (k i n : ℕ) (x : Order) → i < k → 0 < n → n ≤ P.last i → x ≡ order_of P i n → TakenIn P k x
taken_as P k i n x a b c e = record { lane_below = rw e a; serial_from_one = rw e b; serial_taken = rw e c; as_kept = rw e refl }

-- and nothing else
pub taken_mem : (P : Post) (k : ℕ) (x : Order) → Mem x (taken_below P k) → TakenIn P k x
unfolding taken_below
taken_mem P zero x m = absurd m
taken_mem P (suc k) x m = go (mem_append x (lane_orders P k (P.last k)) (taken_below P k) m) (taken_mem P k x)
  where
    go : Mem x (lane_orders P k (P.last k)) ⊎ Mem x (taken_below P k) → (Mem x (taken_below P k) → TakenIn P k x) → TakenIn P (suc k) x
    go (inl n) ih = let r = lane_mem P k (P.last k) x n in taken_as P (suc k) k r.0 x (omega arith) r.1 r.2 r.3
    go (inr n) ih = let r = ih n in
        record { lane_below = omega (arith, r.lane_below); serial_from_one = r.serial_from_one; serial_taken = r.serial_taken; as_kept = r.as_kept }

-- ---- their stamps rise with the serial

-- from each order taken of a lane to the next
abbrev pub KeptRise : Post → Type 0
KeptRise P = (i n : ℕ) → 0 < n → n < P.last i → P.stamps i n < P.stamps i (suc n)

-- also over several serials
pub kept_rise : (P : Post) → KeptRise P → (i n m : ℕ) → 0 < n → n < m → m ≤ P.last i → P.stamps i n < P.stamps i m
kept_rise P c i n zero a b d = absurd (omega arith)
kept_rise P c i n (suc m) a b d = go (same_or_not n m) (kept_rise P c i n m)
  where
    go : (n ≡ m) ⊎ (n ≢ m) → (0 < n → n < m → m ≤ P.last i → P.stamps i n < P.stamps i m) → P.stamps i n < P.stamps i (suc m)
    go (inl e) ih = rw e (c i m (omega arith) (omega arith))
    go (inr e) ih = omega (arith, ih (omega arith) (omega arith) (omega arith), c i m (omega arith) (omega arith))

-- so the orders of a lane rank apart
apart_lane : (P : Post) → KeptRise P → (i k : ℕ) → k ≤ P.last i → Apart (lane_orders P i k)
unfolding lane_orders
apart_lane P c i zero h = tt
apart_lane P c i (suc k) h = (λ y m. go y (lane_mem P i k y m), apart_lane P c i k (omega arith))
  where
    go : (y : Order) → ((n : ℕ) × (0 < n) × (n ≤ k) × (y ≡ order_of P i n)) → rank (order_of P i (suc k)) ≢ rank y
    go y r e = omega (arith, kept_rise P c i r.0 (suc k) r.1 (omega (arith, r.2)) h, rw r.3 at e)

-- and those of all lanes
pub apart_taken : (P : Post) → KeptRise P → (k : ℕ) → k ≤ 8 → Apart (taken_below P k)
unfolding taken_below
apart_taken P c zero h = tt
apart_taken P c (suc k) h =
    apart_append (lane_orders P k (P.last k)) (taken_below P k) (apart_lane P c k (P.last k) (omega arith)) (apart_taken P c k (omega arith)) cross
  where
    cross : (x y : Order) → Mem x (lane_orders P k (P.last k)) → Mem y (taken_below P k) → rank x ≢ rank y
    cross x y m n e =
        let r = lane_mem P k (P.last k) x m in
        let q : x.lane ≡ k = ap (λ (o : Order). o.lane) r.3 in
        omega (arith, (taken_mem P k y n).lane_below)

-- orders taken that rank alike are one
pub same_rank : (P : Post) → KeptRise P → (x y : Order) → TakenIn P 8 x → TakenIn P 8 y → rank x ≡ rank y → x ≡ y
same_rank P c x y s t h = s.as_kept ∙ go (le_or_not x.serial y.serial) (le_or_not y.serial x.serial) ∙ sym t.as_kept
  where
    lanes : x.lane ≡ y.lane
    lanes = omega (arith, s.lane_below, t.lane_below)

    sx : x.stamp ≡ P.stamps x.lane x.serial
    sx = ap (λ (o : Order). o.stamp) s.as_kept

    sy : y.stamp ≡ P.stamps x.lane y.serial
    sy = rw lanes (ap (λ (o : Order). o.stamp) t.as_kept)

    ly : y.serial ≤ P.last x.lane
    ly = rw lanes t.serial_taken

    go : (x.serial ≤ y.serial) ⊎ (y.serial < x.serial) → (y.serial ≤ x.serial) ⊎ (x.serial < y.serial)
        → order_of P x.lane x.serial ≡ order_of P y.lane y.serial
    go (inl a) (inl b) = let e : x.serial ≡ y.serial = omega arith in rw (lanes, e) refl
    go (inl a) (inr b) = absurd (omega (arith, kept_rise P c x.lane x.serial y.serial s.serial_from_one b ly, sx, sy, lanes))
    go (inr a) b = absurd (omega (arith, kept_rise P c x.lane y.serial x.serial t.serial_from_one a s.serial_taken, sx, sy, lanes))
