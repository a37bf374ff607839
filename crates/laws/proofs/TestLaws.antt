-- Tests taken apart: two tests joined, and a test at every number below one. Assumes nothing.
use mathlib.Core.Path.{◌≡◌, refl, ap₂}
use mathlib.Core.Logic.{◌⊎◌, inl, inr, ◌≢◌}
use mathlib.Core.Bool.{Bool, true, false, cond, not, ◌&&◌, ◌||◌}
use Prim.Native.Nat.{ℕ, zero, suc, ◌<◌, ◌≤◌}
use native.Mathlib.Omega.{arith}
use native.Mathlib.Decide.{ℕ_discrete, dec_lt}
use lib.Dec.{eqb}
use borrow.Author.Tests.{eqb-true, eqb-false, not-false}
use Rattle.frame.specs.Lanes.{any_below}
use Rattle.deliver.specs.Delivery.{all_below}

-- two numbers are equal or not
pub same_or_not : (a b : ℕ) → (a ≡ b) ⊎ (a ≢ b)
same_or_not a b = go (ℕ_discrete a b)
  where
    go : Dec (a ≡ b) → (a ≡ b) ⊎ (a ≢ b)
    go (yes e) = inl e
    go (no n) = inr n

-- one number is below another or not
pub below_or_not : (a b : ℕ) → (a < b) ⊎ (b ≤ a)
below_or_not a b = go (dec_lt a b)
  where
    go : Dec (a < b) → (a < b) ⊎ (b ≤ a)
    go (yes e) = inl e
    go (no n) = inr (omega arith)

-- a Boolean is true or false
pub true_or_false : (a : Bool) → (a ≡ true) ⊎ (a ≡ false)
true_or_false true = inl refl
true_or_false false = inr refl

-- nothing is both true and false
pub not_both : (a : Bool) → a ≡ true → a ≡ false → ⊥
not_both a p q = let z : ◌≡◌ {A = ℕ} 0 1 = cc in omega arith

-- both parts of a joined test hold where it does
pub and_parts : (a b : Bool) → (a && b) ≡ true → (a ≡ true) × (b ≡ true)
and_parts true b e = (refl, e)
and_parts false b e = absurd (not_both false e refl)

-- and the other way round
pub and_made : (a b : Bool) → a ≡ true → b ≡ true → (a && b) ≡ true
and_made a b p q = ap₂ ◌&&◌ p q

-- neither of two tests holds where not one does
pub or_parts : (a b : Bool) → (a || b) ≡ false → (a ≡ false) × (b ≡ false)
or_parts true b e = absurd (not_both true refl e)
or_parts false b e = (refl, e)

-- and the other way round
pub or_made : (a b : Bool) → a ≡ false → b ≡ false → (a || b) ≡ false
or_made a b p q = ap₂ ◌||◌ p q

-- a joined test that fails, of which the first part holds
pub and_second : (a b : Bool) → (a && b) ≡ false → a ≡ true → b ≡ false
and_second true b e h = e
and_second false b e h = absurd (not_both false h refl)

-- a joined test fails where the first part, or else the second, does
pub and_fails : (a b : Bool) → (a ≡ true → b ≡ false) → (a && b) ≡ false
and_fails true b h = h refl
and_fails false b h = refl

-- of two tests of which one holds, and not the first, the second does
pub or_second : (a b : Bool) → (a || b) ≡ true → a ≡ false → b ≡ true
or_second true b e h = absurd (not_both true refl h)
or_second false b e h = e

-- a chain of refusals goes on past a test that fails
pub goes_on_lem : (t : Bool) (k r : ℕ) → t ≡ false → r ≡ 0 → cond t k r ≡ 0
goes_on_lem t k r e z = rw e z

-- a number is 0 where the test for another fails
pub zero_of : (n : ℕ) → not (eqb n 0) ≡ false → n ≡ 0
zero_of n e = eqb-true n 0 (not-false (eqb n 0) e)

-- a number is above 0 where the test for 0 fails
pub above_zero : (n : ℕ) → eqb n 0 ≡ false → 0 < n
above_zero n e = let h : n ≢ 0 = eqb-false n 0 e in omega arith

-- what holds of both holds of either
pub by_test : {A : Type 0} (P : A → Type 0) (b : Bool) (x y : A) → P x → P y → P (cond b x y)
by_test P true x y p q = p
by_test P false x y p q = q

-- no test below n holds: at each number
pub none_each : (test : ℕ → Bool) (n : ℕ) → any_below test n ≡ false → (i : ℕ) → i < n → test i ≡ false
unfolding any_below
none_each test zero e i h = absurd (omega arith)
none_each test (suc n) e i h = go (or_parts (any_below test n) (test n) e) (same_or_not i n) (λ q. none_each test n q i)
  where
    go : (any_below test n ≡ false) × (test n ≡ false) → (i ≡ n) ⊎ (i ≢ n) → (any_below test n ≡ false → i < n → test i ≡ false) → test i ≡ false
    go b (inl q) ih = rw q b.1
    go b (inr q) ih = ih b.0 (omega arith)

-- and the other way round
pub each_none : (test : ℕ → Bool) (n : ℕ) → ((i : ℕ) → i < n → test i ≡ false) → any_below test n ≡ false
unfolding any_below
each_none test zero h = refl
each_none test (suc n) h = or_made (any_below test n) (test n) (each_none test n (λ i l. h i (omega arith))) (h n (omega arith))

-- some test below n holds: at a number
pub some_which : (test : ℕ → Bool) (n : ℕ) → any_below test n ≡ true → (i : ℕ) × (i < n) × (test i ≡ true)
unfolding any_below
some_which test zero e = absurd (not_both false e refl)
some_which test (suc n) e = go (true_or_false (any_below test n)) (some_which test n)
  where
    go : (any_below test n ≡ true) ⊎ (any_below test n ≡ false) → (any_below test n ≡ true → (i : ℕ) × (i < n) × (test i ≡ true))
        → (i : ℕ) × (i < suc n) × (test i ≡ true)
    go (inl q) ih = let r = ih q in (r.0, omega (arith, r.1), r.2)
    go (inr q) ih = (n, omega arith, or_second (any_below test n) (test n) e q)

-- and the other way round
pub which_some : (test : ℕ → Bool) (n i : ℕ) → i < n → test i ≡ true → any_below test n ≡ true
which_some test n i h e = go (true_or_false (any_below test n))
  where
    go : (any_below test n ≡ true) ⊎ (any_below test n ≡ false) → any_below test n ≡ true
    go (inl q) = q
    go (inr q) = absurd (not_both (test i) e (none_each test n q i h))

-- every test below n holds: at each number
pub all_each : (test : ℕ → Bool) (n : ℕ) → all_below test n ≡ true → (i : ℕ) → i < n → test i ≡ true
unfolding all_below
all_each test zero e i h = absurd (omega arith)
all_each test (suc n) e i h = go (and_parts (all_below test n) (test n) e) (same_or_not i n) (λ q. all_each test n q i)
  where
    go : (all_below test n ≡ true) × (test n ≡ true) → (i ≡ n) ⊎ (i ≢ n) → (all_below test n ≡ true → i < n → test i ≡ true) → test i ≡ true
    go b (inl q) ih = rw q b.1
    go b (inr q) ih = ih b.0 (omega arith)

-- and the other way round
pub each_all : (test : ℕ → Bool) (n : ℕ) → ((i : ℕ) → i < n → test i ≡ true) → all_below test n ≡ true
unfolding all_below
each_all test zero h = refl
each_all test (suc n) h = and_made (all_below test n) (test n) (each_all test n (λ i l. h i (omega arith))) (h n (omega arith))
