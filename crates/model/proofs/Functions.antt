-- Functions changed at one place, and sums of a function below a number. Assumes nothing.
use mathlib.Core.Path.{◌≡◌, refl, sym}
use mathlib.Core.Logic.{◌⊎◌, inl, inr, ◌≢◌}
use mathlib.Core.Bool.{Bool, true, false, cond, ◌&&◌}
use Prim.Native.Nat.{ℕ, zero, suc, ◌+◌, ◌*◌, ◌≤◌, ◌<◌}
use native.Mathlib.Omega.{arith}
use lib.Dec.{leb, eqb}
use borrow.Author.Tests.{eq-eqb, ne_eqb, leb-true, leb-false}
use Rattle.laws.proofs.TestLaws.{same_or_not}
unfoldable pub use Rattle.roll.specs.Taken.{sum_below}

-- a number is at most another or not
pub le_or_not : (a b : ℕ) → (a ≤ b) ⊎ (b < a)
le_or_not a b = go (leb a b) refl
  where
    go : (t : Bool) → leb a b ≡ t → (a ≤ b) ⊎ (b < a)
    go true e = inl (leb-true a b e)
    go false e = inr (leb-false a b e)

module _ {A : Type 0} where
  -- ---- a function of one number

  -- f changed at i to a
  unfoldable pub upd : (ℕ → A) → ℕ → A → ℕ → A
  upd f i a j = cond (eqb j i) a (f j)

  -- there it is a
  pub upd_same : (f : ℕ → A) (i : ℕ) (a : A) → upd f i a i ≡ a
  unfolding upd
  upd_same f i a = rw (eq-eqb i i refl) refl

  -- elsewhere it is as before
  pub upd_other : (f : ℕ → A) (i : ℕ) (a : A) (j : ℕ) → j ≢ i → upd f i a j ≡ f j
  unfolding upd
  upd_other f i a j n = rw (ne_eqb j i n) refl

  -- what holds of a, and of the values elsewhere, holds of each value
  pub upd_case : (P : A → Type 0) (f : ℕ → A) (i : ℕ) (a : A) (j : ℕ) → (j ≡ i → P a) → (j ≢ i → P (f j)) → P (upd f i a j)
  upd_case P f i a j y n = go (same_or_not j i)
    where
      go : (j ≡ i) ⊎ (j ≢ i) → P (upd f i a j)
      go (inl e) = rw (e, upd_same) (y e)
      go (inr h) = rw (upd_other f i a j h) (n h)

  -- ---- a function of two numbers

  -- f changed at (i, n) to a
  unfoldable pub upd2 : (ℕ → ℕ → A) → ℕ → ℕ → A → ℕ → ℕ → A
  upd2 f i n a j m = cond (eqb j i && eqb m n) a (f j m)

  -- there it is a
  pub upd2_same : (f : ℕ → ℕ → A) (i n : ℕ) (a : A) → upd2 f i n a i n ≡ a
  unfolding upd2
  upd2_same f i n a = rw (eq-eqb i i refl, eq-eqb n n refl) refl

  -- elsewhere it is as before
  pub upd2_keep : (f : ℕ → ℕ → A) (i n : ℕ) (a : A) (j m : ℕ) → (j ≡ i → m ≢ n) → upd2 f i n a j m ≡ f j m
  unfolding upd2
  upd2_keep f i n a j m h = go (same_or_not j i)
    where
      nofst : (b : Bool) → b ≡ false → cond (b && eqb m n) a (f j m) ≡ f j m
      nofst true e = cc
      nofst false e = refl

      nosnd : (b : Bool) → cond (b && false) a (f j m) ≡ f j m
      nosnd true = refl
      nosnd false = refl

      go : (j ≡ i) ⊎ (j ≢ i) → cond (eqb j i && eqb m n) a (f j m) ≡ f j m
      go (inl e) = rw (ne_eqb m n (h e)) (nosnd (eqb j i))
      go (inr q) = nofst (eqb j i) (ne_eqb j i q)

  -- what holds of a, and of the values elsewhere, holds of each value
  pub upd2_case : (P : A → Type 0) (f : ℕ → ℕ → A) (i n : ℕ) (a : A) (j m : ℕ)
      → (j ≡ i → m ≡ n → P a) → ((j ≡ i → m ≢ n) → P (f j m)) → P (upd2 f i n a j m)
  upd2_case P f i n a j m y k = go (same_or_not j i) (same_or_not m n)
    where
      go : (j ≡ i) ⊎ (j ≢ i) → (m ≡ n) ⊎ (m ≢ n) → P (upd2 f i n a j m)
      go (inl e) (inl g) = rw (e, g, upd2_same) (y e g)
      go (inl e) (inr g) = rw (upd2_keep f i n a j m (λ x. g)) (k (λ x. g))
      go (inr e) g = rw (upd2_keep f i n a j m (λ x. absurd (e x))) (k (λ x. absurd (e x)))

-- ---- sums

-- equal values, equal sums
pub sum_same : (f g : ℕ → ℕ) (k : ℕ) → ((i : ℕ) → i < k → g i ≡ f i) → sum_below k g ≡ sum_below k f
unfolding sum_below
sum_same f g zero h = refl
sum_same f g (suc k) h = rw (h k (omega arith), sum_same f g k (λ i l. h i (omega arith))) refl

-- one more at one place, one more in all
pub sum_more : (f g : ℕ → ℕ) (k p : ℕ) → p < k → ((i : ℕ) → i ≢ p → g i ≡ f i) → g p ≡ suc (f p)
    → sum_below k g ≡ suc (sum_below k f)
unfolding sum_below
sum_more f g zero p l h e = absurd (omega arith)
sum_more f g (suc k) p l h e = go (same_or_not p k) (λ m. sum_more f g k p m h e)
  where
    go : (p ≡ k) ⊎ (p ≢ k) → (p < k → sum_below k g ≡ suc (sum_below k f)) → g k + sum_below k g ≡ suc (f k + sum_below k f)
    go (inl q) ih = omega (arith, rw q at e, sum_same f g k (λ i m. h i (omega arith)))
    go (inr q) ih = omega (arith, ih (omega arith), h k (λ z. q (sym z)))

-- a bound of each value bounds the sum
pub sum_bound : (f : ℕ → ℕ) (k b : ℕ) → ((i : ℕ) → f i ≤ b) → sum_below k f ≤ k * b
unfolding sum_below
sum_bound f zero b h = omega arith
sum_bound f (suc k) b h = omega (arith, h k, sum_bound f k b h)
