-- Laws of tests and of digits: Scan.antt. Assumes nothing.
use mathlib.Core.Path.{◌≡◌, refl, sym}
use mathlib.Core.Bool.{Bool, true, false, ◌&&◌}
use mathlib.Core.List.{List}
use Prim.Native.Nat.{ℕ, ◌-◌, ◌<◌, ◌≤◌}
use native.Mathlib.Omega.{arith}
use lib.ListN.{length, get_or, get_or-eq_default}
use lib.Dec.{ltb}
use borrow.Author.Tests.{ltb-true, ltb-false, le-leb, lt-leb}
use Rattle.scan.specs.Scan.{digit_at}

-- a test does not both fail and hold
pub never : {X : Type 0} → false ≡ true → X
never e = absurd (let z : ◌≡◌ {A = ℕ} 0 1 = cc in omega arith)

-- both parts of a test that holds
pub both : (a b : Bool) → (a && b) ≡ true → (a ≡ true) × (b ≡ true)
both true b e = (refl, e)
both false b e = never e

-- a byte below 48 is no digit; those from 48 to 57 are
pub digit_low : (s : List ℕ) (at x : ℕ) → x ≡ get_or s at 0 → x < 48 → 10 ≡ digit_at s at
unfolding digit_at
digit_low s at x e h = rw (← e, lt-leb _ _ h)

pub digit_mid : (s : List ℕ) (at x : ℕ) → x ≡ get_or s at 0 → 48 ≤ x → x ≤ 57 → x - 48 ≡ digit_at s at
unfolding digit_at
digit_mid s at x e l h = rw (← e, le-leb _ _ l, le-leb _ _ h)

-- a digit does not stand past the end
pub digit_past : (s : List ℕ) (at : ℕ) → length s ≤ at → digit_at s at ≡ 10
digit_past s at h = sym (digit_low s at 0 (sym (get_or-eq_default s 0 h)) (omega arith))

pub digit_in : (s : List ℕ) (at : ℕ) → digit_at s at < 10 → at < length s
digit_in s at h = go (ltb at (length s)) refl
  where
    go : (b : Bool) → ltb at (length s) ≡ b → at < length s
    go true e = ltb-true _ _ e
    go false e = absurd (omega (arith, digit_past s at (ltb-false _ _ e)))
