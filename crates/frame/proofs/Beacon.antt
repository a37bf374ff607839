-- A pair of bytes is not 0 where one of them is not, and so for the six bytes of a beacon. Assumes nothing.
use mathlib.Core.Path.{◌≡◌, refl}
use mathlib.Core.Bool.{Bool, true, false, not, ◌||◌}
use Prim.Native.Nat.{ℕ, zero, suc, ◌+◌, ◌*◌}
use native.Mathlib.Nat.{zero-add}
use native.Mathlib.Omega.{arith}
use borrow.Author.Tests.{ne_eqb}
use lib.Dec.{eqb}
use Rattle.frame.specs.Lanes.{any_below}

pub pair_nonzero : (high low : ℕ) → not (eqb (256 * high + low) 0) ≡ (not (eqb high 0) || not (eqb low 0))
pair_nonzero zero low = rw zero-add
pair_nonzero (suc high) low = rw (ne_eqb (256 * suc high + low) 0 (λ e. omega arith), ne_eqb (suc high) 0 (λ e. omega arith))

regrouped : (a b c d e f : Bool) → (a || b || (c || d) || (e || f)) ≡ ((((((false || a) || b) || c) || d) || e) || f)
regrouped true b c d e f = refl
regrouped false true c d e f = refl
regrouped false false true d e f = refl
regrouped false false false true e f = refl
regrouped false false false false true f = refl
regrouped false false false false false f = refl

pub any_of_six : (test : ℕ → Bool) → (test 0 || test 1 || (test 2 || test 3) || (test 4 || test 5)) ≡ any_below test 6
unfolding any_below
any_of_six test = regrouped (test 0) (test 1) (test 2) (test 3) (test 4) (test 5)
