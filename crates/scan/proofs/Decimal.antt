-- A number in decimal: with a digit more, and how many bytes it has. Assumes nothing.
use mathlib.Core.Path.{◌≡◌, refl, ap}
use mathlib.Core.Bool.{Bool, true, false, cond}
use mathlib.Core.List.{[], ◌∷◌, ◌++◌}
use Prim.Native.Nat.{ℕ, ◌+◌, ◌*◌, ◌/◌, ◌%◌, ◌<◌, ◌≤◌}
use native.Mathlib.Omega.{arith}
use lib.Dec.{leb}
use lib.ListN.{length, length-append}
use borrow.Author.Tests.{leb-true, leb-false, le-leb, lt-leb}
use Rattle.text.specs.Decimal.{given, digit_byte, decimal}

-- two orders that agree
leb_same : (x y z w : ℕ) → (z ≤ w → x ≤ y) → (w < z → y < x) → leb x y ≡ leb z w
leb_same x y z w f g = go (leb z w) refl
  where
    go : (b : Bool) → leb z w ≡ b → leb x y ≡ b
    go true e = le-leb x y (f (leb-true z w e))
    go false e = lt-leb x y (g (leb-false z w e))

pub decimal_digit : (d : ℕ) → d < 10 → decimal d ≡ (48 + d) ∷ []
unfolding decimal
decimal_digit d h =
    let e : d % 10 ≡ d = omega arith in
    rw (lt-leb 10000 d (omega arith), lt-leb 1000 d (omega arith), lt-leb 100 d (omega arith), lt-leb 10 d (omega arith), e)

pub decimal_more : (b d : ℕ) → 0 < b → b < 10000 → d < 10 → decimal (10 * b + d) ≡ decimal b ++ ((48 + d) ∷ [])
unfolding decimal
decimal_more b d h l k =
    let a1 : leb 10000 (10 * b + d) ≡ leb 1000 b = leb_same 10000 (10 * b + d) 1000 b (λ x. omega arith) (λ x. omega arith) in
    let a2 : leb 1000 (10 * b + d) ≡ leb 100 b = leb_same 1000 (10 * b + d) 100 b (λ x. omega arith) (λ x. omega arith) in
    let a3 : leb 100 (10 * b + d) ≡ leb 10 b = leb_same 100 (10 * b + d) 10 b (λ x. omega arith) (λ x. omega arith) in
    let e1 : (10 * b + d) / 10000 % 10 ≡ b / 1000 % 10 = omega arith in
    let e2 : (10 * b + d) / 1000 % 10 ≡ b / 100 % 10 = omega arith in
    let e3 : (10 * b + d) / 100 % 10 ≡ b / 10 % 10 = omega arith in
    let e4 : (10 * b + d) / 10 % 10 ≡ b % 10 = omega arith in
    let e5 : (10 * b + d) % 10 ≡ d = omega arith in
    rw (a1, a2, a3, le-leb 10 (10 * b + d) (omega arith), lt-leb 10000 b l, e1, e2, e3, e4, e5)

-- ---- how many bytes

-- 1 for a digit that is written
abbrev count : Bool → ℕ
count b = cond b 1 0

-- its length
digit : (b : Bool) (x : ℕ) → length (given b (x ∷ [])) ≡ count b
digit true x = omega arith
digit false x = omega arith

-- never more than 1
few : (b : Bool) → count b ≤ 1
few true = omega arith
few false = omega arith

-- a digit for each power of ten that the number reaches
decimal_length : (n : ℕ) → length (decimal n) ≡ count (leb 10000 n) + count (leb 1000 n) + count (leb 100 n) + count (leb 10 n) + 1
unfolding decimal
decimal_length n = rw (
  length-append,
  length-append,
  length-append,
  length-append,
  digit (leb 10000 n) (digit_byte (n / 10000)),
  digit (leb 1000 n) (digit_byte (n / 1000)),
  digit (leb 100 n) (digit_byte (n / 100)),
  digit (leb 10 n) (digit_byte (n / 10)),
)

-- no digit where the number is below the power of ten
none : (m n : ℕ) → n < m → count (leb m n) ≡ 0
none m n l = ap count (lt-leb m n l)

-- at most five, at least one
pub at_most_5 : (n : ℕ) → length (decimal n) ≤ 5
at_most_5 n = omega (arith, decimal_length n, few (leb 10000 n), few (leb 1000 n), few (leb 100 n), few (leb 10 n))

pub at_least_1 : (n : ℕ) → 1 ≤ length (decimal n)
at_least_1 n = omega (arith, decimal_length n)

-- fewer where the number is below a power of ten
pub at_most_4 : (n : ℕ) → n < 10000 → length (decimal n) ≤ 4
at_most_4 n l = omega (arith, decimal_length n, none 10000 n l, few (leb 1000 n), few (leb 100 n), few (leb 10 n))

pub at_most_3 : (n : ℕ) → n < 1000 → length (decimal n) ≤ 3
at_most_3 n l = omega (arith, decimal_length n, none 10000 n (omega arith), none 1000 n l, few (leb 100 n), few (leb 10 n))

pub at_most_2 : (n : ℕ) → n < 100 → length (decimal n) ≤ 2
at_most_2 n l = omega (arith, decimal_length n, none 10000 n (omega arith), none 1000 n (omega arith), none 100 n l, few (leb 10 n))

pub at_most_1 : (n : ℕ) → n < 10 → length (decimal n) ≤ 1
at_most_1 n l =
    omega (arith, decimal_length n, none 10000 n (omega arith), none 1000 n (omega arith), none 100 n (omega arith), none 10 n l)
