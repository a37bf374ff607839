-- How many lanes an eight-bit set has: the count of its ones. Assumes nothing.
use mathlib.Core.Path.{◌≡◌, refl, sym, ap, ◌∙◌}
use mathlib.Core.Bool.{Bool, true, false, cond}
use Prim.Native.Nat.{ℕ, zero, suc, ◌+◌, ◌/◌, ◌%◌, ◌^◌, ◌<◌}
use native.Mathlib.Omega.{arith}
use lib.Dec.{eqb}
use lib.Count.{ones, ones_in, ones_step}
use borrow.Author.Tests.{eqb-true, eqb-false, lt-ltb}
use Rattle.cells.specs.Sets.{has_lane}

-- one lane's part of the count
lane_count : (set i : ℕ) → i < 8 → ◌≡◌ {A = ℕ} (cond (has_lane set i) 1 0) (set / 2 ^ i % 2)
lane_count set i h = rw (lt-ltb i 8 h) (go (eqb (set / 2 ^ i % 2) 1) refl)
  where
    go : (b : Bool) → eqb (set / 2 ^ i % 2) 1 ≡ b → ◌≡◌ {A = ℕ} (cond b 1 0) (set / 2 ^ i % 2)
    go true e = sym (eqb-true (set / 2 ^ i % 2) 1 e)
    go false e = omega (arith, eqb-false (set / 2 ^ i % 2) 1 e)

half : (n m : ℕ) → m ≡ n / 2 → ones n ≡ n % 2 + ones m
half n m e = ones_step n ∙ rw e refl

-- the ones of an eight-bit set, lane by lane
ones_eight : (set : ℕ) → set < 256
    → ones set ≡ set % 2 + (set / 2 % 2 + (set / 4 % 2 + (set / 8 % 2 + (set / 16 % 2 + (set / 32 % 2 + (set / 64 % 2 + set / 128 % 2))))))
ones_eight set l = omega (
  arith,
  half set (set / 2) (omega arith),
  half (set / 2) (set / 4) (omega arith),
  half (set / 4) (set / 8) (omega arith),
  half (set / 8) (set / 16) (omega arith),
  half (set / 16) (set / 32) (omega arith),
  half (set / 32) (set / 64) (omega arith),
  half (set / 64) (set / 128) (omega arith),
  half (set / 128) 0 (omega arith),
  none,
)
  where
    none : ones 0 ≡ 0
    none = unfold ones ones_in in refl

-- how many lanes below k a set has
unfoldable pub lanes_below : ℕ → ℕ → ℕ
lanes_below set zero = 0
lanes_below set (suc i) = lanes_below set i + cond (has_lane set i) 1 0

joined : (a b c d e f g h n : ℕ) → n ≡ a + (b + (c + (d + (e + (f + (g + h)))))) → 0 + a + b + c + d + e + f + g + h ≡ n
joined a b c d e f g h n q = omega arith

whole_part : (set : ℕ) → set / 1 % 2 ≡ set % 2
whole_part set = ap (λ (x : ℕ). x % 2) (omega arith)

-- the bits of a set below 256 are those of the set
bits : (set : ℕ) → let r = set % 256 in
    (r % 2 ≡ set % 2) × (r / 2 % 2 ≡ set / 2 % 2) × (r / 4 % 2 ≡ set / 4 % 2) × (r / 8 % 2 ≡ set / 8 % 2)
    × (r / 16 % 2 ≡ set / 16 % 2) × (r / 32 % 2 ≡ set / 32 % 2) × (r / 64 % 2 ≡ set / 64 % 2) × (r / 128 % 2 ≡ set / 128 % 2)
bits set = (omega arith, omega arith, omega arith, omega arith, omega arith, omega arith, omega arith, omega arith)

-- only the eight lanes count
pub lanes_ones_256 : (set : ℕ) → lanes_below set 8 ≡ ones (set % 256)
unfolding lanes_below
lanes_ones_256 set =
    let e = ones_eight (set % 256) (omega arith) in
    let b = bits set in
    rw (
      lane_count set 0 (omega arith),
      lane_count set 1 (omega arith),
      lane_count set 2 (omega arith),
      lane_count set 3 (omega arith),
      lane_count set 4 (omega arith),
      lane_count set 5 (omega arith),
      lane_count set 6 (omega arith),
      lane_count set 7 (omega arith),
      whole_part set,
    )
    (joined (set % 2) (set / 2 % 2) (set / 4 % 2) (set / 8 % 2) (set / 16 % 2) (set / 32 % 2) (set / 64 % 2) (set / 128 % 2) (ones (set % 256))
    (rw (b.0, b.1, b.2, b.3, b.4, b.5, b.6, b.7) at e))

pub lanes_ones : (set : ℕ) → set < 256 → lanes_below set 8 ≡ ones set
lanes_ones set l = let e : set % 256 ≡ set = omega arith in lanes_ones_256 set ∙ ap ones e
