-- Laws of sets of lanes held as eight bits. Assumes nothing.
use mathlib.Core.Path.{◌≡◌, refl, sym, ap, ◌∙◌}
use mathlib.Core.Bool.{Bool, true, false, cond, not, ◌&&◌, ◌||◌}
use Prim.Native.Nat.{ℕ, zero, suc, ◌*◌, ◌/◌, ◌%◌, ◌^◌, ◌<◌, ◌≤◌}
use native.Mathlib.Nat.{mod-lt, mod-eq_of_lt, div-eq_of_lt, lt_of_lt_of_le}
use native.Mathlib.Numerals.{one-add}
use native.Mathlib.Omega.{arith}
use lib.Bits.{bit_or, or_shr, or_mod, or_shifted_r}
use lib.Dec.{ltb, eqb}
use lib.Pow.{pow_pos, pow_mono, pow-lt, mod-pow-add}
use borrow.Author.Tests.{ltb-true, ltb-false, lt-ltb, ne_eqb}
use Rattle.cells.specs.Sets.{has_lane}
use Rattle.scan.specs.Scan.{all_below}
use Rattle.lines.specs.Forms.{bit_of}
use Rattle.scan.proofs.Laws.{never}
use Rattle.scan.proofs.Here.{all_at}

-- two binary digits joined
bit_or_lem : (x y : ℕ) → x < 2 → y < 2 → eqb (bit_or x y) 1 ≡ (eqb x 1 || eqb y 1)
bit_or_lem zero zero h k = refl
bit_or_lem zero (suc zero) h k = refl
bit_or_lem (suc zero) zero h k = refl
bit_or_lem (suc zero) (suc zero) h k = refl
bit_or_lem zero (suc (suc y)) h k = absurd (omega arith)
bit_or_lem (suc zero) (suc (suc y)) h k = absurd (omega arith)
bit_or_lem (suc (suc x)) y h k = absurd (omega arith)

and_or : (a b c : Bool) → (a && (b || c)) ≡ (a && b || a && c)
and_or true b c = refl
and_or false b c = refl

-- a lane is in two sets joined if it is in one of them
pub has_or : (a b i : ℕ) → has_lane (bit_or a b) i ≡ (has_lane a i || has_lane b i)
has_or a b i =
    let e : bit_or a b / 2 ^ i % 2 ≡ bit_or (a / 2 ^ i % 2) (b / 2 ^ i % 2) = ap (λ (x : ℕ). x % 2) (or_shr a b i) ∙ or_mod (a / 2 ^ i) (b / 2 ^ i) 1 in
    let d = bit_or_lem (a / 2 ^ i % 2) (b / 2 ^ i % 2) (mod-lt (a / 2 ^ i) (omega arith)) (mod-lt (b / 2 ^ i) (omega arith)) in
    ap (λ (x : ℕ). ltb i 8 && eqb x 1) e ∙ ap (λ (t : Bool). ltb i 8 && t) d ∙ and_or (ltb i 8) _ _

-- a set below a lane's bit does not have that lane, nor one above it
pub has_above : (a k i : ℕ) → a < 2 ^ k → k ≤ i → has_lane a i ≡ false
has_above a k i h l =
    let e : a / 2 ^ i ≡ 0 = div-eq_of_lt (lt_of_lt_of_le h (pow_mono l)) in
    rw e (go (ltb i 8))
  where
    go : (t : Bool) → (t && eqb (0 % 2) 1) ≡ false
    go true = refl
    go false = refl

pub has_none : (i : ℕ) → has_lane 0 i ≡ false
has_none i = has_above 0 0 i (omega arith) (omega arith)

-- the bit of a lane at most 7
pub bit_is : (lane : ℕ) → lane < 8 → bit_of lane ≡ 2 ^ lane
bit_is lane h = rw (lt-ltb lane 8 h)

pub bit_lt : (lane : ℕ) → bit_of lane < 256
bit_lt lane = go (ltb lane 8) refl
  where
    go : (t : Bool) → ltb lane 8 ≡ t → cond t (2 ^ lane) 0 < 256
    go true e = pow-lt {i = lane} {j = 8} (ltb-true lane 8 e)
    go false e = omega arith

-- which lanes a lane's bit has: looked up for each two of the eight
same : Bool → Bool → Bool
same true b = b
same false b = not b

same_is : (a b : Bool) → same a b ≡ true → a ≡ b
unfolding same
same_is true b e = sym e
same_is false true e = never e
same_is false false e = refl

bits : ℕ → Bool
bits lane = all_below (λ (i : ℕ). same (has_lane (bit_of lane) i) (eqb lane i)) 8

looked_up : all_below bits 8 ≡ true
unfolding all_below bits same
looked_up = refl

pub has_bit : (lane i : ℕ) → lane < 8 → has_lane (bit_of lane) i ≡ eqb lane i
unfolding bits
has_bit lane i h = go (ltb i 8) refl
  where
    go : (t : Bool) → ltb i 8 ≡ t → has_lane (bit_of lane) i ≡ eqb lane i
    go true e = same_is _ _ (all_at (λ (j : ℕ). same (has_lane (bit_of lane) j) (eqb lane j)) 8 i (all_at bits 8 lane looked_up h) (ltb-true i 8 e))
    go false e = let g = ltb-false i 8 e in rw (e, ne_eqb lane i (λ q. omega arith))

-- a set's lanes up to k are those below k, and k if it has it
pub low_more : (a k : ℕ) → k < 8 → bit_or (a % 2 ^ k) (cond (has_lane a k) (bit_of k) 0) ≡ a % 2 ^ suc k
low_more a k h =
    ap (bit_or (a % 2 ^ k)) (go (a / 2 ^ k % 2) (mod-lt (a / 2 ^ k) (omega arith)))
    ∙ or_shifted_r (a / 2 ^ k % 2) k (a % 2 ^ k) (mod-lt a (pow_pos k)) ∙ sym (mod-pow-add a 1 k) ∙ ap (λ (n : ℕ). a % 2 ^ n) (one-add k)
  where
    go : (x : ℕ) → x < 2 → cond (ltb k 8 && eqb x 1) (bit_of k) 0 ≡ x * 2 ^ k
    go zero l = rw (lt-ltb k 8 h) (omega arith)
    go (suc zero) l = rw (lt-ltb k 8 h) (omega arith)
    go (suc (suc x)) l = absurd (omega arith)

-- the lanes below 8 are all of a set
pub low_all : (a : ℕ) → a < 256 → a % 2 ^ 8 ≡ a
low_all a h = mod-eq_of_lt h
