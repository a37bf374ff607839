-- Laws of reading texts: Scan.antt. Assumes nothing.
use mathlib.Core.Path.{◌≡◌, refl, ap, sym, ◌∙◌}
use mathlib.Core.Bool.{Bool, true, false, cond, not, ◌&&◌}
use mathlib.Core.List.{List}
use mathlib.Core.Logic.{◌⊎◌, inl, inr}
use Prim.Native.Nat.{ℕ, zero, suc, ◌+◌, ◌<◌, ◌≤◌}
use native.Mathlib.Omega.{arith}
use lib.ListN.{length, get_or}
use lib.Dec.{ltb, leb, eqb}
use borrow.Author.Tests.{ltb-true, ltb-false, leb-true, le-leb, lt-leb, ne_eqb}
use Rattle.scan.specs.Scan.{all_below, same_bytes, stands, failed, read_text}
use Rattle.scan.specs.declared.Scan.{Scan}
use Rattle.scan.proofs.Laws.{both, never}

-- ---- tests

-- what holds of both ways holds of the way taken
pub ways : {A : Type 0} (P : A → Type 0) (b : Bool) (x y : A) → (b ≡ true → P x) → P y → P (cond b x y)
ways P true x y f g = f refl
ways P false x y f g = g

pub and_no : (a : Bool) → (a && false) ≡ false
and_no true = refl
and_no false = refl

pub not_no : (a : Bool) → not a ≡ false → a ≡ true
not_no true e = refl
not_no false e = never (sym e)

-- one that fails is enough
pub all_broken : (f : ℕ → Bool) (i n : ℕ) → f i ≡ false → i < n → all_below f n ≡ false
unfolding all_below
all_broken f i zero e h = absurd (omega arith)
all_broken f i (suc n) e h = go (ltb i n) refl (all_broken f i n e)
  where
    go : (b : Bool) → ltb i n ≡ b → (i < n → all_below f n ≡ false) → (all_below f n && f n) ≡ false
    go true q r = rw (r (ltb-true i n q))
    go false q r = let z : n ≡ i = omega (arith, ltb-false i n q) in rw (z, e) (and_no (all_below f i))

-- ---- texts

pub stands_past : (s t : List ℕ) (at : ℕ) → length s < at + length t → false ≡ stands s at t
unfolding stands
stands_past s t at h = rw (lt-leb _ _ h)

pub stands_fits : (s t : List ℕ) (at : ℕ) (r : Bool) → at + length t ≤ length s → r ≡ same_bytes s at t → r ≡ stands s at t
unfolding stands
stands_fits s t at r h e = rw (le-leb _ _ h) e

-- what stands somewhere does not run past the end
pub stands_in : (s t : List ℕ) (at : ℕ) → stands s at t ≡ true → at + length t ≤ length s
unfolding stands
stands_in s t at e = leb-true _ _ (both _ _ e).0

-- a text with another byte there does not stand
pub stands_not : (s t : List ℕ) (at i place : ℕ) → place ≡ at + i → i < length t → (get_or s place 0 ≡ get_or t i 0 → ⊥)
    → stands s at t ≡ false
unfolding stands
stands_not s t at i place e h n =
    ap (λ (b : Bool). leb (at + length t) (length s) && b)
    (all_broken (λ (k : ℕ). eqb (get_or s (at + k) 0) (get_or t k 0)) i (length t) (ne_eqb _ _ (rw e at n)) h)
    ∙ and_no (leb (at + length t) (length s))

-- `read_text`, each way
pub text_yes : (s t : List ℕ) (c : Scan) → c.ok ≡ true → true ≡ stands s c.at t
    → ◌≡◌ {A = Scan} (record { ok = c.ok; at = c.at + length t; earlier = c.earlier; latest = c.latest }) (read_text s t c)
unfolding read_text
text_yes s t c o e = rw (o, ← e)

pub text_no : (s t : List ℕ) (c r : Scan) → r ≡ failed c → (c.ok ≡ false) ⊎ (false ≡ stands s c.at t) → r ≡ read_text s t c
unfolding read_text
text_no s t c r q (inl o) = rw o q
text_no s t c r q (inr e) = rw (← e, and_no _) q

-- a text that does not stand, or comes after one that does not, is not read
pub text_off : (s t : List ℕ) (c : Scan) → (c.ok && stands s c.at t) ≡ false → (read_text s t c).ok ≡ false
unfolding read_text
text_off s t c h = rw h
