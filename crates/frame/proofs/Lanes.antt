-- What a test at each of the entries, or an array made entry by entry, comes to. Assumes nothing.
use mathlib.Core.Path.{◌≡◌, refl, sym, ap, ap₂, subst, ◌∙◌}
use mathlib.Core.Bool.{Bool, true, false, ◌||◌}
use mathlib.Core.List.{List, [], ◌∷◌, map}
use Prim.Native.Nat.{ℕ, zero, suc, ◌+◌, ◌<◌}
use native.Mathlib.Omega.{arith}
use lib.ListN.{length, get_or}
use denote.Param.Members.{Mut, Called}
use Rattle.std.specs.List.{list_any, range_with_len}
use Rattle.std.specs.Array.{IsFromFnResult, IsFromFnResultFrom}
use Rattle.std.proofs.lemmas.List.FromFn.{fill_by_all}
use Rattle.frame.specs.Lanes.{any_below}

-- `any` tests a list from its front, the definition up to its end
any_below_front : (test : ℕ → Bool) (n : ℕ) → any_below test (suc n) ≡ (test 0 || any_below (λ i. test (suc i)) n)
unfolding any_below
any_below_front test zero = turned (test 0)
  where
    turned : (b : Bool) → (false || b) ≡ (b || false)
    turned true = refl
    turned false = refl
any_below_front test (suc n) =
    ap (λ (b : Bool). b || test (suc n)) (any_below_front test n) ∙ regrouped (test 0) (any_below (λ i. test (suc i)) n) (test (suc n))
  where
    regrouped : (a b c : Bool) → ((a || b) || c) ≡ (a || (b || c))
    regrouped true b c = refl
    regrouped false b c = refl

pub any_listed : {A : Type 0} (test : A → Bool) (d : A) (xs : List A) → list_any test xs ≡ any_below (λ i. test (get_or xs i d)) (length xs)
unfolding any_below
any_listed test d [] = refl
any_listed test d (x ∷ xs) = ap (λ (b : Bool). test x || b) (any_listed test d xs) ∙ sym (any_below_front (λ i. test (get_or (x ∷ xs) i d)) (length xs))

-- tests that agree below n
pub any_same : (f g : ℕ → Bool) (n : ℕ) → ((k : ℕ) → k < n → f k ≡ g k) → any_below f n ≡ any_below g n
unfolding any_below
any_same f g zero h = refl
any_same f g (suc n) h = ap₂ ◌||◌ (any_same f g n (λ k q. h k (omega arith))) (h n (omega arith))

-- each element that `from_fn` makes by a closure that changes nothing
made_at : {F B : Type 0} (g : Mut F (ℕ × Unit {0}) B) (h : ℕ → B) (f : F) (ys : List B) (i n : ℕ)
    → ((j : ℕ) (y : B) (q : F) → Called g f (j, tt) y q → (q ≡ f) × (y ≡ h j))
    → IsFromFnResultFrom g f ys i n → (k j : ℕ) (d : B) → k < n → i + k ≡ j → get_or ys j d ≡ h j
made_at g h f ys i zero says made k j d l e = absurd (omega arith)
made_at g h f ys i (suc n) says made zero j d l e =
    let at : i ≡ j = omega arith in
    rw (← at) (made.2.1 d ∙ (says i made.1 made.0 made.3).1)
made_at {F} g h f ys i (suc n) says made (suc k) j d l e =
    let same = (says i made.1 made.0 made.3).0 in
    made_at g h f ys (i + 1) n says (subst (λ (q : F). IsFromFnResultFrom g q ys (i + 1) n) same made.4) k j d (omega arith) (omega arith)

pub made : {F B : Type 0} (g : Mut F (ℕ × Unit {0}) B) (h : ℕ → B) (f : F) (ys : List B) (n : ℕ) (d : B)
    → ((j : ℕ) (y : B) (q : F) → Called g f (j, tt) y q → (q ≡ f) × (y ≡ h j))
    → IsFromFnResult g f ys n → ys ≡ map h (range_with_len 0 n)
made g h f ys n d says r = fill_by_all h ys n d r.long (λ k l. made_at g h f ys 0 n says r.each k k d l (omega arith))
