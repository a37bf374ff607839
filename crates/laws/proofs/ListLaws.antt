-- Lists: members, nothing twice, rising, beginnings, and how long a list without repetition can be. Assumes nothing.
use mathlib.Core.Path.{◌≡◌, refl, sym, ap, ◌∙◌}
use mathlib.Core.List.{List, [], ◌∷◌, ◌++◌, map, append-nil, append_assoc}
use mathlib.Core.Logic.{◌⊎◌, inl, inr, ◌≢◌}
use Prim.Native.Nat.{ℕ, zero, suc, ◌+◌, ◌≤◌, ◌<◌}
use native.Mathlib.Omega.{arith}
use lib.ListN.{length, get_or, set, length-append}
use lib.Seq.{sets, get_or-set_other}
pub use Rattle.laws.specs.Lists.{Mem, Begins, RisingBy}
pub use Rattle.laws.specs.LogAfter.{NoRepeat}

module _ {A : Type 0} where
  pub mem_left : (x : A) (s t : List A) → Mem x s → Mem x (s ++ t)
  mem_left x [] t h = absurd h
  mem_left x (y ∷ s) t (inl e) = inl e
  mem_left x (y ∷ s) t (inr h) = inr (mem_left x s t h)

  pub mem_right : (x : A) (s t : List A) → Mem x t → Mem x (s ++ t)
  mem_right x [] t h = h
  mem_right x (y ∷ s) t h = inr (mem_right x s t h)

  pub mem_append : (x : A) (s t : List A) → Mem x (s ++ t) → Mem x s ⊎ Mem x t
  mem_append x [] t h = inr h
  mem_append x (y ∷ s) t (inl e) = inl (inl e)
  mem_append x (y ∷ s) t (inr h) = up (mem_append x s t h)
    where
      up : Mem x s ⊎ Mem x t → ((x ≡ y) ⊎ Mem x s) ⊎ Mem x t
      up (inl m) = inl (inr m)
      up (inr m) = inr m

  -- a list begins itself, and what begins a beginning begins the list
  pub begins_itself : (s : List A) → Begins s s
  begins_itself s = ([], sym (append-nil s))

  pub begins_on : (s l m : List A) → Begins s l → Begins l m → Begins s m
  begins_on s l m b c = (b.0 ++ c.0, c.1 ∙ rw b.1 (append_assoc s b.0 c.0))

  pub no_repeat_append : (s t : List A) → NoRepeat s → NoRepeat t → ((x : A) → Mem x s → Mem x t → ⊥) → NoRepeat (s ++ t)
  no_repeat_append [] t a b h = b
  no_repeat_append (x ∷ s) t a b h = (λ m. go (mem_append x s t m), no_repeat_append s t a.1 b (λ y m n. h y (inr m) n))
    where
      go : Mem x s ⊎ Mem x t → ⊥
      go (inl m) = a.0 m
      go (inr m) = h x (inl refl) m

  found : (x : A) (l : List A) → Mem x l → (a : List A) × (b : List A) × (l ≡ a ++ (x ∷ b))
  found x [] m = absurd m
  found x (y ∷ l) (inl e) = ([], l, rw e refl)
  found x (y ∷ l) (inr m) = let r = found x l m in (y ∷ r.0, r.1, ap (λ (z : List A). y ∷ z) r.2)

  -- a list that repeats nothing is no longer than one that has all its members
  pub no_longer : (s l : List A) → NoRepeat s → ((x : A) → Mem x s → Mem x l) → length s ≤ length l
  no_longer [] l n h = omega arith
  no_longer (x ∷ s) l n h = go (found x l (h x (inl refl))) (no_longer s)
    where
      go : ((a : List A) × (b : List A) × (l ≡ a ++ (x ∷ b)))
          → ((l : List A) → NoRepeat s → ((x : A) → Mem x s → Mem x l) → length s ≤ length l) → suc (length s) ≤ length l
      go r ih = omega (arith, ih (r.0 ++ r.1) n.1 sub, simp length-append at (ap length r.2), length-append r.0 r.1)
        where
          sub : (y : A) → Mem y s → Mem y (r.0 ++ r.1)
          sub y m = pick (mem_append y r.0 (x ∷ r.1) (rw r.2 at (h y (inr m))))
            where
              pick : Mem y r.0 ⊎ Mem y (x ∷ r.1) → Mem y (r.0 ++ r.1)
              pick (inl k) = mem_left y r.0 r.1 k
              pick (inr (inl e)) = absurd (n.0 (rw (← e) m))
              pick (inr (inr k)) = mem_right y r.0 r.1 k

  -- members by index
  pub mem_at : (d : A) (l : List A) (k : ℕ) → k < length l → Mem (get_or l k d) l
  mem_at d [] k h = absurd (omega arith)
  mem_at d (x ∷ l) zero h = inl refl
  mem_at d (x ∷ l) (suc k) h = inr (mem_at d l k (omega arith))

  pub mem_which : (d x : A) (l : List A) → Mem x l → (k : ℕ) × (k < length l) × (get_or l k d ≡ x)
  mem_which d x [] m = absurd m
  mem_which d x (y ∷ l) (inl e) = (0, omega arith, sym e)
  mem_which d x (y ∷ l) (inr m) = let r = mem_which d x l m in (suc r.0, omega (arith, r.1), r.2)

  -- nothing twice, by index
  pub no_repeat_at : (d : A) (l : List A) → NoRepeat l → (j k : ℕ) → j < k → k < length l → get_or l j d ≢ get_or l k d
  no_repeat_at d [] n j k h b e = omega arith
  no_repeat_at d (x ∷ l) n j zero h b e = omega arith
  no_repeat_at d (x ∷ l) n zero (suc k) h b e = n.0 (rw (← e) at (mem_at d l k (omega arith)))
  no_repeat_at d (x ∷ l) n (suc j) (suc k) h b e = no_repeat_at d l n.1 j k (omega arith) (omega arith) e

  pub at_no_repeat : (d : A) (l : List A) → ((j k : ℕ) → j < k → k < length l → get_or l j d ≢ get_or l k d) → NoRepeat l
  at_no_repeat d [] h = tt
  at_no_repeat d (x ∷ l) h = (
    λ m. let r = mem_which d x l m in h 0 (suc r.0) (omega arith) (omega (arith, r.1)) (sym r.2),
    at_no_repeat d l (λ j k a b. h (suc j) (suc k) (omega arith) (omega arith)),
  )

  -- where keys rise strictly, nothing stands twice
  pub rising_once : (key : A → ℕ) (l : List A) → RisingBy key l → NoRepeat l
  rising_once key [] r = tt
  rising_once key (x ∷ l) r = (λ m. omega (arith, r.0 x m), rising_once key l r.1)

-- ---- lists made from lists

module _ {A B : Type 0} where
  -- a member is made from a member
  pub mem_made : (f : A → B) (y : B) (l : List A) → Mem y (map f l) → (x : A) × Mem x l × (y ≡ f x)
  mem_made f y [] m = absurd m
  mem_made f y (x ∷ l) (inl e) = (x, inl refl, e)
  mem_made f y (x ∷ l) (inr m) = let r = mem_made f y l m in (r.0, inr r.1, r.2)

-- ---- numbers written one after another into a list

-- what stands past them stays
pub sets_past : (l vs : List ℕ) (i k : ℕ) → i + length vs ≤ k → get_or (sets l i vs) k 0 ≡ get_or l k 0
sets_past l [] i k h = refl
sets_past l (a ∷ vs) i k h = sets_past (set l i a) vs (suc i) k (omega arith) ∙ get_or-set_other l i k a 0 (λ e. omega arith)
