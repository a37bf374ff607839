-- Sorting: the members stay, and where no two keys are equal they rise strictly. Assumes nothing.
use mathlib.Core.Path.{◌≡◌, refl, sym, ◌∙◌}
use mathlib.Core.List.{List, [], ◌∷◌}
use mathlib.Core.Logic.{◌⊎◌, inl, inr, ◌≢◌}
use mathlib.Core.Bool.{Bool, true, false, cond}
use Prim.Native.Nat.{ℕ, ◌<◌, ◌≤◌}
use native.Mathlib.Omega.{arith}
use lib.Dec.{ltb}
use borrow.Author.Tests.{ltb-true, ltb-false}
use Rattle.deliver.specs.Delivery.{insert_by, sort_by}
use Rattle.laws.proofs.ListLaws.{Mem, RisingBy}

module _ {A : Type 0} (before : A → A → Bool) where
  -- what is inserted, and the members, are members
  mem_inserted : (z x : A) (l : List A) → (z ≡ x) ⊎ Mem z l → Mem z (insert_by before x l)
  unfolding insert_by
  mem_inserted z x [] h = h
  mem_inserted z x (y ∷ l) h = go (before x y) h (mem_inserted z x l)
    where
      go : (b : Bool) → (z ≡ x) ⊎ Mem z (y ∷ l) → ((z ≡ x) ⊎ Mem z l → Mem z (insert_by before x l))
          → Mem z (cond b (x ∷ y ∷ l) (y ∷ insert_by before x l))
      go true k ih = k
      go false (inl e) ih = inr (ih (inl e))
      go false (inr (inl e)) ih = inl e
      go false (inr (inr m)) ih = inr (ih (inr m))

  -- and nothing else is
  inserted_mem : (z x : A) (l : List A) → Mem z (insert_by before x l) → (z ≡ x) ⊎ Mem z l
  unfolding insert_by
  inserted_mem z x [] h = h
  inserted_mem z x (y ∷ l) h = go (before x y) h (inserted_mem z x l)
    where
      up : (z ≡ x) ⊎ Mem z l → (z ≡ x) ⊎ Mem z (y ∷ l)
      up (inl e) = inl e
      up (inr m) = inr (inr m)

      go : (b : Bool) → Mem z (cond b (x ∷ y ∷ l) (y ∷ insert_by before x l)) → (Mem z (insert_by before x l) → (z ≡ x) ⊎ Mem z l)
          → (z ≡ x) ⊎ Mem z (y ∷ l)
      go true k ih = k
      go false (inl e) ih = inr (inl e)
      go false (inr m) ih = up (ih m)

  -- sorting loses no member
  pub mem_sort : (z : A) (l : List A) → Mem z l → Mem z (sort_by before l)
  unfolding sort_by
  mem_sort z [] h = h
  mem_sort z (x ∷ l) (inl e) = mem_inserted z x (sort_by before l) (inl e)
  mem_sort z (x ∷ l) (inr m) = mem_inserted z x (sort_by before l) (inr (mem_sort z l m))

  -- and adds none
  pub sort_mem : (z : A) (l : List A) → Mem z (sort_by before l) → Mem z l
  unfolding sort_by
  sort_mem z [] h = h
  sort_mem z (x ∷ l) h = go (inserted_mem z x (sort_by before l) h) (sort_mem z l)
    where
      go : (z ≡ x) ⊎ Mem z (sort_by before l) → (Mem z (sort_by before l) → Mem z l) → (z ≡ x) ⊎ Mem z l
      go (inl e) ih = inl e
      go (inr m) ih = inr (ih m)

-- no two keys are equal
abbrev pub ApartBy : {A : Type 0} → (A → ℕ) → List A → Type 0
ApartBy key [] = Unit {0}
ApartBy key (x ∷ l) = ((y : _) → Mem y l → key x ≢ key y) × ApartBy key l

module _ {A : Type 0} (before : A → A → Bool) (key : A → ℕ) where
  -- a key like none leaves the list rising
  inserted_rises : (x : A) (l : List A) → RisingBy key l → ((y : A) → Mem y l → before x y ≡ ltb (key x) (key y))
      → ((y : A) → Mem y l → key x ≢ key y) → RisingBy key (insert_by before x l)
  unfolding insert_by
  inserted_rises x [] r h n = (λ y m. absurd m, tt)
  inserted_rises x (y ∷ l) r h n = go (before x y) refl (inserted_rises x l r.1 (λ z m. h z (inr m)) (λ z m. n z (inr m)))
    where
      above : (z : A) → key x < key y → Mem z (y ∷ l) → key x < key z
      above z k (inl e) = rw e k
      above z k (inr m) = omega (arith, r.0 z m)

      below : (z : A) → key y ≤ key x → (z ≡ x) ⊎ Mem z l → key y < key z
      below z k (inl e) = rw e (omega (arith, n y (inl refl)))
      below z k (inr m) = r.0 z m

      go : (b : Bool) → before x y ≡ b → RisingBy key (insert_by before x l) → RisingBy key (cond b (x ∷ y ∷ l) (y ∷ insert_by before x l))
      go true e ih = (λ z m. above z (ltb-true (key x) (key y) (sym (h y (inl refl)) ∙ e)) m, r)
      go false e ih = (λ z m. below z (ltb-false (key x) (key y) (sym (h y (inl refl)) ∙ e)) (inserted_mem before z x l m), ih)

  -- sorted by a test that compares keys, they rise
  pub sort_rises : (l : List A) → ((x y : A) → Mem x l → Mem y l → before x y ≡ ltb (key x) (key y)) → ApartBy key l
      → RisingBy key (sort_by before l)
  unfolding sort_by
  sort_rises [] h a = tt
  sort_rises (x ∷ l) h a =
      inserted_rises x (sort_by before l) (sort_rises l (λ y z m n. h y z (inr m) (inr n)) a.1)
      (λ y m. h x y (inl refl) (inr (sort_mem before y l m))) (λ y m. a.0 y (sort_mem before y l m))
