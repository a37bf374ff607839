-- Beginnings of lists, and the list of orders by stamp and then lane. Assumes nothing.
use mathlib.Core.Path.{◌≡◌, refl, sym, ap, ◌∙◌}
use mathlib.Core.List.{List, [], ◌∷◌, ◌++◌}
use mathlib.Core.Logic.{◌⊎◌, inl, inr}
use mathlib.Core.Bool.{Bool, true, false, cond}
use Prim.Native.Nat.{suc}
use lib.ListN.{length}
use Rattle.deliver.specs.Delivery.{insert_by, sort_by}
use Rattle.roll.specs.Runs.{Order}
use Rattle.roll.specs.Logs.{ranks_lower, in_order}
use Rattle.laws.proofs.ListLaws.{Begins}

-- a list without its first order, and its first order, or another where there is none
abbrev rest : List Order → List Order
rest [] = []
rest (x ∷ l) = l

abbrev first : Order → List Order → Order
first d [] = d
first d (x ∷ l) = x

-- of two lists that are followed by something to make one list, one begins the other
one_begins : (s t r q : List Order) → s ++ r ≡ t ++ q → Begins s t ⊎ Begins t s
one_begins [] t r q e = inl (t, refl)
one_begins (x ∷ s) [] r q e = inr (x ∷ s, refl)
one_begins (x ∷ s) (y ∷ t) r q e = go (one_begins s t r q (ap rest e))
  where
    heads : x ≡ y
    heads = ap (first x) e

    go : Begins s t ⊎ Begins t s → Begins (x ∷ s) (y ∷ t) ⊎ Begins (y ∷ t) (x ∷ s)
    go (inl b) = inl (b.0, rw (heads, b.1) refl)
    go (inr b) = inr (b.0, rw (heads, b.1) refl)

-- of two beginnings of one list, one begins the other
pub begin_each_other : (s t l : List Order) → Begins s l → Begins t l → Begins s t ⊎ Begins t s
begin_each_other s t l a b = one_begins s t a.0 b.0 (sym a.1 ∙ b.1)

-- sorting keeps how many there are
length_insert : (x : Order) (l : List Order) → length (insert_by ranks_lower x l) ≡ suc (length l)
unfolding insert_by
length_insert x [] = refl
length_insert x (y ∷ l) = go (ranks_lower x y) (length_insert x l)
  where
    go : (b : Bool) → length (insert_by ranks_lower x l) ≡ suc (length l) → length (cond b (x ∷ y ∷ l) (y ∷ insert_by ranks_lower x l)) ≡ suc (suc (length l))
    go true ih = refl
    go false ih = ap suc ih

pub length_in_order : (l : List Order) → length (in_order l) ≡ length l
unfolding in_order sort_by
length_in_order [] = refl
length_in_order (x ∷ l) = length_insert x (sort_by ranks_lower l) ∙ ap suc (length_in_order l)
