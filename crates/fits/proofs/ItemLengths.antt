-- How many bytes the items of logs have: each log's at most those of all orders sent. Assumes nothing.
use Prim.Native.Nat.{ℕ, ◌+◌, ◌*◌, ◌<◌, ◌≤◌}
use mathlib.Core.Path.{◌≡◌, refl, ap, ◌∙◌}
use mathlib.Core.Bool.{Bool, true, false, cond}
use mathlib.Core.List.{List, [], ◌∷◌, ◌++◌}
use mathlib.Core.Logic.{inl, inr}
use native.Mathlib.Omega.{arith}
use lib.ListN.{length, length-append}
use Rattle.deliver.specs.Delivery.{insert_by, sort_by}
use Rattle.text.specs.Decimal.{decimal}
use Rattle.laws.specs.Lists.{Mem, Begins}
use Rattle.roll.specs.Runs.{Order}
use Rattle.roll.specs.Logs.{ranks_lower, in_order}
use Rattle.meaning.specs.Texts.{item_text, items_text}
use Rattle.scan.proofs.Decimal.{at_most_5}
use Rattle.fits.proofs.TextLengths.{item_length}

-- the most bytes that the items of some orders have
unfoldable pub items_most : List Order → ℕ
items_most [] = 0
items_most (o ∷ l) = 10 + length (decimal o.word) + items_most l

-- of two lists
pub most_append : (l m : List Order) → items_most (l ++ m) ≡ items_most l + items_most m
unfolding items_most
most_append [] m = omega arith
most_append (o ∷ l) m = omega (arith, most_append l m)

-- at most fifteen for an order
pub most_fifteen : (l : List Order) → items_most l ≤ 15 * length l
unfolding items_most
most_fifteen [] = omega arith
most_fifteen (o ∷ l) = omega (arith, most_fifteen l, at_most_5 o.word)

-- ---- the items themselves

-- of two lists
items_append : (l m : List Order) → length (items_text (l ++ m)) ≡ length (items_text l) + length (items_text m)
unfolding items_text
items_append [] m = omega arith
items_append (o ∷ l) m = simp length-append (omega (arith, items_append l m))

-- with an order put in its place
items_insert : (x : Order) (l : List Order) → length (items_text (insert_by ranks_lower x l)) ≡ length (item_text x) + length (items_text l)
unfolding insert_by items_text
items_insert x [] = rw length-append
items_insert x (y ∷ l) = go (ranks_lower x y) (items_insert x l)
  where
    go : (b : Bool) → length (items_text (insert_by ranks_lower x l)) ≡ length (item_text x) + length (items_text l)
        → length (items_text (cond b (x ∷ y ∷ l) (y ∷ insert_by ranks_lower x l))) ≡ length (item_text x) + length (item_text y ++ items_text l)
    go true ih = simp length-append (omega arith)
    go false ih = simp length-append (omega (arith, ih))

-- sorting keeps how many bytes there are
items_in_order : (l : List Order) → length (items_text (in_order l)) ≡ length (items_text l)
unfolding in_order sort_by items_text
items_in_order [] = refl
items_in_order (x ∷ l) = rw length-append (items_insert x (sort_by ranks_lower l) ∙ ap (λ (n : ℕ). length (item_text x) + n) (items_in_order l))

-- orders with stamps of four digits and lanes below 8
abbrev pub Short : List Order → Type 0
Short l = (o : Order) → Mem o l → (o.stamp < 10000) × (o.lane < 8)

-- their items have no more bytes than that
items_length : (l : List Order) → Short l → length (items_text l) ≤ items_most l
unfolding items_text items_most
items_length [] h = omega arith
items_length (o ∷ l) h =
    let s = h o (inl refl) in
    rw length-append (omega (arith, item_length o s.0 s.1, items_length l (λ x m. h x (inr m))))

-- a log that begins the orders sent, by stamp and then lane
pub log_length : (log all : List Order) → Begins log (in_order all) → Short all → length (items_text log) ≤ items_most all
log_length log all b h =
    omega (
      arith,
      items_append log b.0,
      ap (λ (l : List Order). length (items_text l)) b.1,
      items_in_order all,
      items_length all h,
    )
