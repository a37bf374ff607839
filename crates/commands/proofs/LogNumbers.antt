-- The numbers of a row's log, order by order. Assumes nothing.
use mathlib.Core.Path.{◌≡◌, refl, sym, ap, ◌∙◌}
use mathlib.Core.List.{List, [], ◌∷◌, ◌++◌, map, map-append}
use Prim.Native.Nat.{ℕ, suc, ◌+◌, ◌*◌, ◌/◌, ◌<◌, ◌≤◌}
use native.Mathlib.Numerals.{add-one}
use native.Mathlib.Omega.{arith}
use lib.ListN.{length, get_or, set, take, drop, length-map, length-take}
use lib.Seq.{sets, take-suc, length-take-le}
use Rattle.post.specs.declared.Post.{Post}
use Rattle.row.specs.Rows.{post_in, part}
use Rattle.roll.specs.Logs.{order_at, orders_logged}
use Rattle.printout.proofs.Laws.{cells_some}
use Rattle.csv_log.specs.declared.LogItem.{LogItem}
use Rattle.csv_log.specs.Log.{item_numbers}
use Rattle.csv_log.proofs.Entries.{numbers_count}
use Rattle.desk.specs.Desk.{item_of}

-- the numbers of the orders at some places
abbrev pub numbers_at : Post → List ℕ → List ℕ
numbers_at p places = item_numbers (map item_of (map (order_at p) places))

-- three numbers at a place
pub order_put : (l : List ℕ) (i : ℕ) (p : Post) (place stamp word : ℕ) → stamp ≡ get_or p.stamps place 0 → word ≡ get_or p.words place 0
    → set (set (set l i stamp) (i + 1) (place / 16)) (i + 2) word ≡ sets l i (item_numbers (item_of (order_at p place) ∷ []))
unfolding item_numbers
order_put l i p place stamp word e f =
    let a : i + 1 ≡ suc i = omega arith in
    let b : i + 2 ≡ suc (suc i) = omega arith in
    rw (e, f, a, b)

-- ---- one order more

sets_append : (l : List ℕ) (i : ℕ) (a b : List ℕ) → sets l i (a ++ b) ≡ sets (sets l i a) (i + length a) b
sets_append l i [] b = let e : i + 0 ≡ i = omega arith in rw e
sets_append l i (x ∷ a) b = let e : i + suc (length a) ≡ suc i + length a = omega arith in rw e (sets_append (set l i x) (suc i) a b)

numbers_append : (l m : List LogItem) → item_numbers (l ++ m) ≡ item_numbers l ++ item_numbers m
unfolding item_numbers
numbers_append [] m = refl
numbers_append (x ∷ l) m = ap (λ (r : List ℕ). x.stamp ∷ x.lane ∷ x.word ∷ r) (numbers_append l m)

at_count : (p : Post) (places : List ℕ) → length (numbers_at p places) ≡ 3 * length places
at_count p places =
    numbers_count (map item_of (map (order_at p) places))
    ∙ ap (λ (n : ℕ). 3 * n) (length-map (map (order_at p) places) item_of ∙ length-map places (order_at p))

pub numbers_more : (l numbers after : List ℕ) (p : Post) (places : List ℕ) (k n place : ℕ) → k < length places → n ≡ 3 * k → numbers ≡ sets l 0 (numbers_at p (take k places))
    → place ≡ get_or places k 0 → after ≡ sets numbers n (item_numbers (item_of (order_at p place) ∷ [])) → after ≡ sets l 0 (numbers_at p (take (k + 1) places))
numbers_more l numbers after p places k n place h i e ep f =
    let m : 0 + length (numbers_at p (take k places)) ≡ 3 * k = omega (arith, at_count p (take k places), length-take-le k places (omega arith)) in
    f ∙ rw (i, e, ep, add-one, take-suc places k 0 h, map-append, map-append, numbers_append, sets_append l 0 (numbers_at p (take k places)), m)

-- ---- all of them

-- a whole row has 128 places in its log
pub whole_log : (row : List ℕ) → length row ≡ 543 → length (post_in row).log ≡ 128
whole_log row h = sym (cells_some row 128 (omega arith) (omega arith))

-- a log has no more than 128 places
pub few_places : (row places : List ℕ) → places ≡ take (post_in row).logged (post_in row).log → length places ≤ 128
unfolding post_in part
few_places row places e = rw e (omega (arith, length-take (post_in row).logged (post_in row).log, length-take 128 (drop 414 row)))

pub numbers_done : (row places : List ℕ) (k n : ℕ) → places ≡ take (post_in row).logged (post_in row).log → k ≡ length places → n ≡ 3 * k
    → n ≡ length (item_numbers (map item_of (orders_logged (post_in row))))
numbers_done row places k n e h i = i ∙ rw (h, e) (sym (at_count (post_in row) (take (post_in row).logged (post_in row).log)))

-- they are at most 384
pub few_numbers : (row : List ℕ) → length (item_numbers (map item_of (orders_logged (post_in row)))) ≤ 384
few_numbers row = omega (arith, at_count (post_in row) (take (post_in row).logged (post_in row).log), few_places row _ refl)
