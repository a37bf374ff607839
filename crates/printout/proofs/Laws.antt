-- Texts written one after the other, a log's items and a yard's posts one by one. Assumes nothing.
use mathlib.Core.Path.{◌≡◌, ap, sym, ◌∙◌}
use mathlib.Core.List.{List, [], ◌∷◌, ◌++◌, map-append, append-nil, append_assoc}
use Prim.Native.Nat.{ℕ, ◌+◌, ◌-◌, ◌/◌, ◌<◌, ◌≤◌, min}
use native.Mathlib.Numerals.{add-one}
use native.Mathlib.Omega.{arith}
use lib.ListN.{length, take, get_or, length-take, length-drop}
use lib.Seq.{take-suc}
use Rattle.text.specs.Bytes.{bytes}
use Rattle.text.specs.Decimal.{decimal}
use Rattle.text.specs.Writing.{Out, wrote}
use Rattle.text.proofs.Laws.{next}
use Rattle.post.specs.declared.Post.{Post}
use Rattle.row.specs.Rows.{part, post_in}
use Rattle.roll.specs.Logs.{order_at}
use Rattle.roll.specs.Runs.{Order}
use Rattle.meaning.specs.Texts.{three_text, item_text, items_text}
use Rattle.printout.specs.Items.{items_at}

-- a text and a number after what is written
pub labelled : (o : Out) (t a b : List ℕ) {p q : Out} → p ≡ wrote o t → q ≡ wrote p (a ++ b) → q ≡ wrote o (t ++ a ++ b)
labelled o t a b e f = rw (append_assoc t a b) (next o t (a ++ b) e f)

-- three numbers, and an item from the stamp and the word read at its place
pub three_wrote : (o p q r z : Out) (stamp lane word : ℕ) → p ≡ wrote o (bytes " (" ++ decimal stamp) → q ≡ wrote p (bytes " " ++ decimal lane)
    → r ≡ wrote q (bytes " " ++ decimal word) → z ≡ wrote r (bytes ")") → z ≡ wrote o (three_text stamp lane word)
three_wrote o p q r z stamp lane word e1 e2 e3 e4 = next _ _ _ (labelled _ _ (bytes " ") _ (labelled _ _ (bytes " ") _ e1 e2) e3) e4

pub item_wrote : (o z : Out) (post : Post) (place stamp word : ℕ) → stamp ≡ get_or post.stamps place 0 → word ≡ get_or post.words place 0
    → z ≡ wrote o (three_text stamp (place / 16) word) → z ≡ wrote o (item_text (order_at post place))
unfolding item_text
item_wrote o z post place stamp word es ew e = rw (es, ew) at e

-- one item more at the end
items_one : (l : List Order) (x : Order) → items_text (l ++ (x ∷ [])) ≡ items_text l ++ item_text x
unfolding items_text
items_one [] x = append-nil (item_text x)
items_one (y ∷ l) x = ap (λ (t : List ℕ). item_text y ++ t) (items_one l x) ∙ sym (append_assoc (item_text y) (items_text l) (item_text x))

-- the item at place k of a list after those before it
pub items_more : (o p q : Out) (post : Post) (places : List ℕ) (k place : ℕ) → k < length places → p ≡ wrote o (items_at post (take k places))
    → place ≡ get_or places k 0 → q ≡ wrote p (item_text (order_at post place)) → q ≡ wrote o (items_at post (take (k + 1) places))
items_more o p q post places k place h e ep f =
    rw (add-one, take-suc places k 0, map-append, items_one) (next _ _ _ e (rw ep at f))

-- how many cells of the log a row has
pub cells_none : (l : List ℕ) → length l < 414 → 0 ≡ length (post_in l).log
unfolding post_in part
cells_none l h = sym (simp (length-take, length-drop) (omega arith))

pub cells_some : (l : List ℕ) (n : ℕ) → 414 ≤ length l → n ≡ min (length l - 414) 128 → n ≡ length (post_in l).log
unfolding post_in part
cells_some l n h e = simp (length-take, length-drop) (omega arith)
