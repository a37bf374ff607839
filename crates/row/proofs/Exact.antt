-- What a row holds is all of it: its record, what it knows and what is past them. Assumes nothing.
use mathlib.Core.Path.{◌≡◌, sym, ap, ◌∙◌}
use mathlib.Core.List.{List}
use Prim.Native.Nat.{ℕ, zero, suc, ◌+◌, ◌-◌, ◌<◌, ◌≤◌}
use native.Mathlib.Omega.{arith}
use native.Mathlib.Decide.{dec_lt}
use lib.ListN.{length, get_or}
use lib.Seq.{ext_get_or, get_or-drop}
use Rattle.post.specs.declared.Post.{Post}
use Rattle.row.specs.Rows.{part, post_in, known_in, past_in}
use Rattle.row.proofs.Laws.{part_get}

-- cell j of a part
pub in_part : (l m : List ℕ) (a n j : ℕ) → part l a n ≡ part m a n → a ≤ j → j < a + n → get_or l j 0 ≡ get_or m j 0
in_part l m a n j e low high =
    let q : j ≡ a + (j - a) = omega arith in
    let h : j - a < n = omega arith in
    rw q (sym (part_get l a n (j - a) h) ∙ ap (λ (x : List ℕ). get_or x (j - a) 0) e ∙ part_get m a n (j - a) h)

-- a cell of the record, or of what is known: from the seventh on, and any
row_far : (l m : List ℕ) (j : ℕ) → post_in l ≡ post_in m → known_in l ≡ known_in m → 6 ≤ j → j < 543 → get_or l j 0 ≡ get_or m j 0
unfolding post_in known_in
row_far l m j e k low h = go (dec_lt j 14) (dec_lt j 22) (dec_lt j 158) (dec_lt j 286) (dec_lt j 414) (dec_lt j 542)
  where
    go : Dec (j < 14) → Dec (j < 22) → Dec (j < 158) → Dec (j < 286) → Dec (j < 414) → Dec (j < 542) → get_or l j 0 ≡ get_or m j 0
    go (yes a) b c d f g = in_part l m 6 8 j (ap (λ (p : Post). p.last) e) (omega arith) (omega arith)
    go (no a) (yes b) c d f g = in_part l m 14 8 j k (omega arith) (omega arith)
    go (no a) (no b) (yes c) d f g = in_part l m 22 136 j (ap (λ (p : Post). p.table) e) (omega arith) (omega arith)
    go (no a) (no b) (no c) (yes d) f g = in_part l m 158 128 j (ap (λ (p : Post). p.stamps) e) (omega arith) (omega arith)
    go (no a) (no b) (no c) (no d) (yes f) g = in_part l m 286 128 j (ap (λ (p : Post). p.words) e) (omega arith) (omega arith)
    go (no a) (no b) (no c) (no d) (no f) (yes g) = in_part l m 414 128 j (ap (λ (p : Post). p.log) e) (omega arith) (omega arith)
    go (no a) (no b) (no c) (no d) (no f) (no g) = let q : j ≡ 542 = omega arith in rw q (ap (λ (p : Post). p.posts) e)

pub row_same : (l m : List ℕ) (j : ℕ) → post_in l ≡ post_in m → known_in l ≡ known_in m → j < 543 → get_or l j 0 ≡ get_or m j 0
unfolding post_in
row_same l m zero e k h = ap (λ (p : Post). p.lane) e
row_same l m (suc zero) e k h = ap (λ (p : Post). p.sources) e
row_same l m (suc (suc zero)) e k h = ap (λ (p : Post). p.dests) e
row_same l m (suc (suc (suc zero))) e k h = ap (λ (p : Post). p.clock.0) e
row_same l m (suc (suc (suc (suc zero)))) e k h = ap (λ (p : Post). p.serial.0) e
row_same l m (suc (suc (suc (suc (suc zero))))) e k h = ap (λ (p : Post). p.logged) e
row_same l m (suc (suc (suc (suc (suc (suc i)))))) e k h = row_far l m (suc (suc (suc (suc (suc (suc i)))))) e k (omega arith) h

row_past : (l m : List ℕ) (j : ℕ) → past_in l ≡ past_in m → 543 ≤ j → get_or l j 0 ≡ get_or m j 0
unfolding past_in
row_past l m j e h =
    let q : j ≡ 543 + (j - 543) = omega arith in
    rw q (sym (get_or-drop 543 l (j - 543) 0) ∙ ap (λ (x : List ℕ). get_or x (j - 543) 0) e ∙ get_or-drop 543 m (j - 543) 0)

-- two rows of one length that hold the same are the same cells
pub row_told : (l m : List ℕ) → length l ≡ length m → post_in l ≡ post_in m → known_in l ≡ known_in m → past_in l ≡ past_in m → l ≡ m
row_told l m n e k p = ext_get_or 0 l m n (λ i h. go i (dec_lt i 543))
  where
    go : (i : ℕ) → Dec (i < 543) → get_or l i 0 ≡ get_or m i 0
    go i (yes h) = row_same l m i e k h
    go i (no h) = row_past l m i p (omega arith)
