-- A part that was lent and written: it is the new part, and what is apart from it stays. Assumes nothing.
use mathlib.Core.Path.{◌≡◌, refl, sym, ap, ◌∙◌}
use mathlib.Core.Bool.{Bool, true, false, ◌||◌}
use mathlib.Core.List.{List, ◌++◌}
use Prim.Native.Nat.{ℕ, ◌+◌, ◌-◌, ◌≤◌}
use native.Mathlib.Omega.{arith}
use borrow.Author.Tests.{leb-true}
use lib.Dec.{leb}
use lib.ListN.{length, get_or, take, drop, length-take, length-drop, length-append, take-append-drop}
use lib.Seq.{length-take-le, take_at, drop_at, take-append-le, drop-append-le, drop-append-add, drop-drop}
use Rattle.row.specs.Rows.{part, past_in}
use Rattle.row.proofs.Laws.{apart, part_get}

-- the list with other n elements from a on
unfoldable pub put_part : List ℕ → ℕ → ℕ → List ℕ → List ℕ
put_part s a n ys = take a s ++ (ys ++ drop n (drop a s))

module _ (s : List ℕ) (a n : ℕ) (ys : List ℕ) (h : a + n ≤ length s) (l : length ys ≡ n) where
  front : length (take a s) ≡ a
  front = length-take-le a s (omega arith)

  pub part_back : part (put_part s a n ys) a n ≡ ys
  unfolding part put_part
  part_back = rw (drop_at (take a s) (ys ++ drop n (drop a s)) a front) (take_at ys (drop n (drop a s)) n l)

  pub length_back : length (put_part s a n ys) ≡ length s
  unfolding put_part
  length_back = simp (length-append, length-take, length-drop) (omega arith)

  -- what comes after does not matter before a
  before : (b m : ℕ) (r : List ℕ) → b + m ≤ a → part (take a s ++ r) b m ≡ take m (drop b (take a s))
  unfolding part
  before b m r k =
      let e : b ≤ length (take a s) = omega (arith, front) in
      let g : m ≤ length (drop b (take a s)) = simp length-drop (omega (arith, front)) in
      rw (drop-append-le, take-append-le)

  pub part_before : (b m : ℕ) → b + m ≤ a → part (put_part s a n ys) b m ≡ part s b m
  unfolding put_part
  part_before b m k = before b m (ys ++ drop n (drop a s)) k ∙ sym (before b m (drop a s) k) ∙ ap (λ (x : List ℕ). part x b m) (take-append-drop a s)

  after : (b : ℕ) → a + n ≤ b → drop b (put_part s a n ys) ≡ drop b s
  unfolding put_part
  after b k =
      let c : ℕ = b - (a + n) in
      let r : List ℕ = ys ++ drop n (drop a s) in
      let e : b ≡ length (take a s) + (n + c) = omega (arith, front) in
      let f : n + c ≡ length ys + c = omega arith in
      let g : a + (n + c) ≡ b = omega arith in
      let x : drop b (take a s ++ r) ≡ drop (n + c) r = ap (λ (i : ℕ). drop i (take a s ++ r)) e ∙ drop-append-add (take a s) r (n + c) in
      let y : drop (n + c) r ≡ drop c (drop n (drop a s)) = ap (λ (i : ℕ). drop i r) f ∙ drop-append-add ys (drop n (drop a s)) c in
      let z : drop c (drop n (drop a s)) ≡ drop b s = drop-drop c n (drop a s) ∙ drop-drop (n + c) a s ∙ ap (λ (i : ℕ). drop i s) g in
      x ∙ y ∙ z

  pub part_after : (b m : ℕ) → a + n ≤ b → part (put_part s a n ys) b m ≡ part s b m
  unfolding part
  part_after b m k = ap (take m) (after b k)

  pub past_other : a + n ≤ 543 → past_in (put_part s a n ys) ≡ past_in s
  unfolding past_in
  past_other k = after 543 k

  -- the m elements from b on, where they are apart from those that were written
  pub part_other : (b m : ℕ) → apart a n b m ≡ true → part (put_part s a n ys) b m ≡ part s b m
  part_other b m e = go (leb (a + n) b) refl e
    where
      go : (t : Bool) → leb (a + n) b ≡ t → (leb (a + n) b || leb (b + m) a) ≡ true → part (put_part s a n ys) b m ≡ part s b m
      go true q e = part_after b m (leb-true (a + n) b q)
      go false q e = part_before b m (leb-true (b + m) a (rw q at e))

  pub cell_other : (k : ℕ) → apart a n k 1 ≡ true → get_or (put_part s a n ys) (k + 0) 0 ≡ get_or s (k + 0) 0
  cell_other k e =
      sym (part_get (put_part s a n ys) k 1 0 (omega arith)) ∙ ap (λ (x : List ℕ). get_or x 0 0) (part_other k 1 e) ∙ part_get s k 1 0 (omega arith)
