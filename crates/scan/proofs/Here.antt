-- A text that stands in another at a place, byte by byte. Assumes nothing.
use mathlib.Core.Path.{◌≡◌, refl, ap, sym, ◌∙◌}
use mathlib.Core.Bool.{Bool, true, false}
use mathlib.Core.List.{List, [], ◌∷◌, ◌++◌}
use mathlib.Core.Logic.{⊎_elim}
use Prim.Native.Nat.{ℕ, zero, suc, ◌+◌, ◌-◌, ◌<◌, ◌≤◌}
use native.Mathlib.Omega.{arith}
use native.Mathlib.Nat.{le_of_suc-le-suc, not-suc-le-zero, eq-or-lt_of_le}
use lib.Dec.{eqb, ltb, leb}
use lib.ListN.{length, get_or, take, drop, length-append, get_or-append}
use Rattle.std.specs.Prelude.{MatchBool, ◌≢◌}
use Rattle.std.specs.List.{starts_with, slice_range}
use Rattle.std.specs.Cmp.Lexicographic.{told_text}
use Rattle.std.proofs.lemmas.Bool.{false_from_ne_true}
use Rattle.std.proofs.lemmas.List.{length-drop, length-take-le, get_or-take, get_or-drop, ext_get_or}
use lib.Seq.{get_or-append-add, take_all}
use borrow.Author.Tests.{eqb-true, eq-eqb, leb-true, le-leb, ltb-true, ltb-false}
use Rattle.scan.specs.Scan.{all_below, same_bytes, stands}
use Rattle.scan.proofs.Laws.{both}

unfoldable pub Here : List ℕ → ℕ → List ℕ → Type 0
Here s at t = (at + length t ≤ length s) × ((i : ℕ) → i < length t → get_or s (at + i) 0 ≡ get_or t i 0)

pub all_at : (f : ℕ → Bool) (n k : ℕ) → all_below f n ≡ true → k < n → f k ≡ true
unfolding all_below
all_at f zero k e h = absurd (not-suc-le-zero h)
all_at f (suc n) k e h =
    ⊎_elim (λ (q : k ≡ n). rw q (both (all_below f n) (f n) e).1) (λ (l : k < n). all_at f n k (both (all_below f n) (f n) e).0 l)
    (eq-or-lt_of_le (le_of_suc-le-suc h))

pub all_of : (f : ℕ → Bool) (n : ℕ) → ((k : ℕ) → k < n → f k ≡ true) → all_below f n ≡ true
unfolding all_below
all_of f zero h = refl
all_of f (suc n) h = rw (all_of f n (λ k l. h k (omega arith)), h n (omega arith))

pub stands_here : (s t : List ℕ) (at : ℕ) → stands s at t ≡ true → Here s at t
unfolding stands Here
stands_here s t at e =
    let p = both (leb (at + length t) (length s)) (same_bytes s at t) e in
    (leb-true _ _ p.0, λ i h. eqb-true _ _ (all_at (λ (k : ℕ). eqb (get_or s (at + k) 0) (get_or t k 0)) (length t) i p.1 h))

pub here_stands : (s t : List ℕ) (at : ℕ) → Here s at t → stands s at t ≡ true
unfolding stands Here
here_stands s t at h =
    rw (le-leb _ _ h.0, all_of (λ (k : ℕ). eqb (get_or s (at + k) 0) (get_or t k 0)) (length t) (λ k l. eq-eqb _ _ (h.1 k l)))

-- one text after another
pub here_split : (s t u : List ℕ) (at : ℕ) → Here s at (t ++ u) → Here s at t × Here s (at + length t) u
unfolding Here
here_split s t u at h =
    let n = length-append t u in (
      (omega arith, λ i l. h.1 i (omega arith) ∙ get_or-append t u 0 i l),
      (omega arith, λ i l. let e : at + length t + i ≡ at + (length t + i) = omega arith in rw e (h.1 (length t + i) (omega arith) ∙ get_or-append-add t u i 0)),
    )

pub here_join : (s t u : List ℕ) (at : ℕ) → Here s at t → Here s (at + length t) u → Here s at (t ++ u)
unfolding Here
here_join s t u at h k =
    let n = length-append t u in
    (omega (arith, k.0), λ i l. go i l (ltb i (length t)) refl)
  where
    go : (i : ℕ) → i < length (t ++ u) → (b : Bool) → ltb i (length t) ≡ b → get_or s (at + i) 0 ≡ get_or (t ++ u) i 0
    go i l true e = let f = ltb-true i (length t) e in h.1 i f ∙ sym (get_or-append t u 0 i f)
    go i l false e =
        let f = ltb-false i (length t) e in
        let n = length-append t u in
        let j : i ≡ length t + (i - length t) = omega arith in
        let q : at + (length t + (i - length t)) ≡ at + length t + (i - length t) = omega arith in
        rw (j, get_or-append-add t u (i - length t) 0, q) (k.1 (i - length t) (omega arith))

pub here_one : (s : List ℕ) (at x : ℕ) → at < length s → get_or s at 0 ≡ x → Here s at (x ∷ [])
unfolding Here
here_one s at x h e = (omega arith, λ i l. let z : i ≡ 0 = omega arith in let q : at + 0 ≡ at = omega arith in rw (z, q) e)

pub here_head : (s t : List ℕ) (at x : ℕ) → Here s at (x ∷ t) → get_or s at 0 ≡ x
unfolding Here
here_head s t at x h = let q : at + 0 ≡ at = omega arith in rw q at (h.1 0 (omega arith))

pub here_at : (s t : List ℕ) (at i : ℕ) → Here s at t → i < length t → get_or s (at + i) 0 ≡ get_or t i 0
unfolding Here
here_at s t at i h l = h.1 i l

-- a text stands where the rest from there on starts with it
pub starts_stand : (s t rest : List ℕ) (at : ℕ) (r : Bool) → rest ≡ slice_range s at (length s) → at ≤ length s → r ≡ starts_with eqb rest t
    → (r ≡ true → length t ≤ length rest) → r ≡ stands s at t
unfolding Here
starts_stand s t rest at r e h q b = go r (told_text t (take (length t) rest) r q) b
  where
    from : rest ≡ drop at s
    from = e ∙ take_all (length s - at) (drop at s) (let l = length-drop at s in omega arith)

    long : length rest ≡ length s - at
    long = rw from (length-drop at s)

    each : (i : ℕ) → i < length t → get_or (take (length t) rest) i 0 ≡ get_or s (at + i) 0
    each i k = get_or-take (length t) rest i 0 k ∙ ap (λ (l : List ℕ). get_or l i 0) from ∙ get_or-drop at s i 0

    begins : t ≡ take (length t) rest → length t ≤ length rest → Here s at t
    begins f l = (omega (arith, long), λ i k. sym (ap (λ (l : List ℕ). get_or l i 0) f ∙ each i k))

    begun : Here s at t → t ≡ take (length t) rest
    begun k =
        ext_get_or 0 t (take (length t) rest) (sym (length-take-le (length t) rest (let b = k.0 in omega (arith, long))))
        (λ i l. sym (each i l ∙ k.1 i l))

    go : (r : Bool) → MatchBool r (t ≡ take (length t) rest) (t ≢ take (length t) rest) → (r ≡ true → length t ≤ length rest) → r ≡ stands s at t
    go true f b = sym (here_stands s t at (begins f (b refl)))
    go false f b = sym (false_from_ne_true _ (λ k. f (begun (stands_here s t at k))))
