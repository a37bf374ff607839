-- Laws of the definitions in specs/. Assumes nothing.
use mathlib.Core.Path.{◌≡◌, refl, ap, ◌∙◌}
use mathlib.Core.List.{List, [], ◌∷◌, ◌++◌}
use Prim.Native.Nat.{ℕ, suc, ◌+◌, ◌<◌, ◌≤◌}
use native.Mathlib.Numerals.{add-one}
use native.Mathlib.Omega.{arith}
use borrow.Author.Tests.{lt-ltb}
use lib.ListN.{length, take, drop, get_or, set, length-set}
use lib.Seq.{take-suc, sets, sets-eq}
use Rattle.text.specs.Writing.{Out, out, wrote_byte, wrote}

-- two texts one after the other are one text
pub wrote_append : (o : Out) (t u : List ℕ) → wrote (wrote o t) u ≡ wrote o (t ++ u)
unfolding wrote
wrote_append o [] u = refl
wrote_append o (x ∷ t) u = wrote_append (wrote_byte o x) t u

-- the same, of two writers run one after the other
pub next : (o : Out) (t u : List ℕ) {p q : Out} → p ≡ wrote o t → q ≡ wrote p u → q ≡ wrote o (t ++ u)
next o t u e f = f ∙ ap (λ (x : Out). wrote x u) e ∙ wrote_append o t u

-- one byte more of a text
pub wrote_more : (o p q : Out) (t : List ℕ) (i : ℕ) → i < length t → p ≡ wrote o (take i t) → q ≡ wrote p (get_or t i 0 ∷ []) → q ≡ wrote o (take (i + 1) t)
wrote_more o p q t i h e f = rw (add-one, take-suc t i 0) (next _ _ _ e f)

-- where a text fits, it is written whole: the buffer is the old one with the text pasted at the position
pub wrote_sets : (t l : List ℕ) (at : ℕ) → at + length t ≤ length l → wrote (out l at) t ≡ out (sets l at t) (at + length t)
unfolding wrote wrote_byte
wrote_sets [] l at h = ap (λ (n : ℕ). out l n) (omega arith)
wrote_sets (x ∷ t) l at h =
    let f : at < length l = omega arith in
    let g : (at + 1) + length t ≤ length (set l at x) = rw length-set (omega arith) in
    let e : (at + 1) + length t ≡ at + suc (length t) = omega arith in
    rw (lt-ltb at (length l) f) (wrote_sets t (set l at x) (at + 1) g ∙ rw (e, add-one))

pub wrote_fits : (t l : List ℕ) (at : ℕ) → at + length t ≤ length l → wrote (out l at) t ≡ out (take at l ++ t ++ drop (at + length t) l) (at + length t)
wrote_fits t l at h = wrote_sets t l at h ∙ ap (λ (b : List ℕ). out b (at + length t)) (sets-eq t l at h)
