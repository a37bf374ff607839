-- The list of lines from a place on: where a line begins, where none does, and how far a line reaches. Assumes nothing.
use mathlib.Core.Path.{◌≡◌, refl, sym, ap, ◌∙◌}
use mathlib.Core.Bool.{Bool, true, false, cond}
use mathlib.Core.List.{List, [], ◌∷◌}
use Prim.Native.Nat.{ℕ, zero, suc, ◌+◌, ◌<◌, ◌≤◌}
use native.Mathlib.Omega.{arith}
use lib.Dec.{ltb}
use lib.ListN.{length}
use borrow.Author.Tests.{ltb-true, lt-ltb, le-ltb}
use Rattle.lines.specs.Line.{Line, Yard, Order, Hear, Beacon, Roll, Refused}
use Rattle.lines.specs.Lines.{line_at, number_of, next_of, lines_from}
use Rattle.written.proofs.Theorem.{exact, line_some}

-- the line at a place
pub lines_one : (s : List ℕ) (at n : ℕ) → at < length s → lines_from s at (suc n) ≡ line_at s at ∷ lines_from s (next_of s (line_at s at)) n
unfolding lines_from
lines_one s at n h = rw (lt-ltb at (length s) h)

-- at the end there is none
pub lines_none : (s : List ℕ) (at n : ℕ) → length s ≤ at → lines_from s at n ≡ []
unfolding lines_from
lines_none s at zero h = refl
lines_none s at (suc n) h = rw (le-ltb at (length s) h)

-- the next line begins further on
next_further : (s : List ℕ) (at : ℕ) → at < length s → at < next_of s (line_at s at)
next_further s at h = go (line_at s at) refl
  where
    accepted : number_of (line_at s at) ≡ 0 → at < next_of s (line_at s at)
    accepted z = let a = exact.accepts s at z in omega (arith, a.2, line_some at (line_at s at) a.0)

    go : (l : Line) → line_at s at ≡ l → at < next_of s (line_at s at)
    go (Yard posts sources dests next) e = accepted (ap number_of e)
    go (Order lane word next) e = accepted (ap number_of e)
    go (Hear lane frame next) e = accepted (ap number_of e)
    go (Beacon lane next) e = accepted (ap number_of e)
    go (Roll next) e = accepted (ap number_of e)
    go (Refused number) e = rw e h

-- a bound that is at least the number of bytes left gives the same lines as one more
steady : (s : List ℕ) (n at : ℕ) → length s ≤ at + n → lines_from s at (suc n) ≡ lines_from s at n
unfolding lines_from
steady s zero at low = rw (le-ltb at (length s) (omega arith))
steady s (suc n) at low = go (ltb at (length s)) refl (λ (h : at < length s). steady s n (next_of s (line_at s at)) (omega (arith, next_further s at h)))
  where
    go : (b : Bool) → ltb at (length s) ≡ b
        → (at < length s → lines_from s (next_of s (line_at s at)) (suc n) ≡ lines_from s (next_of s (line_at s at)) n)
        → cond b (line_at s at ∷ lines_from s (next_of s (line_at s at)) (suc n)) [] ≡ cond b (line_at s at ∷ lines_from s (next_of s (line_at s at)) n) []
    go true e more = ap (λ (ls : List Line). line_at s at ∷ ls) (more (ltb-true at (length s) e))
    go false e more = refl

-- the line at a place, and the lines after it
pub lines_more : (s : List ℕ) (at : ℕ) → at < length s
    → lines_from s at (length s) ≡ line_at s at ∷ lines_from s (next_of s (line_at s at)) (length s)
lines_more s at h = go (length s) refl
  where
    go : (n : ℕ) → length s ≡ n → lines_from s at n ≡ line_at s at ∷ lines_from s (next_of s (line_at s at)) n
    go zero e = absurd (omega arith)
    go (suc n) e =
        lines_one s at n h
        ∙ ap (λ (ls : List Line). line_at s at ∷ ls) (sym (steady s n (next_of s (line_at s at)) (omega (arith, next_further s at h))))
