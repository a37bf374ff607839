-- Laws of the refusals of a step's line, and of the place after a line. Assumes nothing.
use mathlib.Core.Path.{◌≡◌, refl, sym}
use mathlib.Core.Bool.{Bool, true, false, cond}
use mathlib.Core.List.{List}
use Prim.Native.Nat.{ℕ, zero, suc, ◌<◌}
use native.Mathlib.Omega.{arith}
use lib.Dec.{ltb, eqb, lit<}
use borrow.Author.Tests.{ltb-false}
use Rattle.std.specs.Prelude.{Result, Ok, Err}
use Rattle.refusal.specs.declared.Refusal.{Refusal}
use Rattle.scan.proofs.Laws.{never}
use Rattle.lines.specs.declared.Line as reads
use Rattle.lines.specs.Line.{line_answer, line_or_none}
use Rattle.lines.specs.Lines.{step_line_refusal, next_of}

-- a chain of refusals that comes to 0 has passed its first test
pub chain : (t : Bool) (k r : ℕ) → 0 < k → cond t k r ≡ 0 → (t ≡ false) × (r ≡ 0)
chain true k r h e = absurd (omega arith)
chain false k r h e = (refl, e)

-- a step that is not refused stands after line 1, its numbers in range
pub step_right : (at l w : ℕ) → step_line_refusal at l w ≡ 0 → (0 < at) × (l < 8) × (w < 65536)
unfolding step_line_refusal
step_right at l w h =
    let a = chain (eqb at 0) 3 _ (lit< tt) h in
    let b = chain (ltb 7 l) 4 _ (lit< tt) a.1 in
    let d = chain (ltb 65535 w) 5 0 (lit< tt) b.1 in
    (late at a.0, omega (arith, ltb-false 7 l b.0), omega (arith, ltb-false 65535 w d.0))
  where
    late : (n : ℕ) → eqb n 0 ≡ false → 0 < n
    late zero e = never (sym e)
    late (suc n) e = omega arith

-- the place after a line does not depend on why it is refused
pub next_whatever : (s : List ℕ) (r : Result reads.Line Refusal) → next_of s (line_or_none r) ≡ next_of s (line_answer r)
next_whatever s (Ok l) = refl
next_whatever s (Err refusal) = refl
