-- What a `?` hands on of a line. Assumes nothing.
use mathlib.Core.Path.{◌≡◌, ap, ◌∙◌}
use mathlib.Core.Bool.{Bool, true, false, cond}
use Prim.Native.Nat.{ℕ}
use native.Mathlib.Omega.{arith}
use lib.Dec.{eqb}
use borrow.Author.Tests.{ne_eqb}
use Rattle.std.specs.Prelude.{Result, Ok, Err, IsErrAnd}
use Rattle.refusal.specs.declared.Refusal.{Refusal}
use Rattle.refusal.specs.Numbers.{refusal_number}
use Rattle.refusal.proofs.Refused.{refusal_positive}
use Rattle.lines.specs.declared.Line as reads
use Rattle.lines.specs.Line.{Line, Refused, line_answer}

-- a step's line that its check refuses, and one that it lets pass: of its form or not, by the number k
pub line_refused : (of_form : Bool) (k : ℕ) (l : Line) (o : Result reads.Line Refusal) (r : Refusal) → IsErrAnd o (λ e. e ≡ r)
    → refusal_number r ≡ cond of_form k 2 → line_answer o ≡ cond of_form (cond (eqb k 0) l (Refused k)) (Refused 2)
line_refused of_form k l (Ok x) r h e = absurd h
line_refused true k l (Err y) r h e =
    let q : refusal_number y ≡ k = ap refusal_number h ∙ e in
    rw (← q, ne_eqb (refusal_number y) 0 (λ z. omega (arith, refusal_positive y)))
line_refused false k l (Err y) r h e = ap Refused (ap refusal_number h ∙ e)

pub line_passed : (of_form : Bool) (k : ℕ) (l : Line) → 0 ≡ cond of_form k 2 → l ≡ cond of_form (cond (eqb k 0) l (Refused k)) (Refused 2)
line_passed true k l e = rw (← e)
line_passed false k l e = absurd (omega arith)
