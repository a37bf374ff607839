-- Laws of the lines and of their refusals 1 to 5. Assumes nothing.
use mathlib.Core.Path.{◌≡◌, refl, sym}
use mathlib.Core.Bool.{Bool, true, false, cond, not}
use Rattle.std.proofs.lemmas.Bool.{not-true, not-false}
use mathlib.Core.List.{List}
use mathlib.Core.Logic.{◌⊎◌, inl, inr}
use Prim.Native.Nat.{ℕ, zero, suc, ◌+◌, ◌<◌, ◌≤◌}
use native.Mathlib.Omega.{arith}
use lib.ListN.{length}
use borrow.Author.Tests.{lt-ltb, le-ltb, ne_eqb}
use Rattle.scan.proofs.TextLaws.{and_no}
use Rattle.lines.proofs.Laws.{step_right}
use Rattle.lines.specs.Lines.{yard_line_refusal, yard_line, step_line_refusal, line_at, number_of, next_of, lines_from, lines_of, judged_lines}
use Rattle.std.specs.Prelude.{Result, Ok}
use Rattle.refusal.specs.declared.Refusal.{Refusal}
use Rattle.refusal.specs.Numbers.{refusal_number}
use Rattle.refusal.proofs.Refused.{refusal_positive}
use Rattle.lines.specs.declared.Line as reads
use Rattle.lines.specs.declared.YardScan.{YardScan}
use Rattle.lines.specs.Judged.{Judged}
use Rattle.lines.specs.Line.{Line, Yard, Refused, line_answer}
use Rattle.reader.proofs.Progress.{next_above}

-- a step that passed its check has a lane and a word that fit
pub step_small : (of_form : Bool) (at l w : ℕ) → 0 ≡ cond of_form (step_line_refusal at l w) 2 → (l < 8) × (w < 65536)
step_small true at l w e = let r = step_right at l w (sym e) in (r.1, r.2)
step_small false at l w e = absurd (omega arith)

-- a yard form on line 1, and on a later line
pub yard_yes : (y : YardScan) → not y.rising ≡ false → (y.posts ≡ 0 → ⊥) → Yard y.posts y.sources y.dests y.at ≡ yard_line 0 y
unfolding yard_line_refusal yard_line
yard_yes y h n = rw (not-false y.rising h, lt-ltb 0 y.posts (omega arith))

pub yard_no : (y : YardScan) → (not y.rising ≡ true) ⊎ ((not y.rising ≡ false) × (y.posts ≡ 0)) → Refused 3 ≡ yard_line 0 y
unfolding yard_line_refusal yard_line
yard_no y (inl h) = rw (not-true y.rising h)
yard_no y (inr (h, z)) = rw (z, and_no y.rising)

pub yard_late : (at : ℕ) (y : YardScan) → 0 < at → Refused 3 ≡ yard_line at y
unfolding yard_line_refusal yard_line
yard_late at y h = rw (ne_eqb at 0 (λ e. omega arith))

-- the next line begins further on
pub line_above : (s : List ℕ) (at : ℕ) (l : Line) (a : ℕ) → at < length s → l ≡ line_at s at → a ≡ next_of s l → at < a
line_above s at l a h e f = rw (f, e) (next_above s at h)

-- After some lines none is refused, and what is left decides.
abbrev pub Judging : List ℕ → ℕ → ℕ → Type 0
Judging s at line = (n : ℕ) × (length s ≤ at + n) × (judged_lines line (lines_from s at n) ≡ judged_lines 0 (lines_of s))

pub judging_start : (s : List ℕ) → Judging s 0 0
judging_start s = (length s, omega arith, refl)

-- a line more
pub judging_next : (s : List ℕ) (at line : ℕ) (l : Line) (a : ℕ) → Judging s at line → at < length s
    → l ≡ line_at s at → number_of l ≡ 0 → a ≡ next_of s l → Judging s a (line + 1)
unfolding lines_from judged_lines
judging_next s at line l a (zero, p, e) h f z i = absurd (omega arith)
judging_next s at line l a (suc n, p, e) h f z i =
    let y : number_of (line_at s at) ≡ 0 = rw f at z in
    rw (i, f) (n, omega (arith, next_above s at h), rw (lt-ltb at (length s) h, y) at e)

-- a line that is refused
pub judging_refused : (s : List ℕ) (at line : ℕ) (r : Refusal) → Judging s at line → at < length s → Refused (refusal_number r) ≡ line_at s at
    → ◌≡◌ {A = Judged} (record { line = line + 1; number = refusal_number r }) (judged_lines 0 (lines_of s))
unfolding lines_from judged_lines
judging_refused s at line r (zero, p, e) h f = absurd (omega arith)
judging_refused s at line r (suc n, p, e) h f =
    rw (lt-ltb at (length s) h, ← f, ne_eqb (refusal_number r) 0 (λ z. omega (arith, refusal_positive r))) at e

-- no line more
pub judging_end : (s : List ℕ) (at line : ℕ) → Judging s at line → length s ≤ at
    → ◌≡◌ {A = Judged} (record { line = line; number = 0 }) (judged_lines 0 (lines_of s))
unfolding lines_from judged_lines
judging_end s at line (zero, p, e) h = e
judging_end s at line (suc n, p, e) h = rw (le-ltb at (length s) h) at e

-- what was read and is no refusal has the number 0
pub not_refused : (l : Result reads.Line Refusal) (x : reads.Line) → l ≡ Ok x → number_of (line_answer l) ≡ 0
not_refused l x e = rw e (lines x)
  where
    lines : (x : reads.Line) → number_of (line_answer (Ok x)) ≡ 0
    lines (reads.TheVariants.Yard posts sources dests next) = refl
    lines (reads.TheVariants.Order lane word next) = refl
    lines (reads.TheVariants.Hear lane frame next) = refl
    lines (reads.TheVariants.Beacon lane next) = refl
    lines (reads.TheVariants.Roll next) = refl
