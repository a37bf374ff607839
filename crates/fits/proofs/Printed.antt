-- The logs that a script prints are those of a run that demand 3 speaks of, proved: `printed`, `written_runs`. Assumes nothing.
use Prim.Native.Nat.{ℕ, ◌+◌}
use mathlib.Core.Path.{◌≡◌, refl, sym, ap, ap₂, ◌∙◌}
use mathlib.Core.List.{List, [], ◌∷◌, ◌++◌}
use native.Mathlib.Omega.{arith}
use lib.ListN.{length}
use Rattle.lines.specs.Line.{Line, Yard, Order, Hear, Beacon, Roll, Refused}
use Rattle.lines.specs.Lines.{line_at, number_of}
use Rattle.roll.specs.Runs.{run}
use Rattle.state.specs.Yards.{yard_refusal}
use Rattle.yard.specs.Worlds.{World}
use Rattle.meaning.specs.Script.{step_of, world_after, script_start, step_lines, script_world}
use Rattle.written.specs.Written.{line_text}
use Rattle.written.specs.WholeScripts.{text_of, followed_at, laid}
use Rattle.written.proofs.LineLists.{lines_more}
use Rattle.written.proofs.WholeScripts.{judged_passed, whole_scripts}
use Rattle.agreement.specs.Demand3 as demand
use Rattle.agreement.specs.YardFacts.{YardFacts}
use Rattle.agreement.proofs.Theorem.{agreement, facts}
use Rattle.fits.specs.Printed.{steps_of, Printed, WrittenRuns}
use Rattle.fits.proofs.LineLengths.{accepted}
use Rattle.fits.proofs.FirstLine.{yard_accepted, yard_made_lem, accepted_first}
use Rattle.fits.proofs.Runs.{after_run}

module _ (s air : List ℕ) where
  -- the steps run on the yard of the first line, made fresh
  script_runs : (posts sources dests next : ℕ) → line_at s 0 ≡ Yard posts sources dests next
      → script_world s air ≡ run (demand.fresh_world posts sources dests air) (steps_of (step_lines s))
  unfolding script_world
  script_runs posts sources dests next e =
      let r = (accepted s 0 (Yard posts sources dests next) e refl).0 in
      let made : script_start s air ≡ demand.fresh_world posts sources dests air = rw (e, yard_made_lem posts sources dests r.1 r.5 r.6) refl in
      ap (λ (w : World). world_after w (step_lines s)) made ∙ after_run (demand.fresh_world posts sources dests air) (step_lines s)

  -- what is said of the first line
  FromYard : Type 0
  FromYard =
      (posts : ℕ) × (sources : ℕ) × (dests : ℕ) × (next : ℕ)
      × (line_at s 0 ≡ Yard posts sources dests next)
      × (yard_refusal posts sources dests ≡ 0)
      × (script_world s air ≡ run (demand.fresh_world posts sources dests air) (steps_of (step_lines s)))
      × demand.Demand3 posts sources dests (demand.fresh_world posts sources dests air)
      × YardFacts (demand.fresh_world posts sources dests air)

  from_yard : (posts sources dests next : ℕ) → line_at s 0 ≡ Yard posts sources dests next → FromYard
  unfolding FromYard
  from_yard posts sources dests next e =
      let r = (accepted s 0 (Yard posts sources dests next) e refl).0 in
      let good = yard_accepted posts sources dests r.1 r.5 r.6 in (
        posts,
        sources,
        dests,
        next,
        e,
        good,
        script_runs posts sources dests next e,
        agreement posts sources dests air r.2 r.3 r.4 good,
        facts posts sources dests air r.2 r.3 r.4 good,
      )

  -- no other line can be the first
  from_line : (l : Line) → line_at s 0 ≡ l → number_of l ≡ 0 → FromYard
  from_line (Yard posts sources dests next) e y = from_yard posts sources dests next e
  from_line (Order lane word next) e y = absurd (omega (arith, (accepted s 0 (Order lane word next) e y).0.0))
  from_line (Hear lane frame next) e y = absurd (omega (arith, (accepted s 0 (Hear lane frame next) e y).0.0))
  from_line (Beacon lane next) e y = absurd (omega (arith, (accepted s 0 (Beacon lane next) e y).0.0))
  from_line (Roll next) e y = absurd (omega (arith, (accepted s 0 (Roll next) e y).0))
  from_line (Refused number) e y = absurd (accepted s 0 (Refused number) e y).0

-- the theorem
pub printed : Printed
unfolding FromYard
printed s air z = from_line s air (line_at s 0) refl (accepted_first s z)

-- ---- a script that is written

-- two lists of lines with a first line: the same first line, and the same others
pub same_parts : (a b : Line) (l m : List Line) → a ∷ l ≡ b ∷ m → (a ≡ b) × (l ≡ m)
same_parts a b l m e = (ap first e, ap others e)
  where
    first : List Line → Line
    first [] = a
    first (x ∷ ls) = x

    others : List Line → List Line
    others [] = []
    others (x ∷ ls) = ls

-- where the next line begins is nothing to a step
step_laid : (next : ℕ) (l : Line) → step_of (followed_at next l) ≡ step_of l
step_laid next (Yard posts sources dests before) = refl
step_laid next (Order lane word before) = refl
step_laid next (Hear lane frame before) = refl
step_laid next (Beacon lane before) = refl
step_laid next (Roll before) = refl
step_laid next (Refused number) = refl

steps_laid : (at : ℕ) (ls : List Line) → steps_of (laid at ls) ≡ steps_of ls
unfolding steps_of laid
steps_laid at [] = refl
steps_laid at (l ∷ ls) = ap₂ ◌++◌ (step_laid (at + length (line_text l)) l) (steps_laid (at + length (line_text l)) ls)

pub written_runs : WrittenRuns
unfolding laid
written_runs posts sources dests next steps air r rs b =
    let yard = Yard posts sources dests next in
    let s = text_of (yard ∷ steps) in
    let end = 0 + length (line_text yard) in
    let w = whole_scripts.reads yard steps r rs b in
    let e = same_parts (line_at s 0) (followed_at end yard) (step_lines s) (laid end steps) (sym (lines_more s 0 (judged_passed s w.0).1) ∙ w.1) in
    script_runs s air posts sources dests end e.0 ∙ ap (run (demand.fresh_world posts sources dests air)) (ap steps_of e.1 ∙ steps_laid end steps)
