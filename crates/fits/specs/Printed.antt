-- The logs that a script prints are those of a run that demand 3 speaks of: the statement. Assumes nothing.
use Rattle.std.specs.Prelude.{ℕ, ◌≤◌, ◌≡◌, List, [], ◌∷◌, ◌++◌, length}
use Rattle.lines.specs.Line.{Line, Yard}
use Rattle.lines.specs.Lines.{line_at, judged}
use Rattle.written.specs.Written.{Right}
use Rattle.written.specs.WholeScripts.{text_of, RightSteps}
use Rattle.state.specs.Yards.{yard_refusal}
use Rattle.roll.specs.Runs.{Step, run}
use Rattle.agreement.specs.Demand3.{Demand3, fresh_world}
use Rattle.agreement.specs.YardFacts.{YardFacts}
use Rattle.meaning.specs.Script.{step_of, step_lines, script_world}

-- the steps of some lines
unfoldable pub steps_of : List Line → List Step
steps_of [] = []
steps_of (l ∷ ls) = step_of l ++ steps_of ls

-- the yard of an accepted script's first line is not refused, the script runs its steps on that yard, made fresh, and
-- demand 3 holds of it, and what else holds of every yard
abbrev pub Printed : Type 0
Printed = (s air : List ℕ) → (judged s).number ≡ 0 →
    (posts : ℕ) × (sources : ℕ) × (dests : ℕ) × (next : ℕ)
    × (line_at s 0 ≡ Yard posts sources dests next)
    × (yard_refusal posts sources dests ≡ 0)
    × (script_world s air ≡ run (fresh_world posts sources dests air) (steps_of (step_lines s)))
    × Demand3 posts sources dests (fresh_world posts sources dests air)
    × YardFacts (fresh_world posts sources dests air)

-- a yard line and steps, each as it may stand, written one after another within 48,000 bytes: that script runs these steps on that yard, made fresh
abbrev pub WrittenRuns : Type 0
WrittenRuns = (posts sources dests next : ℕ) (steps : List Line) (air : List ℕ) → Right 0 (Yard posts sources dests next) → RightSteps steps
    → length (text_of (Yard posts sources dests next ∷ steps)) ≤ 48000
    → script_world (text_of (Yard posts sources dests next ∷ steps)) air ≡ run (fresh_world posts sources dests air) (steps_of steps)
