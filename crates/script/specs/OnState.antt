-- A script's lines run on a state, any cells and any air: what each line answers, and what they leave. Assumes nothing.
use Rattle.std.specs.Prelude.{ℕ, ◌+◌, not, List, [], ◌∷◌, ◌++◌, eqb, length}
use Rattle.text.specs.Decimal.{given}
use Rattle.lines.specs.Line.{Line, Yard, Order, Hear, Beacon, Roll, Refused}
use Rattle.lines.specs.Lines.{line_at, lines_from}
use Rattle.state.specs.States.{Held, whole, other}
use Rattle.state.specs.Fresh.{nothing_known}
use Rattle.yard.specs.InState.{Here}
use Rattle.roll.specs.Runs.{Step}
use Rattle.roll.specs.Answers.{answer_number}
use Rattle.roll.specs.Calls.{answers_in, step_in}
use Rattle.meaning.specs.Texts.{refused_text}
use Rattle.meaning.specs.Script.{step_of, yard_of, step_lines}
use Rattle.script.specs.declared.Sets.{Sets}
use Rattle.script.specs.Told.{answer_told, no_step}

-- steps run one after another
unfoldable pub run_in : Here → List Step → Here
run_in h [] = h
run_in h (s ∷ l) = run_in (step_in h s) l

-- the number that a line's step is refused by, or 0, and its whole answer
abbrev pub refusal_in : Here → List Step → ℕ
refusal_in h [] = 0
refusal_in h (s ∷ l) = answer_number (answers_in h s)

abbrev pub told_in : Here → List Step → ℕ
told_in h [] = no_step
told_in h (s ∷ l) = answer_told (answers_in h s)

-- after all lines: what the state holds, the lines of refused steps, which follow line n, and the last answer
unfoldable pub here_after : Here → List Line → Here
here_after h [] = h
here_after h (l ∷ ls) = here_after (run_in h (step_of l)) ls

unfoldable pub refused_in : Here → ℕ → List Line → List ℕ
refused_in h n [] = []
refused_in h n (l ∷ ls) =
    given (not (eqb (refusal_in h (step_of l)) 0)) (refused_text (n + 1) (refusal_in h (step_of l))) ++ refused_in (run_in h (step_of l)) (n + 1) ls

unfoldable pub last_in : Here → ℕ → List Line → ℕ
last_in h t [] = t
last_in h t (l ∷ ls) = last_in (run_in h (step_of l)) (told_in h (step_of l)) ls

-- the lines from a place on
abbrev pub rest : List ℕ → ℕ → List Line
rest s from = lines_from s from (length s)

-- ---- a script that is not refused

-- line 1 makes a fresh yard, of which nothing is known
abbrev pub script_here : List ℕ → List ℕ → Here
script_here s air = record { held = whole (yard_of (line_at s 0)) nothing_known; air = air }

-- what the posts know of their logs
unfoldable pub knowns_of : Held → List (List ℕ)
knowns_of (whole y knowns) = knowns
knowns_of (other cells) = []

-- after its last line
unfoldable pub script_knowns : List ℕ → List ℕ → List (List ℕ)
script_knowns s air = knowns_of (here_after (script_here s air) (step_lines s)).held

-- ---- for contracts of private functions: the sets of lanes that line 1 asks for
abbrev pub sets_of : Line → Sets
sets_of (Yard posts sources dests next) = record { present = posts; sources = sources; dests = dests }
sets_of (Order lane word next) = record { present = 0; sources = 0; dests = 0 }
sets_of (Hear lane frame next) = record { present = 0; sources = 0; dests = 0 }
sets_of (Beacon lane next) = record { present = 0; sources = 0; dests = 0 }
sets_of (Roll next) = record { present = 0; sources = 0; dests = 0 }
sets_of (Refused number) = record { present = 0; sources = 0; dests = 0 }
