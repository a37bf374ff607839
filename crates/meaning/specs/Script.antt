-- What a script prints and what it leaves on the air: document 01, "Script and printout". Assumes nothing.
use Rattle.std.specs.Prelude.{ℕ, ◌+◌, cond, not, List, [], ◌∷◌, ◌++◌, eqb, length}
use Rattle.text.specs.Decimal.{given}
use Rattle.lines.specs.Line.{Line, Yard, Order, Hear, Beacon, Roll, Refused}
use Rattle.lines.specs.Lines.{line_at, next_of, lines_from, judged}
use Rattle.state.specs.Yards as yards
use Rattle.state.specs.Yards.{yard_made}
use Rattle.yard.specs.Worlds.{World, order, hear, beacon}
use Rattle.roll.specs.Runs.{Step, one, roll, answer, run}
use Rattle.roll.specs.Answers.{answer_number}
use Rattle.meaning.specs.Texts.{bad_text, refused_text, posts_text}

-- the step that a line asks for; the yard line asks for none
abbrev pub step_of : Line → List Step
step_of (Yard posts sources dests next) = []
step_of (Order lane word next) = one (order lane word) ∷ []
step_of (Hear lane frame next) = one (hear lane frame) ∷ []
step_of (Beacon lane next) = one (beacon lane) ∷ []
step_of (Roll next) = roll ∷ []
step_of (Refused number) = []

-- the fresh yard that line 1 asks for
abbrev pub yard_of : Line → yards.Yard
yard_of (Yard posts sources dests next) = (yard_made posts sources dests).yard
yard_of (Order lane word next) = (yard_made 0 0 0).yard
yard_of (Hear lane frame next) = (yard_made 0 0 0).yard
yard_of (Beacon lane next) = (yard_made 0 0 0).yard
yard_of (Roll next) = (yard_made 0 0 0).yard
yard_of (Refused number) = (yard_made 0 0 0).yard

-- the number that a step is refused by, or 0; where there is no step, nothing is refused
abbrev pub refusal_of : World → List Step → ℕ
refusal_of w [] = 0
refusal_of w (s ∷ l) = answer_number (answer w s)

-- the lines' steps run one after another: the world after them
unfoldable pub world_after : World → List Line → World
world_after w [] = w
world_after w (l ∷ ls) = world_after (run w (step_of l)) ls

-- "each refused one prints `(refused LINE NUMBER)`"; the lines follow line n
unfoldable pub refused_lines : World → ℕ → List Line → List ℕ
refused_lines w n [] = []
refused_lines w n (l ∷ ls) =
    given (not (eqb (refusal_of w (step_of l)) 0)) (refused_text (n + 1) (refusal_of w (step_of l)))
    ++ refused_lines (run w (step_of l)) (n + 1) ls

-- ---- a script that is not refused: line 1 makes the yard, the lines after it are its steps

abbrev pub script_start : List ℕ → List ℕ → World
script_start s air = record { yard = yard_of (line_at s 0); air = air }

abbrev pub step_lines : List ℕ → List Line
step_lines s = lines_from s (next_of s (line_at s 0)) (length s)

unfoldable pub script_world : List ℕ → List ℕ → World
script_world s air = world_after (script_start s air) (step_lines s)

-- "all steps run; each refused one prints ..; then the posts print a line each"
unfoldable pub script_text : List ℕ → List ℕ → List ℕ
script_text s air = refused_lines (script_start s air) 1 (step_lines s) ++ posts_text (script_world s air).yard 8

-- ---- any script

-- "A script refused by 1–5 prints only `(bad LINE NUMBER)` for its first bad line"
unfoldable pub printout : List ℕ → List ℕ → List ℕ
printout s air = cond (eqb (judged s).number 0) (script_text s air) (bad_text (judged s).line (judged s).number)

-- the air that it leaves: as it was where the script is refused
unfoldable pub air_after : List ℕ → List ℕ → List ℕ
air_after s air = cond (eqb (judged s).number 0) (script_world s air).air air
