-- What running a script on a lent state answers and leaves: the state holds the yard after the last line. Assumes nothing.
use Rattle.std.specs.Prelude.{ℕ, Bool, cond, not, ◌&&◌, List, eqb, length}
use Rattle.lines.specs.Lines.{judged}
use Rattle.state.specs.States.{Held, whole, held_in}
use Rattle.meaning.specs.Script.{script_start, step_lines, script_world}
use Rattle.script.specs.Told.{no_step, bad_script, bad_state, last_told}
use Rattle.script.specs.OnState.{script_knowns}

-- a state has 4,483 cells
abbrev pub good_state : List ℕ → Bool
good_state state = eqb (length state) 4483

-- the answer of the last line, told as one number; a state of another length, then a script that is refused by 1 to 5, are told apart
unfoldable pub state_told : List ℕ → List ℕ → List ℕ → ℕ
state_told s air state =
    cond (not (good_state state)) bad_state
    (cond (eqb (judged s).number 0) (last_told (script_start s air) no_step (step_lines s)) (bad_script (judged s).line (judged s).number))

-- the steps run
abbrev pub runs : List ℕ → List ℕ → Bool
runs s state = good_state state && eqb (judged s).number 0

-- the state then holds the yard, with what its posts know of their logs
unfoldable pub state_held : List ℕ → List ℕ → List ℕ → Held
state_held s air state = cond (runs s state) (whole (script_world s air).yard (script_knowns s air)) (held_in state)

-- the air that the steps leave
unfoldable pub state_air : List ℕ → List ℕ → List ℕ → List ℕ
state_air s air state = cond (runs s state) (script_world s air).air air
