-- The value of a roll call's answer, and what it is: document 01, "Roll call". Assumes nothing.
use Rattle.std.specs.Prelude.{ℕ, cond, List, eqb, length}
use Rattle.state.specs.States.{Held}
use Rattle.roll.specs.RollAnswer as calling
use Rattle.roll.specs.Calls.{roll_steps_in, roll_refusal_in}

-- the number of single steps that were run
abbrev pub roll_count : calling.RollAnswer → ℕ
roll_count (calling.Called count) = count
roll_count (calling.Refused number) = 0

-- "and returns the length of the list": 0 where it is refused
unfoldable pub roll_count_in : Held → List ℕ → ℕ
roll_count_in held air = cond (eqb (roll_refusal_in held air) 0) (length (roll_steps_in held air)) 0
