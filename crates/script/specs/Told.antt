-- The answer of a script's last line as one number: told of `told`, for a roll call, for no step, and for what runs nothing. Assumes nothing.
use Rattle.std.specs.Prelude.{ℕ, ◌%◌, List, [], ◌∷◌}
use Rattle.told.specs.Told.{told, order_told, hear_told, beacon_told}
use Rattle.roll.specs.RollAnswer as calling
use Rattle.roll.specs.Answers.{roll_number}
use Rattle.roll.specs.Values.{roll_count}
use Rattle.roll.specs.Runs.{Step, Answer, ordered, heard, beaconed, called, answer, run}
use Rattle.yard.specs.Worlds.{World}
use Rattle.lines.specs.Line.{Line}
use Rattle.meaning.specs.Script.{step_of}

-- code 8, a roll call that ran, with the number of its single steps (in a yard at most 960); 0, refused
abbrev pub roll_code : calling.RollAnswer → ℕ
roll_code (calling.Called count) = 8
roll_code (calling.Refused number) = 0

abbrev pub roll_told : calling.RollAnswer → ℕ
roll_told a = told (roll_number a) (roll_code a) 0 0 0 (roll_count a % 65536)

-- the answer of any step
abbrev pub answer_told : Answer → ℕ
answer_told (ordered a) = order_told a
answer_told (heard a) = hear_told a
answer_told (beaconed a) = beacon_told a
answer_told (called a) = roll_told a

-- code 7, no step: the yard line asks for none
abbrev pub no_step : ℕ
no_step = told 0 7 0 0 0 0

-- code 9, a script that is refused by 1 to 5: the number, and the line above the stamp's bits; code 10, a state of another length
abbrev pub bad_script : ℕ → ℕ → ℕ
bad_script line number = told number 9 0 0 0 line

abbrev pub bad_state : ℕ
bad_state = told 12 10 0 0 0 0

-- what a line's step answers in a world
abbrev pub line_told : World → List Step → ℕ
line_told w [] = no_step
line_told w (s ∷ l) = answer_told (answer w s)

-- what the last of some lines answers, in the world that the lines before it left; t where there are none
unfoldable pub last_told : World → ℕ → List Line → ℕ
last_told w t [] = t
last_told w t (l ∷ ls) = last_told (run w (step_of l)) (line_told w (step_of l)) ls
