-- Document 01's number for each answer of a step. Assumes nothing.
use Rattle.std.specs.Prelude.{ℕ}
use Rattle.steps.specs.Answers.{order_number, hear_number, beacon_number}
use Rattle.roll.specs.RollAnswer as calling
use Rattle.roll.specs.Runs.{Answer, ordered, heard, beaconed, called}

-- the refusal's number, or 0
abbrev pub roll_number : calling.RollAnswer → ℕ
roll_number (calling.Called count) = 0
roll_number (calling.Refused number) = number

-- the number of any answer
abbrev pub answer_number : Answer → ℕ
answer_number (ordered a) = order_number a
answer_number (heard a) = hear_number a
answer_number (beaconed a) = beacon_number a
answer_number (called a) = roll_number a
