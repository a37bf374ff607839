-- The roll call on a state: any cells, any air. Where what the posts know of their logs is so, it is that of RollCall.antt (SoundCalls.antt).
-- Assumes nothing.
use Rattle.std.specs.Prelude.{ℕ, cond, List, [], ◌++◌, eqb, length}
use Rattle.state.specs.Yards.{Yard, post_at}
use Rattle.yard.specs.Worlds.{Single, order, hear, beacon, world_of}
use Rattle.state.specs.States.{Held, whole, other}
use Rattle.yard.specs.InState.{After, orders_in, hears_in, beacons_in, Here, single_in, singles_in}
use Rattle.roll.specs.RollCall.{lane_hears, posts_hear, beacons_sent, posts_hear_beacons, roll_refusal}
use Rattle.roll.specs.Runs.{Step, one, roll, Answer, ordered, heard, beaconed, called}
use Rattle.roll.specs.RollAnswer as calling

-- ---- the list

-- how many frames are on the air; none where there is no yard
unfoldable pub frames_in : Held → ℕ
frames_in (whole y knowns) = y.frames
frames_in (other cells) = 0

-- the list of `roll_steps`, in the state and air that the call finds; no steps where there is no yard
unfoldable pub roll_steps_in : Held → List ℕ → List Single
roll_steps_in (other cells) air = []
roll_steps_in (whole y knowns) air =
    let hearings = posts_hear y 8 in
    let from = frames_in (singles_in (record { held = whole y knowns; air = air }) hearings).held in
    hearings ++ (beacons_sent y.sources 8 ++ posts_hear_beacons y.present y.sources from 8)

-- a part of it, which the loops run: what post p hears of lane q
abbrev pub lane_heard : Yard → ℕ → ℕ → List Single
lane_heard y p q = cond (eqb q p) [] (lane_hears y.first p q (post_at y q).serial.0)

-- what running a list of single steps leaves, and how many they are
unfoldable pub ran_in : Here → List Single → After ℕ
ran_in h l = record { answer = length l; held = (singles_in h l).held; air = (singles_in h l).air }

-- ---- the call

-- 12 for a state of another length; 13; 27
unfoldable pub roll_refusal_in : Held → List ℕ → ℕ
roll_refusal_in (other cells) air = 12
roll_refusal_in (whole y knowns) air = roll_refusal (world_of y air)

-- "It does what this list of single steps does, run one after another, and returns the length of the list"
unfoldable pub calls_in : Held → List ℕ → After calling.RollAnswer
calls_in held air =
    let number = roll_refusal_in held air in
    let ran = ran_in (record { held = held; air = air }) (roll_steps_in held air) in
    cond (eqb number 0) (record { answer = calling.Called ran.answer; held = ran.held; air = ran.air })
    (record { answer = calling.Refused number; held = held; air = air })

-- ---- a step, single or a roll call

-- what it answers
unfoldable pub answers_in : Here → Step → Answer
answers_in h (one (order lane word)) = ordered (orders_in h.held h.air lane word).answer
answers_in h (one (hear lane k)) = heard (hears_in h.held h.air lane k).answer
answers_in h (one (beacon lane)) = beaconed (beacons_in h.held h.air lane).answer
answers_in h roll = called (calls_in h.held h.air).answer

-- what it leaves
unfoldable pub step_in : Here → Step → Here
step_in h (one s) = single_in h s
step_in h roll = record { held = (calls_in h.held h.air).held; air = (calls_in h.held h.air).air }
