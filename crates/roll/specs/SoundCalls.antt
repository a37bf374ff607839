-- What the roll call and every step on a state have to do with document 01's yard; `calls_sound` in proofs/SoundCalls.antt proves it.
-- Assumes nothing.
use Rattle.std.specs.Prelude.{◌≡◌}
use Rattle.yard.specs.Worlds.{World}
use Rattle.yard.specs.InState.{Here}
use Rattle.yard.specs.Sound.{Holds, Does}
use Rattle.roll.specs.RollCall.{roll_steps, roll_refusal, roll_call}
use Rattle.roll.specs.Runs.{Step, roll, answer, step}
use Rattle.roll.specs.Calls.{roll_steps_in, roll_refusal_in, calls_in, answers_in, step_in}

-- on a state that holds a world
pub record CallsSound : Type 0 where
  -- the roll call's list and its refusal are those in the yard
  pub list : (h : Here) (w : World) → Holds h w → roll_steps_in h.held h.air ≡ roll_steps w
  pub refusal : (h : Here) (w : World) → Holds h w → roll_refusal_in h.held h.air ≡ roll_refusal w
  -- it answers and leaves what the roll call in the yard does
  pub calls : (h : Here) (w : World) → Holds h w → Does (calls_in h.held h.air) (roll_call w).answer (step w roll)
  -- and so does every step, whatever its arguments
  pub answers : (h : Here) (w : World) (s : Step) → Holds h w → answers_in h s ≡ answer w s
  pub leaves : (h : Here) (w : World) (s : Step) → Holds h w → Holds (step_in h s) (step w s)
