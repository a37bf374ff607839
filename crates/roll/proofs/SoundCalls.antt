-- Proves `CallsSound` of specs/SoundCalls.antt. Assumes nothing.
use mathlib.Core.Path.{◌≡◌, refl, ap, ◌∙◌}
use mathlib.Core.Bool.{Bool, true, false}
use mathlib.Core.List.{List, ◌++◌}
use Prim.Native.Nat.{ℕ}
use lib.Dec.{eqb}
use Rattle.state.specs.Yards.{Yard}
use Rattle.yard.specs.Worlds.{World, order, hear, beacon, singles}
use Rattle.state.specs.States.{whole}
use Rattle.yard.specs.InState.{Here, singles_in}
use Rattle.yard.specs.Sound.{Holds, Does}
use Rattle.yard.proofs.Theorem.{orders_sound, hears_sound, beacons_sound, single_sound, singles_sound}
use Rattle.roll.specs.RollCall.{posts_hear, beacons_sent, posts_hear_beacons, roll_steps, roll_refusal, roll_call, roll_call_air}
use Rattle.roll.specs.Runs.{Step, one, roll, ordered, heard, beaconed, called, answer, step}
use Rattle.roll.specs.Calls.{frames_in, roll_steps_in, ran_in, roll_refusal_in, calls_in, answers_in, step_in}
use Rattle.roll.specs.SoundCalls.{CallsSound}

-- how many frames are on the air
frames_sound : (h : Here) (w : World) → Holds h w → frames_in h.held ≡ w.yard.frames
unfolding frames_in
frames_sound h w s = ap frames_in s.yard

-- the list, of the yard that the state holds
steps_whole : (h : Here) (y : Yard) (ks : List (List ℕ)) → h.held ≡ whole y ks
    → roll_steps_in h.held h.air
    ≡ posts_hear y 8 ++ (beacons_sent y.sources 8 ++ posts_hear_beacons y.present y.sources (frames_in (singles_in h (posts_hear y 8)).held) 8)
unfolding roll_steps_in
steps_whole h y ks e = rw e

steps_sound : (h : Here) (w : World) → Holds h w → roll_steps_in h.held h.air ≡ roll_steps w
unfolding roll_steps
steps_sound h w s =
    let f = frames_sound (singles_in h (posts_hear w.yard 8)) (singles w (posts_hear w.yard 8)) (singles_sound h w (posts_hear w.yard 8) s) in
    steps_whole h w.yard s.knowns s.yard ∙ rw f

refusal_sound : (h : Here) (w : World) → Holds h w → roll_refusal_in h.held h.air ≡ roll_refusal w
unfolding roll_refusal_in
refusal_sound h w s = rw (s.yard, s.bytes)

call_sound : (h : Here) (w : World) → Holds h w → Does (calls_in h.held h.air) (roll_call w).answer (step w roll)
unfolding calls_in ran_in roll_call roll_call_air step
call_sound h w s = go (eqb (roll_refusal w) 0) refl
  where
    go : (b : Bool) → eqb (roll_refusal w) 0 ≡ b → Does (calls_in h.held h.air) (roll_call w).answer (step w roll)
    go true e = rw (refusal_sound h w s, steps_sound h w s, e) (refl, singles_sound h w (roll_steps w) s)
    go false e = rw (refusal_sound h w s, e) (refl, s)

answer_sound : (h : Here) (w : World) (x : Step) → Holds h w → answers_in h x ≡ answer w x
unfolding answers_in answer
answer_sound h w (one (order lane word)) s = ap ordered (orders_sound h w lane word s).0
answer_sound h w (one (hear lane k)) s = ap heard (hears_sound h w lane k s).0
answer_sound h w (one (beacon lane)) s = ap beaconed (beacons_sound h w lane s).0
answer_sound h w roll s = ap called (call_sound h w s).0

step_sound : (h : Here) (w : World) (x : Step) → Holds h w → Holds (step_in h x) (step w x)
unfolding step_in step
step_sound h w (one x) s = single_sound h w x s
step_sound h w roll s = (call_sound h w s).1

pub calls_sound : CallsSound
calls_sound = record {
  list = steps_sound;
  refusal = refusal_sound;
  calls = call_sound;
  answers = answer_sound;
  leaves = step_sound;
}
