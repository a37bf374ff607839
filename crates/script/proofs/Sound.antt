-- A script's lines on a state that holds a world do what they do in that world. Assumes nothing.
use mathlib.Core.Path.{◌≡◌, refl, ap, ◌∙◌}
use mathlib.Core.List.{List, [], ◌∷◌}
use Prim.Native.Nat.{ℕ, ◌+◌}
use Rattle.lines.specs.Line.{Line}
use Rattle.yard.specs.Worlds.{World}
use Rattle.state.specs.States.{whole}
use Rattle.yard.specs.InState.{Here}
use Rattle.yard.specs.Sound.{Holds}
use Rattle.roll.specs.Calls.{step_in}
use Rattle.roll.specs.Runs.{Step, step, run}
use Rattle.roll.specs.Answers.{answer_number}
use Rattle.roll.proofs.SoundCalls.{calls_sound}
use Rattle.meaning.specs.Script.{step_of, refusal_of, world_after, refused_lines}
use Rattle.script.specs.Told.{answer_told, line_told, last_told}
use Rattle.script.specs.OnState.{run_in, refusal_in, told_in, here_after, refused_in, last_in, knowns_of}

-- steps
pub runs_hold : (h : Here) (w : World) (l : List Step) → Holds h w → Holds (run_in h l) (run w l)
unfolding run_in run
runs_hold h w [] e = e
runs_hold h w (s ∷ l) e = runs_hold (step_in h s) (step w s) l (calls_sound.leaves h w s e)

refusal_same : (h : Here) (w : World) (l : List Step) → Holds h w → refusal_in h l ≡ refusal_of w l
refusal_same h w [] e = refl
refusal_same h w (s ∷ l) e = ap answer_number (calls_sound.answers h w s e)

told_same : (h : Here) (w : World) (l : List Step) → Holds h w → told_in h l ≡ line_told w l
told_same h w [] e = refl
told_same h w (s ∷ l) e = ap answer_told (calls_sound.answers h w s e)

-- lines
pub lines_hold : (h : Here) (w : World) (ls : List Line) → Holds h w → Holds (here_after h ls) (world_after w ls)
unfolding here_after world_after
lines_hold h w [] e = e
lines_hold h w (l ∷ ls) e = lines_hold (run_in h (step_of l)) (run w (step_of l)) ls (runs_hold h w (step_of l) e)

pub refused_same : (h : Here) (w : World) (n : ℕ) (ls : List Line) → Holds h w → refused_in h n ls ≡ refused_lines w n ls
unfolding refused_in refused_lines
refused_same h w n [] e = refl
refused_same h w n (l ∷ ls) e =
    let rest = refused_same (run_in h (step_of l)) (run w (step_of l)) (n + 1) ls (runs_hold h w (step_of l) e) in
    rw (refusal_same h w (step_of l) e, rest)

pub last_same : (h : Here) (w : World) (t : ℕ) (ls : List Line) → Holds h w → last_in h t ls ≡ last_told w t ls
unfolding last_in last_told
last_same h w t [] e = refl
last_same h w t (l ∷ ls) e =
    let rest = last_same (run_in h (step_of l)) (run w (step_of l)) (told_in h (step_of l)) ls (runs_hold h w (step_of l) e) in
    rest ∙ ap (λ (x : ℕ). last_told (run w (step_of l)) x ls) (told_same h w (step_of l) e)

-- a world that is held: its yard with what is known, and its air
pub held_is : (h : Here) (w : World) → Holds h w → h ≡ record { held = whole w.yard (knowns_of h.held); air = w.air }
unfolding knowns_of
held_is h w e = rw (e.yard, e.bytes)
