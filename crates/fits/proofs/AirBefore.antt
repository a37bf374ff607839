-- What is printed does not depend on the bytes that the air held before, proved: `air_before`. Assumes nothing.
use mathlib.Core.Path.{◌≡◌, refl, ap, ap₂, ◌∙◌}
use mathlib.Core.Bool.{Bool, true, false, cond}
use mathlib.Core.List.{List, [], ◌∷◌, ◌++◌}
use Prim.Native.Nat.{ℕ, ◌+◌}
use native.Mathlib.Omega.{arith}
use lib.Dec.{eqb}
use lib.ListN.{length}
use Rattle.lines.specs.Line.{Line, Yard, Order, Hear, Beacon, Roll, Refused}
use Rattle.lines.specs.Lines.{line_at}
use Rattle.state.specs.Yards.{fresh_yard, yard_refusal, yard_made, FreshYard}
use Rattle.yard.specs.Worlds.{World, Single, order, hear, beacon, single, singles}
use Rattle.state.specs.Yards as yards
use Rattle.yard.specs.Singles.{YardOrdered}
use Rattle.yard.specs.Singles.{YardHeard}
use Rattle.yard.specs.Singles.{YardBeaconed}
use Rattle.roll.specs.RollCall.{RollCalled}
use Rattle.roll.specs.RollCall.{posts_hear, beacons_sent, posts_hear_beacons, roll_steps, roll_refusal, roll_call, roll_call_air}
use Rattle.roll.specs.Runs.{Step, one, roll, ordered, heard, beaconed, called, answer, step, run}
use Rattle.roll.specs.Answers.{answer_number}
use Rattle.meaning.specs.Script.{step_of, yard_of, refusal_of, world_after, refused_lines, script_start, step_lines, script_world, script_text, printout}
use Rattle.fits.specs.AirBefore.{AirBefore}
use Rattle.fits.proofs.AirsAlike.{Alike, either, yard_orders_lem, yard_orders_airs, yard_hears_lem, yard_hears_airs, yard_beacons_lem, yard_beacons_airs}

-- ---- worlds

-- two worlds that no step tells apart
abbrev pub Twins : World → World → Type 0
Twins v w = (v.yard ≡ w.yard) × Alike v.yard.frames v.air w.air

pub single_twins : (v w : World) → Twins v w → (s : Single) → Twins (single v s) (single w s)
unfolding single
single_twins v w t (order lane word) =
    rw (← t.0) (ap (λ (r : YardOrdered). r.yard) (yard_orders_lem v.air w.air v.yard t.1 lane word), yard_orders_airs v.air w.air v.yard t.1 lane word)
single_twins v w t (hear lane k) =
    rw (← t.0) (ap (λ (r : YardHeard). r.yard) (yard_hears_lem v.air w.air v.yard t.1 lane k), yard_hears_airs v.air w.air v.yard t.1 lane k)
single_twins v w t (beacon lane) =
    rw (← t.0) (ap (λ (r : YardBeaconed). r.yard) (yard_beacons_lem v.air w.air v.yard t.1 lane), yard_beacons_airs v.air w.air v.yard t.1 lane)

pub singles_twins : (v w : World) → Twins v w → (l : List Single) → Twins (singles v l) (singles w l)
unfolding singles
singles_twins v w t [] = t
singles_twins v w t (s ∷ l) = singles_twins (single v s) (single w s) (single_twins v w t s) l

-- ---- the roll call, and the steps of a list

-- the list of a roll call, of the yard and the number of its first beacon's frame
abbrev roll_list : yards.Yard → ℕ → List Single
roll_list y from = posts_hear y 8 ++ (beacons_sent y.sources 8 ++ posts_hear_beacons y.present y.sources from 8)

steps_twins : (v w : World) → Twins v w → roll_steps v ≡ roll_steps w
unfolding roll_steps
steps_twins v w t =
    let hearings = posts_hear v.yard 8 in
    let from : (singles v hearings).yard.frames ≡ (singles w (posts_hear w.yard 8)).yard.frames =
    ap (λ (y : yards.Yard). y.frames) (singles_twins v w t hearings).0 ∙ ap (λ (y : yards.Yard). (singles w (posts_hear y 8)).yard.frames) t.0 in
    ap₂ roll_list t.0 from

refusal_roll : (v w : World) → Twins v w → roll_refusal v ≡ roll_refusal w
unfolding roll_refusal
refusal_roll v w t = rw (t.0, t.1.0) refl

call_twins : (v w : World) → Twins v w → roll_call v ≡ roll_call w
unfolding roll_call
call_twins v w t = rw (refusal_roll v w t, steps_twins v w t, (singles_twins v w t (roll_steps w)).0, t.0) refl

call_airs : (v w : World) → Twins v w → Alike (roll_call v).yard.frames (roll_call_air v) (roll_call_air w)
unfolding roll_call roll_call_air
call_airs v w t =
    rw (refusal_roll v w t, steps_twins v w t) (either (λ (r : RollCalled). r.yard.frames) (eqb (roll_refusal w) 0) _ _ _ _ _ _ (singles_twins v w t (roll_steps w)).1 t.1)

pub step_twins : (v w : World) → Twins v w → (s : Step) → (answer v s ≡ answer w s) × Twins (step v s) (step w s)
unfolding answer step
step_twins v w t (one (order lane word)) =
    (rw (← t.0) (ap (λ (r : YardOrdered). ordered r.answer) (yard_orders_lem v.air w.air v.yard t.1 lane word)), single_twins v w t (order lane word))
step_twins v w t (one (hear lane k)) =
    (rw (← t.0) (ap (λ (r : YardHeard). heard r.answer) (yard_hears_lem v.air w.air v.yard t.1 lane k)), single_twins v w t (hear lane k))
step_twins v w t (one (beacon lane)) =
    (rw (← t.0) (ap (λ (r : YardBeaconed). beaconed r.answer) (yard_beacons_lem v.air w.air v.yard t.1 lane)), single_twins v w t (beacon lane))
step_twins v w t roll =
    (ap (λ (r : RollCalled). called r.answer) (call_twins v w t), (ap (λ (r : RollCalled). r.yard) (call_twins v w t), call_airs v w t))

run_twins : (v w : World) → Twins v w → (l : List Step) → Twins (run v l) (run w l)
unfolding run
run_twins v w t [] = t
run_twins v w t (s ∷ l) = run_twins (step v s) (step w s) (step_twins v w t s).1 l

-- ---- a script

-- a line's step is refused on both or on neither
refusal_twins : (v w : World) → Twins v w → (l : List Step) → refusal_of v l ≡ refusal_of w l
refusal_twins v w t [] = refl
refusal_twins v w t (s ∷ l) = ap answer_number (step_twins v w t s).0

lines_twins : (v w : World) → Twins v w → (ls : List Line) → Twins (world_after v ls) (world_after w ls)
unfolding world_after
lines_twins v w t [] = t
lines_twins v w t (l ∷ ls) = lines_twins (run v (step_of l)) (run w (step_of l)) (run_twins v w t (step_of l)) ls

refused_twins : (v w : World) → Twins v w → (n : ℕ) (ls : List Line) → refused_lines v n ls ≡ refused_lines w n ls
unfolding refused_lines
refused_twins v w t n [] = refl
refused_twins v w t n (l ∷ ls) =
    rw (refusal_twins v w t (step_of l), refused_twins (run v (step_of l)) (run w (step_of l)) (run_twins v w t (step_of l)) (n + 1) ls) refl

-- before the first step no frame is on the air
made_no_frame : (present sources dests : ℕ) → (yard_made present sources dests).yard.frames ≡ 0
unfolding yard_made fresh_yard
made_no_frame present sources dests = go (eqb (yard_refusal present sources dests) 0) _ _ refl refl
  where
    go : (t : Bool) (x y : FreshYard) → x.yard.frames ≡ 0 → y.yard.frames ≡ 0 → (cond t x y).yard.frames ≡ 0
    go true x y p q = p
    go false x y p q = q

no_frame_lem : (l : Line) → (yard_of l).frames ≡ 0
no_frame_lem (Yard posts sources dests next) = made_no_frame posts sources dests
no_frame_lem (Order lane word next) = made_no_frame 0 0 0
no_frame_lem (Hear lane frame next) = made_no_frame 0 0 0
no_frame_lem (Beacon lane next) = made_no_frame 0 0 0
no_frame_lem (Roll next) = made_no_frame 0 0 0
no_frame_lem (Refused number) = made_no_frame 0 0 0

module _ (s a b : List ℕ) (e : length a ≡ length b) where
  start_twins : Twins (script_start s a) (script_start s b)
  start_twins = (refl, (e, λ k l r. absurd (omega (arith, no_frame_lem (line_at s 0)))))

  -- the worlds that the script leads to
  pub script_twins : Twins (script_world s a) (script_world s b)
  unfolding script_world
  script_twins = lines_twins (script_start s a) (script_start s b) start_twins (step_lines s)

  -- and what it prints of refused steps
  pub refused_same : refused_lines (script_start s a) 1 (step_lines s) ≡ refused_lines (script_start s b) 1 (step_lines s)
  refused_same = refused_twins (script_start s a) (script_start s b) start_twins 1 (step_lines s)

  text_same : script_text s a ≡ script_text s b
  unfolding script_text
  text_same = rw (refused_same, script_twins.0) refl

  printout_same : printout s a ≡ printout s b
  unfolding printout
  printout_same = rw text_same refl

-- the theorem
pub air_before : AirBefore
air_before = printout_same
