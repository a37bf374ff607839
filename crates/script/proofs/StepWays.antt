-- A line's step on a state: what each form's function leaves is what the line asks for. Assumes nothing.
use mathlib.Core.Path.{◌≡◌, refl, ap}
use mathlib.Core.List.{List}
use Prim.Native.Nat.{ℕ, ◌%◌}
use Rattle.steps.specs.Answers.{order_number, hear_number, beacon_number}
use Rattle.steps.specs.OrderAnswer as orders
use Rattle.steps.specs.HearAnswer as hearings
use Rattle.steps.specs.BeaconAnswer as beaconing
use Rattle.told.specs.Told.{order_told, hear_told, beacon_told}
use Rattle.std.specs.Prelude.{Result, Ok, Err}
use Rattle.refusal.specs.declared.Refusal.{Refusal}
use Rattle.refusal.specs.Numbers.{refused_with}
use Rattle.steps.specs.declared.Sent.{Sent}
use Rattle.steps.specs.declared.Hearing as heard
use Rattle.lines.specs.declared.Line as reads
use Rattle.lines.specs.Line.{line_answer, Line, Order, Hear, Beacon, Roll}
use Rattle.state.specs.States.{held_in}
use Rattle.yard.specs.InState.{After, after, orders_in, hears_in, beacons_in, here_in, single_in}
use Rattle.roll.specs.RollAnswer as calling
use Rattle.roll.specs.Answers.{roll_number}
use Rattle.roll.specs.Calls.{calls_in, answers_in, step_in}
use Rattle.meaning.specs.Script.{step_of}
use Rattle.script.specs.Told.{roll_told}
use Rattle.script.specs.OnState.{run_in, refusal_in, told_in}

-- a line that was read, and what it is
pub read_as : (l : Result reads.Line Refusal) (x y : reads.Line) → l ≡ Ok x → x ≡ y → line_answer l ≡ line_answer (Ok y)
read_as l x y e f = rw (e, f)

-- the number that a result was refused with is its answer's
pub order_same : (r : Result Sent Refusal) → refused_with r ≡ order_number (orders.order_answer r)
order_same (Ok sent) = refl
order_same (Err refusal) = refl

pub hear_same : (r : Result heard.Hearing Refusal) → refused_with r ≡ hear_number (hearings.hear_answer r)
hear_same (Ok (heard.TheVariants.Taken count)) = refl
hear_same (Ok (heard.TheVariants.Again count)) = refl
hear_same (Ok (heard.TheVariants.Early count)) = refl
hear_same (Ok (heard.TheVariants.Beacon count)) = refl
hear_same (Err refusal) = refl

pub beacon_same : {A : Type 0} (r : Result A Refusal) → refused_with r ≡ beacon_number (beaconing.beacon_answer r)
beacon_same (Ok _) = refl
beacon_same (Err refusal) = refl

-- what a line's step tells and leaves
abbrev pub LineRan : List ℕ → List ℕ → List ℕ → List ℕ → Line → ℕ → Type 0
LineRan state air state' air' l t =
    (t ≡ told_in (here_in state air) (step_of l))
    × ((t % 256 ≡ refusal_in (here_in state air) (step_of l)) × (here_in state' air' ≡ run_in (here_in state air) (step_of l)))

module _ (state air state' air' : List ℕ) where
  here_of : {A : Type 0} {B : After A} (a : A) → after a state' air' ≡ B → here_in state' air' ≡ record { held = B.held; air = B.air }
  here_of a e = ap (λ s. record { held = s.held; air = s.air }) e

  pub order_ran : (lane word next t : ℕ) (a : orders.OrderAnswer) (l : Line) → l ≡ Order lane word next
      → after a state' air' ≡ orders_in (held_in state) air lane word → t ≡ order_told a → t % 256 ≡ order_number a → LineRan state air state' air' l t
  unfolding answers_in run_in step_in single_in
  order_ran lane word next t a l el e et en =
      let h : a ≡ (orders_in (held_in state) air lane word).answer = ap (λ s. s.answer) e in
      rw el (rw h at et, (rw h at en, here_of a e))

  pub hear_ran : (lane k next t : ℕ) (a : hearings.HearAnswer) (l : Line) → l ≡ Hear lane k next
      → after a state' air' ≡ hears_in (held_in state) air lane k → t ≡ hear_told a → t % 256 ≡ hear_number a → LineRan state air state' air' l t
  unfolding answers_in run_in step_in single_in
  hear_ran lane k next t a l el e et en =
      let h : a ≡ (hears_in (held_in state) air lane k).answer = ap (λ s. s.answer) e in
      rw el (rw h at et, (rw h at en, here_of a e))

  pub beacon_ran : (lane next t : ℕ) (a : beaconing.BeaconAnswer) (l : Line) → l ≡ Beacon lane next
      → after a state' air' ≡ beacons_in (held_in state) air lane → t ≡ beacon_told a → t % 256 ≡ beacon_number a → LineRan state air state' air' l t
  unfolding answers_in run_in step_in single_in
  beacon_ran lane next t a l el e et en =
      let h : a ≡ (beacons_in (held_in state) air lane).answer = ap (λ s. s.answer) e in
      rw el (rw h at et, (rw h at en, here_of a e))

  pub roll_ran : (next t : ℕ) (a : calling.RollAnswer) (l : Line) → l ≡ Roll next
      → after a state' air' ≡ calls_in (held_in state) air → t ≡ roll_told a → t % 256 ≡ roll_number a → LineRan state air state' air' l t
  unfolding answers_in run_in step_in
  roll_ran next t a l el e et en =
      let h : a ≡ (calls_in (held_in state) air).answer = ap (λ s. s.answer) e in
      rw el (rw h at et, (rw h at en, here_of a e))
