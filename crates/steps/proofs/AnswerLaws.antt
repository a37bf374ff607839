-- What a step's answer tells: document 01's number and values. Assumes nothing.
use mathlib.Core.Path.{◌≡◌, refl, sym}
use mathlib.Core.Bool.{Bool, true, false}
use mathlib.Core.List.{List}
use Prim.Native.Nat.{ℕ}
use lib.Dec.{leb, eqb}
use borrow.Author.Tests.{eqb-true}
use Rattle.frame.specs.declared.Frame.{Frame}
use Rattle.post.specs.declared.Post.{Post}
use Rattle.post.specs.Record.{last_of}
use Rattle.post.specs.Taking.{kept, ticked, own_taken}
use Rattle.deliver.specs.Known.{delivered_from}
use Rattle.steps.specs.Refusals.{is_order, is_next, order_refusal, hear_refusal, beacon_refusal}
use Rattle.steps.specs.Steps.{beacon_step}
use Rattle.steps.specs.Answers.{order_number, hear_number, beacon_number}
use Rattle.steps.specs.Values.{order_serial, order_stamp, order_count, order_step_serial, order_step_stamp, hear_count}
use Rattle.steps.specs.Knowing.{orders_by, order_count_by, hear_took, passed_answer, hears_by, hear_count_by}
use Rattle.steps.specs.OrderAnswer.{OrderAnswer}
use Rattle.steps.specs.HearAnswer.{HearAnswer}

-- an order's number, serial, stamp and count
abbrev pub OrderAnswers : List ℕ → Post → ℕ → OrderAnswer → Type 0
OrderAnswers known p word a =
    (order_number a ≡ order_refusal p)
    × ((order_serial a ≡ order_step_serial p) × ((order_stamp a ≡ order_step_stamp p) × (order_count a ≡ order_count_by known p word)))

pub order_answers : (known : List ℕ) (p : Post) (word : ℕ) → OrderAnswers known p word (orders_by known p word).answer
unfolding orders_by order_step_serial order_step_stamp order_count_by own_taken kept ticked
order_answers known p word = go (eqb (order_refusal p) 0) refl
  where
    go : (b : Bool) → eqb (order_refusal p) 0 ≡ b → OrderAnswers known p word (orders_by known p word).answer
    go true e = rw e (sym (eqb-true (order_refusal p) 0 e), (refl, (refl, refl)))
    go false e = rw e (refl, (refl, (refl, refl)))

-- a hearing's number and count
abbrev pub HearAnswers : List ℕ → Post → Frame → HearAnswer → Type 0
HearAnswers known p f a = (hear_number a ≡ hear_refusal p f) × (hear_count a ≡ hear_count_by known p f)

passed_values : (f : Frame) (last count : ℕ) → (hear_number (passed_answer f last count) ≡ 0) × (hear_count (passed_answer f last count) ≡ count)
passed_values f last count = go (is_next f last) (is_order f) (leb f.serial.0 last) refl refl refl
  where
    go : (n o l : Bool) → is_next f last ≡ n → is_order f ≡ o → leb f.serial.0 last ≡ l
        → (hear_number (passed_answer f last count) ≡ 0) × (hear_count (passed_answer f last count) ≡ count)
    go true o l i e s = rw i (refl, refl)
    go false true true i e s = rw (i, e, s) (refl, refl)
    go false true false i e s = rw (i, e, s) (refl, refl)
    go false false l i e s = rw (i, e) (refl, refl)

pub hear_answers : (known : List ℕ) (p : Post) (f : Frame) → HearAnswers known p f (hears_by known p f).answer
unfolding hears_by hear_count_by
hear_answers known p f = go (eqb (hear_refusal p f) 0) refl
  where
    go : (b : Bool) → eqb (hear_refusal p f) 0 ≡ b → HearAnswers known p f (hears_by known p f).answer
    go true e =
        let v = passed_values f (last_of p f.lane) (delivered_from known (hear_took p f)).count in
        rw (e, eqb-true (hear_refusal p f) 0 e) v
    go false e = rw e (refl, refl)

-- a beacon's number
pub beacon_number_lem : (p : Post) → beacon_number (beacon_step p).answer ≡ beacon_refusal p
unfolding beacon_step
beacon_number_lem p = go (eqb (beacon_refusal p) 0) refl
  where
    go : (b : Bool) → eqb (beacon_refusal p) 0 ≡ b → beacon_number (beacon_step p).answer ≡ beacon_refusal p
    go true e = rw e (sym (eqb-true (beacon_refusal p) 0 e))
    go false e = rw e
