-- The number that an answer gives is the refusal's, or 0; its values are those of the step, or 0. Assumes nothing.
use mathlib.Core.Path.{◌≡◌, refl, sym, ◌∙◌}
use mathlib.Core.Bool.{Bool, true, false, cond}
use mathlib.Core.List.{List}
use Prim.Native.Nat.{ℕ}
use native.Mathlib.Omega.{arith}
use lib.Dec.{eqb, leb}
use borrow.Author.Tests.{eq-eqb, eqb-true, eqb-false}
use Rattle.frame.specs.declared.Frame.{Frame}
use Rattle.frame.specs.Layout.{frame_of}
use Rattle.frame.specs.Refusals.{bad_length, read_refusal}
use Rattle.frame.proofs.Laws.{passed}
use Rattle.post.specs.declared.Post.{Post}
use Rattle.post.specs.Record.{last_of}
use Rattle.post.specs.Taking.{own_taken, kept, ticked, raised_post, taken}
use Rattle.deliver.specs.Delivery.{delivered}
use Rattle.judge.specs.Judgement.{bad_record}
use Rattle.steps.specs.Answers.{order_number, hear_number, beacon_number}
use Rattle.steps.specs.Values.{order_serial, order_stamp, order_count, hear_count}
use Rattle.steps.specs.Refusals.{is_order, is_next, hear_refusal}
use Rattle.steps.specs.Steps.{order_sent, hear_taken, other_answer, hear_other, hear_step}
use Rattle.steps.specs.OrderAnswer as orders
use Rattle.steps.specs.HearAnswer as hearings
use Rattle.single.specs.Single.{order_refusal_singly, order_singly, order_serial_singly, order_stamp_singly, order_count_singly, hear_refusal_singly, hear_singly, hear_count_singly, beacon_refusal_singly, beacon_singly}
use Rattle.single.specs.Outcomes.{Ordered, Heard}

-- an order that is sent answers 0
sent_number : (p : Post) (word : ℕ) → order_number (order_sent p word).answer ≡ 0
unfolding order_sent
sent_number p word = refl

order_number_lem : (p : Post) (word : ℕ) (buffer : List ℕ) → order_number (order_singly p word buffer).answer ≡ order_refusal_singly p buffer
unfolding order_singly
order_number_lem p word buffer = go (eqb (order_refusal_singly p buffer) 0) refl
  where
    go : (b : Bool) → eqb (order_refusal_singly p buffer) 0 ≡ b → order_number (order_singly p word buffer).answer ≡ order_refusal_singly p buffer
    go true e = rw (e, sent_number p word) (sym (eqb-true (order_refusal_singly p buffer) 0 e))
    go false e = rw e

-- so does a hearing that is not refused
heard_number : (p : Post) (f : Frame) → eqb (hear_refusal p f) 0 ≡ true → hear_number (hear_step p f).answer ≡ 0
unfolding hear_step hear_taken hear_other
heard_number p f e = go (is_next f (last_of p f.lane)) refl (is_order f) refl (leb f.serial.0 (last_of p f.lane)) refl
  where
    go : (n : Bool) → is_next f (last_of p f.lane) ≡ n → (o : Bool) → is_order f ≡ o → (l : Bool) → leb f.serial.0 (last_of p f.lane) ≡ l
        → hear_number (hear_step p f).answer ≡ 0
    go true n o q l r = rw (e, n)
    go false n true q true r = rw (e, n, q, r)
    go false n true q false r = rw (e, n, q, r)
    go false n false q l r = rw (e, n, q)

-- and what is not refused singly is not refused by the step
passes_on : (p : Post) (bytes buffer : List ℕ) → eqb (hear_refusal_singly p bytes buffer) 0 ≡ true → eqb (hear_refusal p (frame_of bytes)) 0 ≡ true
unfolding hear_refusal_singly
passes_on p bytes buffer e = go (eqb (read_refusal bytes) 0) refl
  where
    a : cond (eqb (read_refusal bytes) 0) (cond (bad_record p) 12 (hear_refusal p (frame_of bytes))) (read_refusal bytes) ≡ 0
    a = (passed (bad_length buffer) 6 (cond (eqb (read_refusal bytes) 0) (cond (bad_record p) 12 (hear_refusal p (frame_of bytes))) (read_refusal bytes)) (omega arith) (eqb-true _ 0 e)).1

    go : (b : Bool) → eqb (read_refusal bytes) 0 ≡ b → eqb (hear_refusal p (frame_of bytes)) 0 ≡ true
    go true q = eq-eqb (hear_refusal p (frame_of bytes)) 0 (passed (bad_record p) 12 (hear_refusal p (frame_of bytes)) (omega arith) (rw q at a)).1
    go false q = absurd (eqb-false (read_refusal bytes) 0 q (rw q at a))

hear_number_lem : (p : Post) (bytes buffer : List ℕ) → hear_number (hear_singly p bytes buffer).answer ≡ hear_refusal_singly p bytes buffer
unfolding hear_singly
hear_number_lem p bytes buffer = go (eqb (hear_refusal_singly p bytes buffer) 0) refl
  where
    go : (b : Bool) → eqb (hear_refusal_singly p bytes buffer) 0 ≡ b → hear_number (hear_singly p bytes buffer).answer ≡ hear_refusal_singly p bytes buffer
    go true e = rw e (heard_number p (frame_of bytes) (passes_on p bytes buffer e) ∙ sym (eqb-true (hear_refusal_singly p bytes buffer) 0 e))
    go false e = rw e

pub beacon_number_lem : (p : Post) (buffer : List ℕ) → beacon_number (beacon_singly p buffer) ≡ beacon_refusal_singly p buffer
unfolding beacon_singly
beacon_number_lem p buffer = go (eqb (beacon_refusal_singly p buffer) 0) refl
  where
    go : (b : Bool) → eqb (beacon_refusal_singly p buffer) 0 ≡ b → beacon_number (beacon_singly p buffer) ≡ beacon_refusal_singly p buffer
    go true e = rw e (sym (eqb-true (beacon_refusal_singly p buffer) 0 e))
    go false e = rw e

-- ---- all that an entry promises of its answer

-- an order's serial, stamp and count
abbrev OrderTells : Post → ℕ → List ℕ → orders.OrderAnswer → Type 0
OrderTells p word buffer a =
    (order_number a ≡ order_refusal_singly p buffer)
    × ((order_serial a ≡ order_serial_singly p buffer) × ((order_stamp a ≡ order_stamp_singly p buffer) × (order_count a ≡ order_count_singly p word buffer)))

order_values : (p : Post) (word : ℕ) (buffer : List ℕ) → OrderTells p word buffer (order_singly p word buffer).answer
unfolding order_singly order_serial_singly order_stamp_singly order_count_singly order_sent own_taken kept ticked
order_values p word buffer = go (eqb (order_refusal_singly p buffer) 0) refl
  where
    go : (b : Bool) → eqb (order_refusal_singly p buffer) 0 ≡ b → OrderTells p word buffer (order_singly p word buffer).answer
    go true e = (order_number_lem p word buffer, (rw e, (rw e, rw e)))
    go false e = (order_number_lem p word buffer, (rw e, (rw e, rw e)))

pub order_tells : (p : Post) (word : ℕ) (buffer : List ℕ) (r : Ordered) → r ≡ order_singly p word buffer → OrderTells p word buffer r.answer
order_tells p word buffer r e = rw e (order_values p word buffer)

-- a hearing's count
abbrev HearTells : Post → List ℕ → List ℕ → hearings.HearAnswer → Type 0
HearTells p bytes buffer a = (hear_number a ≡ hear_refusal_singly p bytes buffer) × (hear_count a ≡ hear_count_singly p bytes buffer)

other_count : (f : Frame) (last count : ℕ) → hear_count (other_answer f last count) ≡ count
other_count f last count = go (is_order f) (leb f.serial.0 last) refl refl
  where
    go : (o l : Bool) → is_order f ≡ o → leb f.serial.0 last ≡ l → hear_count (other_answer f last count) ≡ count
    go true true e s = rw (e, s)
    go true false e s = rw (e, s)
    go false l e s = rw e

heard_count : (p : Post) (f : Frame) → eqb (hear_refusal p f) 0 ≡ true
    → hear_count (hear_step p f).answer ≡ cond (is_next f (last_of p f.lane)) (delivered (taken p f)).count (delivered (raised_post p f)).count
unfolding hear_step hear_taken hear_other
heard_count p f e = go (is_next f (last_of p f.lane)) refl
  where
    go : (n : Bool) → is_next f (last_of p f.lane) ≡ n
        → hear_count (hear_step p f).answer ≡ cond (is_next f (last_of p f.lane)) (delivered (taken p f)).count (delivered (raised_post p f)).count
    go true n = rw (e, n)
    go false n = rw (e, n) (other_count f (last_of p f.lane) (delivered (raised_post p f)).count)

hear_values : (p : Post) (bytes buffer : List ℕ) → hear_count (hear_singly p bytes buffer).answer ≡ hear_count_singly p bytes buffer
unfolding hear_singly hear_count_singly
hear_values p bytes buffer = go (eqb (hear_refusal_singly p bytes buffer) 0) refl
  where
    go : (b : Bool) → eqb (hear_refusal_singly p bytes buffer) 0 ≡ b → hear_count (hear_singly p bytes buffer).answer ≡ hear_count_singly p bytes buffer
    go true e = rw e (heard_count p (frame_of bytes) (passes_on p bytes buffer e))
    go false e = rw e

pub hear_tells : (p : Post) (bytes buffer : List ℕ) (r : Heard) → r ≡ hear_singly p bytes buffer → HearTells p bytes buffer r.answer
hear_tells p bytes buffer r e = rw e (hear_number_lem p bytes buffer, hear_values p bytes buffer)
