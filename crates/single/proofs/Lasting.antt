-- A post that starts fresh is never refused by 12: its record stays valid after every step. Assumes nothing.
use mathlib.Core.Path.{◌≡◌, refl}
use mathlib.Core.Bool.{Bool, true, false, cond}
use mathlib.Core.List.{List, [], ◌∷◌}
use Prim.Native.Nat.{ℕ, zero, suc, ◌<◌}
use native.Mathlib.Omega.{arith}
use lib.Dec.{eqb}
use borrow.Author.Tests.{eqb-true}
use Rattle.frame.specs.Layout.{frame_of, entry_of}
use Rattle.frame.specs.Types.{AreBytes, Typed}
use Rattle.frame.specs.Refusals.{bad_length, read_refusal}
use Rattle.frame.proofs.Laws.{passed, readable}
use Rattle.post.specs.declared.Post.{Post}
use Rattle.post.specs.Record.{fresh_post}
use Rattle.judge.specs.Judgement.{bad_record}
use Rattle.steps.specs.Refusals.{not_in_yard, order_refusal, hear_refusal}
use Rattle.steps.specs.Steps.{order_sent, order_step}
use Rattle.laws.proofs.Valid.{Shaped}
use Rattle.laws.proofs.ValidFresh.{fresh_shaped}
use Rattle.laws.proofs.StepLaws.{order_judged, hear_judged}
use Rattle.single.specs.Lasting.{SinglyStep, to_order, to_hear, to_beacon, left_singly, run_singly}
use Rattle.single.specs.Single.{fresh_refusal, fresh_singly, order_refusal_singly, order_singly, hear_refusal_singly, hear_singly}

-- a record that 12 does not turn down, with what its type says
pub record Good (p : Post) : Type 0 where
  pub shaped : Shaped p
  pub judged : bad_record p ≡ false

-- ---- the start

pub fresh_good : (lane posts sources dests : ℕ) → posts < 256 → sources < 256 → dests < 256 → (fresh_singly lane posts sources dests).refusal ≡ 0
    → Good (fresh_singly lane posts sources dests).post
unfolding fresh_singly fresh_refusal
fresh_good lane posts sources dests a b c z = go (eqb (fresh_refusal lane posts sources dests) 0) refl
  where
    go : (t : Bool) → eqb (fresh_refusal lane posts sources dests) 0 ≡ t → Good (fresh_singly lane posts sources dests).post
    go true e =
        let r = eqb-true (fresh_refusal lane posts sources dests) 0 e in
        rw e
        (record {
          shaped = fresh_shaped lane posts sources dests a b c;
          judged = (passed (bad_record (fresh_post lane posts sources dests)) 12 (cond (not_in_yard posts lane) 21 0) (omega arith) r).0;
        })
    go false e = absurd (none (fresh_refusal lane posts sources dests) e (rw e at z))
      where
        none : (n : ℕ) → eqb n 0 ≡ false → n ≡ 0 → ⊥
        none n q y = let w : ◌≡◌ {A = ℕ} 0 1 = (let v : true ≡ false = rw y at q in cc) in omega arith

-- ---- order

-- an order that is not refused is sent
sent_step : (p : Post) (word : ℕ) → order_refusal p ≡ 0 → order_step p word ≡ order_sent p word
unfolding order_step
sent_step p word z = rw z

pub order_good : (p : Post) (word : ℕ) (buffer : List ℕ) → word < 65536 → Good p → Good (order_singly p word buffer).post
unfolding order_singly order_refusal_singly
order_good p word buffer w g = go (eqb (order_refusal_singly p buffer) 0) refl
  where
    sent : order_refusal_singly p buffer ≡ 0 → order_step p word ≡ order_sent p word
    sent z = sent_step p word (passed (bad_record p) 12 (order_refusal p) (omega arith) (passed (bad_length buffer) 6 (cond (bad_record p) 12 (order_refusal p)) (omega arith) z).1).1

    go : (t : Bool) → eqb (order_refusal_singly p buffer) 0 ≡ t → Good (order_singly p word buffer).post
    go true e =
        let after = order_judged p word w g.shaped g.judged in
        let s = sent (eqb-true (order_refusal_singly p buffer) 0 e) in
        rw (e, ← s) (record { shaped = after.0; judged = after.1 })
    go false e = rw e g

-- ---- hear

-- bytes lay out a frame of the type `Frame`
stamps_fit : (bytes : List ℕ) → AreBytes bytes → (lane : ℕ) → (entry_of (frame_of bytes) lane).stamp.0 < 65536
unfolding frame_of
stamps_fit bytes h zero = omega (arith, h 9, h 10)
stamps_fit bytes h (suc zero) = omega (arith, h 12, h 13)
stamps_fit bytes h (suc (suc zero)) = omega (arith, h 15, h 16)
stamps_fit bytes h (suc (suc (suc zero))) = omega (arith, h 18, h 19)
stamps_fit bytes h (suc (suc (suc (suc zero)))) = omega (arith, h 21, h 22)
stamps_fit bytes h (suc (suc (suc (suc (suc zero))))) = omega (arith, h 24, h 25)
stamps_fit bytes h (suc (suc (suc (suc (suc (suc zero)))))) = omega (arith, h 27, h 28)
stamps_fit bytes h (suc (suc (suc (suc (suc (suc (suc zero))))))) = omega (arith, h 30, h 31)
stamps_fit bytes h (suc (suc (suc (suc (suc (suc (suc (suc n)))))))) = omega arith

pub bytes_fit : (bytes : List ℕ) → AreBytes bytes → Typed (frame_of bytes)
unfolding frame_of
bytes_fit bytes h = record {
  stamp = omega (arith, h 4, h 5);
  word = omega (arith, h 6, h 7);
  count = refl;
  stamps = stamps_fit bytes h;
}

-- a hearing that is not refused had a frame that can be read
read_through : (p : Post) (bytes buffer : List ℕ) → hear_refusal_singly p bytes buffer ≡ 0 → read_refusal bytes ≡ 0
unfolding hear_refusal_singly
read_through p bytes buffer z = go (eqb (read_refusal bytes) 0) refl
  where
    a : cond (eqb (read_refusal bytes) 0) (cond (bad_record p) 12 (hear_refusal p (frame_of bytes))) (read_refusal bytes) ≡ 0
    a = (passed (bad_length buffer) 6 (cond (eqb (read_refusal bytes) 0) (cond (bad_record p) 12 (hear_refusal p (frame_of bytes))) (read_refusal bytes)) (omega arith) z).1

    go : (t : Bool) → eqb (read_refusal bytes) 0 ≡ t → read_refusal bytes ≡ 0
    go true q = eqb-true (read_refusal bytes) 0 q
    go false q = rw q at a

pub hear_good : (p : Post) (bytes buffer : List ℕ) → AreBytes bytes → Good p → Good (hear_singly p bytes buffer).post
unfolding hear_singly
hear_good p bytes buffer h g = go (eqb (hear_refusal_singly p bytes buffer) 0) refl
  where
    go : (t : Bool) → eqb (hear_refusal_singly p bytes buffer) 0 ≡ t → Good (hear_singly p bytes buffer).post
    go true e =
        let z = read_through p bytes buffer (eqb-true (hear_refusal_singly p bytes buffer) 0 e) in
        let after = hear_judged p (frame_of bytes) (readable bytes z).1 (bytes_fit bytes h) g.shaped g.judged in
        rw e (record { shaped = after.0; judged = after.1 })
    go false e = rw e g

-- ---- any list of steps

step_good : (p : Post) (s : SinglyStep) → Good p → Good (left_singly p s)
unfolding left_singly
step_good p (to_order word w buffer) g = order_good p word buffer w g
step_good p (to_hear bytes h buffer) g = hear_good p bytes buffer h g
step_good p (to_beacon buffer) g = g

pub run_good : (p : Post) (steps : List SinglyStep) → Good p → Good (run_singly p steps)
unfolding run_singly
run_good p [] g = g
run_good p (s ∷ steps) g = run_good (left_singly p s) steps (step_good p s g)

-- 12 never arises after a good start
pub never_12 : (lane posts sources dests : ℕ) → posts < 256 → sources < 256 → dests < 256 → (fresh_singly lane posts sources dests).refusal ≡ 0
    → (steps : List SinglyStep)
    → bad_record (run_singly (fresh_singly lane posts sources dests).post steps) ≡ false
never_12 lane posts sources dests a b c z steps =
    (run_good (fresh_singly lane posts sources dests).post steps (fresh_good lane posts sources dests a b c z)).judged
