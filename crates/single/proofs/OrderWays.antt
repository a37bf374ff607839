-- The ways through `order`. Assumes nothing.
use mathlib.Core.Path.{◌≡◌, refl, sym, ap, ◌∙◌}
use mathlib.Core.Bool.{false}
use mathlib.Core.List.{List}
use Prim.Native.Nat.{ℕ, ◌<◌}
use lib.Dec.{eqb}
use lib.ListN.{length}
use borrow.Author.Tests.{ne_eqb}
use Rattle.std.specs.Prelude.{Result, Ok, Err, IsErrAnd}
use Rattle.refusal.specs.declared.Refusal.{Refusal}
use Rattle.refusal.specs.Numbers.{refusal_number, refused_with}
use Rattle.frame.specs.Layout.{bytes_of}
use Rattle.frame.specs.Refusals.{frame_refusal}
use Rattle.refusal.proofs.Refused.{never_0}
use Rattle.air.specs.Air.{frames_with}
use Rattle.air.proofs.Buffers.{buffer_filled}
use Rattle.post.specs.declared.Post.{Post}
use Rattle.row.specs.Rows.{post_in, known_in}
use Rattle.post_row.specs.Records.{record_in}
use Rattle.judge.specs.Judgement.{bad_record}
use Rattle.steps.specs.declared.RowOrdered as row
use Rattle.steps.specs.Refusals.{order_refusal}
use Rattle.steps.specs.OrderAnswer.{order_answer}
use Rattle.steps.specs.Answers.{order_number}
use Rattle.steps.specs.Values.{order_serial, order_stamp, order_count}
use Rattle.steps.specs.Steps.{order_sent, order_step}
use Rattle.steps.specs.Steps as after
use Rattle.steps.specs.Knowing.{stepped, orders_by}
use Rattle.laws.specs.Records.{Shaped}
use Rattle.laws.proofs.StepLaws.{order_judged}
use Rattle.single.specs.Judged.{Judged}
use Rattle.single.specs.Outcomes.{ordered_answer}
use Rattle.single.specs.Single.{order_refusal_singly, order_singly, order_serial_singly, order_stamp_singly, order_count_singly, order_buffer}
use Rattle.single.specs.declared.Ordered.{Ordered}
use Rattle.single.proofs.Broadcasts.{sent_accepted}
use Rattle.single.proofs.Chains.{length_refusal, good, passed_32}
use Rattle.single.proofs.Numbers.{order_tells}
use Rattle.single.proofs.Rows.{stored, order_runs}

-- what `order` promises of its result and of the buffer, whatever way it went
pub record Orders (p : Post) (word : ℕ) (given : List ℕ) (r : Result Ordered Refusal) (exit : List ℕ) : Type 0 where
  pub value : ordered_answer p r ≡ order_singly p word given
  pub buffer : exit ≡ order_buffer p word given
  pub number : refused_with r ≡ order_refusal_singly p given
  pub serial : order_serial (ordered_answer p r).answer ≡ order_serial_singly p given
  pub stamp : order_stamp (ordered_answer p r).answer ≡ order_stamp_singly p given
  pub count : order_count (ordered_answer p r).answer ≡ order_count_singly p word given

number_is : (p : Post) (r : Result Ordered Refusal) → refused_with r ≡ order_number (ordered_answer p r).answer
number_is p (Ok d) = refl
number_is p (Err e) = refl

orders : (p : Post) (word : ℕ) (buffer : List ℕ) (r : Result Ordered Refusal) (exit : List ℕ) → ordered_answer p r ≡ order_singly p word buffer
    → exit ≡ order_buffer p word buffer → Orders p word buffer r exit
orders p word buffer r exit v b =
    let t = order_tells p word buffer (ordered_answer p r) v in
    record { value = v; buffer = b; number = number_is p r ∙ t.0; serial = t.1.0; stamp = t.1.1.0; count = t.1.1.1 }

-- a refusal that a `?` hands on
pub order_refused : (p : Post) (word : ℕ) (buffer : List ℕ) (r : Result Ordered Refusal) (e : Refusal) → IsErrAnd r (λ k. k ≡ e)
    → order_refusal_singly p buffer ≡ refusal_number e → Orders p word buffer r buffer
unfolding order_singly order_buffer
order_refused p word buffer (Ok d) e h n = absurd h
order_refused p word buffer (Err k) e h n =
    let q : eqb (refusal_number e) 0 ≡ false = ne_eqb (refusal_number e) 0 (never_0 e) in
    rw h (orders p word buffer (Err e) buffer (rw (n, q)) (rw (n, q)))

-- the step is not refused
pub record Sends (p : Post) (word : ℕ) (m : List ℕ) (d : row.RowOrdered) : Type 0 where
  pub accepted : order_refusal p ≡ 0
  pub step : ◌≡◌ {A = after.Ordered} (record { answer = order_answer (Ok d.sent); post = post_in m; frame = d.frame }) (order_sent p word)
  pub frame : frame_refusal d.frame ≡ 0
  pub post : Shaped (order_sent p word).post × (bad_record (order_sent p word).post ≡ false)

pub order_sends : (p : Post) (word : ℕ) (l m : List ℕ) (d : row.RowOrdered) → word < 65536 → Judged p l → 0 ≡ order_refusal (post_in l)
    → stepped (order_answer (Ok d.sent)) m d.frame ≡ orders_by (known_in l) (post_in l) word → Sends p word m d
unfolding order_step
order_sends p word l m d w j z e =
    let a : order_refusal p ≡ 0 = rw j.post at (sym z) in
    let sent : order_step p word ≡ order_sent p word = rw a in
    let step : ◌≡◌ {A = after.Ordered} (record { answer = order_answer (Ok d.sent); post = post_in m; frame = d.frame }) (order_sent p word)
    = order_runs p word l m _ _ j e ∙ sent
    in
    record {
      accepted = a;
      step = step;
      frame = ap (λ (o : after.Ordered). frame_refusal o.frame) step ∙ sent_accepted p word a;
      post = rw sent at (order_judged p word w j.shaped j.good);
    }

-- what it broadcasts goes into the buffer, and the record that it leaves is stored
pub order_done : (p : Post) (word : ℕ) (buffer l m : List ℕ) (d : row.RowOrdered) (post : Post) (exit : List ℕ) → 0 ≡ length_refusal buffer
    → Judged p l → Sends p word m d → length m ≡ 543 → exit ≡ frames_with buffer 0 d.frame → post ≡ record_in m
    → Orders p word buffer (Ok (record { sent = d.sent; post = post })) exit
unfolding order_singly order_buffer order_refusal_singly
order_done p word buffer l m d post exit h j s wm ex ep =
    let z : order_refusal_singly p buffer ≡ 0 = good p buffer (order_refusal p) 0 h j.good (sym s.accepted) in
    let q : post ≡ (order_sent p word).post = stored m _ post wm (ap (λ (o : after.Ordered). o.post) s.step) s.post ep in
    orders p word buffer (Ok (record { sent = d.sent; post = post })) exit
    (rw (z, q) (ap (λ (o : after.Ordered). record { answer = o.answer; post = (order_sent p word).post }) s.step))
    (rw z (ex ∙ buffer_filled buffer d.frame (passed_32 buffer h) s.frame ∙ ap (λ (o : after.Ordered). bytes_of o.frame) s.step))
