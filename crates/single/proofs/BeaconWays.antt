-- The ways through `beacon`. Assumes nothing.
use mathlib.Core.Path.{◌≡◌, sym, ap, ◌∙◌}
use mathlib.Core.Bool.{false}
use mathlib.Core.List.{List}
use Prim.Native.Nat.{ℕ}
use lib.Dec.{eqb}
use borrow.Author.Tests.{ne_eqb}
use Rattle.std.specs.Prelude.{Result, Ok, Err, IsErrAnd}
use Rattle.refusal.specs.declared.Refusal.{Refusal}
use Rattle.refusal.specs.Numbers.{refusal_number, refused_with}
use Rattle.frame.specs.declared.Frame.{Frame}
use Rattle.frame.specs.Layout.{bytes_of}
use Rattle.frame.specs.Refusals.{frame_refusal}
use Rattle.refusal.proofs.Refused.{never_0}
use Rattle.air.specs.Air.{place_refusal, frames_with}
use Rattle.air.proofs.Buffers.{buffer_filled}
use Rattle.post.specs.declared.Post.{Post}
use Rattle.post.specs.Newest.{beacon_frame}
use Rattle.row.specs.Rows.{post_in}
use Rattle.steps.specs.Refusals.{beacon_refusal}
use Rattle.steps.specs.BeaconAnswer.{beacon_answer}
use Rattle.steps.specs.Outcomes.{beaconed}
use Rattle.steps.specs.Steps.{Beaconed, beacon_step}
use Rattle.single.specs.Judged.{Judged}
use Rattle.single.specs.Single.{beacon_refusal_singly, beacon_singly, beacon_buffer}
use Rattle.single.proofs.Broadcasts.{beacon_sendable}
use Rattle.single.proofs.Chains.{length_refusal, good, passed_32, takes}

-- what `beacon` promises of its result and of the buffer, whatever way it went
pub record Beacons {A : Type 0} (p : Post) (given : List ℕ) (r : Result A Refusal) (exit : List ℕ) : Type 0 where
  pub value : beacon_answer r ≡ beacon_singly p given
  pub buffer : exit ≡ beacon_buffer p given
  pub number : refused_with r ≡ beacon_refusal_singly p given

-- a refusal that a `?` hands on
pub beacon_refused : {A : Type 0} (p : Post) (buffer : List ℕ) (r : Result A Refusal) (e : Refusal) → IsErrAnd r (λ k. k ≡ e)
    → beacon_refusal_singly p buffer ≡ refusal_number e → Beacons p buffer r buffer
unfolding beacon_singly beacon_buffer
beacon_refused p buffer (Ok d) e h n = absurd h
beacon_refused p buffer (Err k) e h n =
    let q : eqb (refusal_number e) 0 ≡ false = ne_eqb (refusal_number e) 0 (never_0 e) in
    rw h (record { value = rw (n, q); buffer = rw (n, q); number = sym n })

-- the beacon of a good record
pub record Sends (p : Post) (f : Frame) : Type 0 where
  pub accepted : beacon_refusal p ≡ 0
  pub beacon : f ≡ beacon_frame p
  pub frame : frame_refusal f ≡ 0

pub beacon_sends : (p : Post) (l : List ℕ) (f : Frame) → Judged p l → 0 ≡ beacon_refusal (post_in l) → beaconed (Ok f) ≡ beacon_step (post_in l) → Sends p f
unfolding beacon_step
beacon_sends p l f j z e =
    let a : beacon_refusal p ≡ 0 = rw j.post at (sym z) in
    let step : beaconed (Ok f) ≡ record { answer = beacon_answer (Ok f); frame = beacon_frame p } = rw (j.post, a) at e in
    let b : f ≡ beacon_frame p = ap (λ (d : Beaconed). d.frame) step in
    record { accepted = a; beacon = b; frame = rw b (beacon_sendable p a) }

-- it goes into the buffer
pub beacon_done : {A : Type 0} (p : Post) (buffer l : List ℕ) (f : Frame) (r : Result A Refusal) (exit : List ℕ) → 0 ≡ length_refusal buffer → Judged p l
    → Sends p f → refused_with r ≡ place_refusal buffer 0 f → exit ≡ frames_with buffer 0 f → Beacons p buffer r exit
unfolding beacon_singly beacon_buffer beacon_refusal_singly
beacon_done p buffer l f (Err k) exit h j s n ex = absurd (never_0 k (n ∙ takes buffer f h s.frame))
beacon_done p buffer l f (Ok d) exit h j s n ex =
    let z : beacon_refusal_singly p buffer ≡ 0 = good p buffer (beacon_refusal p) 0 h j.good (sym s.accepted) in
    record { value = rw z; buffer = rw z (ex ∙ buffer_filled buffer f (passed_32 buffer h) s.frame ∙ ap bytes_of s.beacon); number = sym z }
