-- A hearing in a yard, by each way that it can end: what it answers, and the yard and the air that it leaves. Assumes nothing.
use mathlib.Core.Path.{◌≡◌}
use mathlib.Core.Logic.{◌≢◌}
use mathlib.Core.Bool.{true, false}
use Prim.Native.Nat.{ℕ, ◌+◌, ◌<◌, ◌≤◌}
use lib.ListN.{length}
use lib.Seq.{set-get_or}
use borrow.Author.Tests.{lt-ltb, le-ltb, eq-eqb, ne_eqb}
use Rattle.frame.specs.declared.Frame.{Frame}
use Rattle.frame.specs.Refusals.{read_refusal}
use Rattle.frame.specs.Layout.{no_frame}
use Rattle.air.specs.Air.{stretch_at, frames_with}
use Rattle.post.specs.declared.Post.{Post}
use Rattle.post.specs.Record.{last_of}
use Rattle.steps.specs.Refusals.{not_in_yard, is_next, hear_refusal}
use Rattle.steps.specs.Steps.{hear_other, hear_step}
use Rattle.steps.specs.HearAnswer as hearings
use Rattle.state.specs.Yards.{post_at}
use Rattle.state.specs.Changed.{with_post}
use Rattle.yard.specs.Singles.{frames_after, frame_at, post_hears, post_hears_air, yard_hears, yard_hears_air}
use Rattle.yard.specs.Worlds.{World, hear, single}
use Rattle.laws.proofs.Broadcasts.{Sendable}
use Rattle.agreement.proofs.AirViews.{silent_air, silent_frames, spoken_frames}

-- a hearing that leaves the world as it was, answering its refusal
pub record HearStays (w : World) (lane k number : ℕ) : Type 0 where
  pub answer : (yard_hears w.air w.yard lane k).answer ≡ hearings.Refused number
  pub leaves : single w (hear lane k) ≡ w

-- a post that answers a refusal, stays and speaks nothing leaves the yard
hear_stays : (w : World) (lane k number : ℕ) → lane < 8
    → post_hears w.air (post_at w.yard lane) w.yard.frames k
    ≡ record { answer = hearings.Refused number; post = post_at w.yard lane; frames = w.yard.frames }
    → post_hears_air w.air (post_at w.yard lane) w.yard.frames k ≡ w.air
    → HearStays w lane k number
unfolding single yard_hears yard_hears_air
hear_stays w lane k number l e a = record {
  answer = rw (lt-ltb lane 8 l, e);
  leaves = rw (lt-ltb lane 8 l, e, a, set-get_or);
}

-- 4
pub hear_4 : (w : World) (lane k : ℕ) → 8 ≤ lane → HearStays w lane k 4
unfolding single yard_hears yard_hears_air
hear_4 w lane k l = record { answer = rw (le-ltb lane 8 l); leaves = rw (le-ltb lane 8 l) }

-- 13
pub hear_13 : (w : World) (lane k : ℕ) → lane < 8 → length w.air ≢ 65536 → HearStays w lane k 13
unfolding post_hears post_hears_air
hear_13 w lane k l n =
    hear_stays w lane k 13 l (rw (ne_eqb (length w.air) 65536 n)) (rw (ne_eqb (length w.air) 65536 n))

-- 21 and 25, where there is no frame k
pub hear_25 : (w : World) (lane k : ℕ) → lane < 8 → length w.air ≡ 65536 → w.yard.frames ≤ k
    → not_in_yard (post_at w.yard lane).posts (post_at w.yard lane).lane ≡ false
    → HearStays w lane k 25
unfolding post_hears post_hears_air
hear_25 w lane k l e h i =
    hear_stays w lane k 25 l
    (rw (eq-eqb (length w.air) 65536 e, le-ltb k w.yard.frames h, i))
    (rw (eq-eqb (length w.air) 65536 e, le-ltb k w.yard.frames h, i))

pub hear_21 : (w : World) (lane k : ℕ) → lane < 8 → length w.air ≡ 65536 → w.yard.frames ≤ k
    → not_in_yard (post_at w.yard lane).posts (post_at w.yard lane).lane ≡ true
    → HearStays w lane k 21
unfolding post_hears post_hears_air
hear_21 w lane k l e h i =
    hear_stays w lane k 21 l
    (rw (eq-eqb (length w.air) 65536 e, le-ltb k w.yard.frames h, i))
    (rw (eq-eqb (length w.air) 65536 e, le-ltb k w.yard.frames h, i))

-- ---- frame k is there, and reading does not refuse it

pub record Hearing (w : World) (lane k : ℕ) : Type 0 where
  pub here : lane < 8
  pub whole : length w.air ≡ 65536
  pub on_air : k < w.yard.frames
  pub room : k < 2048
  pub readable : read_refusal (stretch_at w.air k) ≡ 0

module _ (w : World) (lane k : ℕ) (h : Hearing w lane k) where
  -- the post's own refusals
  pub hear_refused_here : hear_refusal (post_at w.yard lane) (frame_at w.air k) ≢ 0
      → HearStays w lane k (hear_refusal (post_at w.yard lane) (frame_at w.air k))
  unfolding post_hears post_hears_air hear_step
  hear_refused_here n =
      let p = post_at w.yard lane in
      let f = frame_at w.air k in
      hear_stays w lane k (hear_refusal p f) h.here
      (rw (
        eq-eqb (length w.air) 65536 h.whole,
        lt-ltb k w.yard.frames h.on_air,
        lt-ltb k 2048 h.room,
        h.readable,
        ne_eqb (hear_refusal p f) 0 n,
        silent_frames w.air w.yard.frames,
      ))
      (rw (
        eq-eqb (length w.air) 65536 h.whole,
        lt-ltb k w.yard.frames h.on_air,
        lt-ltb k 2048 h.room,
        h.readable,
        ne_eqb (hear_refusal p f) 0 n,
        silent_air w.air w.yard.frames,
      ))

  -- what the post does, the air being asked for frame k
  hear_posts : post_hears w.air (post_at w.yard lane) w.yard.frames k ≡ record {
    answer = (hear_step (post_at w.yard lane) (frame_at w.air k)).answer;
    post = (hear_step (post_at w.yard lane) (frame_at w.air k)).post;
    frames = frames_after w.air w.yard.frames (hear_step (post_at w.yard lane) (frame_at w.air k)).frame;
  }
  unfolding post_hears
  hear_posts =
      rw (eq-eqb (length w.air) 65536 h.whole, lt-ltb k w.yard.frames h.on_air, lt-ltb k 2048 h.room, h.readable)

  hear_airs : post_hears_air w.air (post_at w.yard lane) w.yard.frames k
      ≡ frames_with w.air w.yard.frames (hear_step (post_at w.yard lane) (frame_at w.air k)).frame
  unfolding post_hears_air
  hear_airs =
      rw (eq-eqb (length w.air) 65536 h.whole, lt-ltb k w.yard.frames h.on_air, lt-ltb k 2048 h.room, h.readable)

  -- its answer is the post's
  pub hear_answer : (yard_hears w.air w.yard lane k).answer ≡ (hear_step (post_at w.yard lane) (frame_at w.air k)).answer
  unfolding yard_hears
  hear_answer = rw (lt-ltb lane 8 h.here, hear_posts)

  -- the world after a hearing with no broadcast
  pub hear_silent : (hear_step (post_at w.yard lane) (frame_at w.air k)).frame ≡ no_frame
      → single w (hear lane k) ≡ record {
        yard = with_post w.yard lane (hear_step (post_at w.yard lane) (frame_at w.air k)).post w.yard.frames;
        air = w.air;
      }
  unfolding single yard_hears yard_hears_air
  hear_silent e =
      rw (
        lt-ltb lane 8 h.here,
        hear_posts,
        hear_airs,
        e,
        silent_frames w.air w.yard.frames,
        silent_air w.air w.yard.frames,
      )

  -- and after one that is broadcast
  pub hear_spoken : w.yard.frames < 2048 → Sendable (hear_step (post_at w.yard lane) (frame_at w.air k)).frame
      → single w (hear lane k) ≡ record {
        yard = with_post w.yard lane (hear_step (post_at w.yard lane) (frame_at w.air k)).post (w.yard.frames + 1);
        air = frames_with w.air w.yard.frames (hear_step (post_at w.yard lane) (frame_at w.air k)).frame;
      }
  unfolding single yard_hears yard_hears_air
  hear_spoken r s =
      rw (
        lt-ltb lane 8 h.here,
        hear_posts,
        hear_airs,
        spoken_frames w.air w.yard.frames (hear_step (post_at w.yard lane) (frame_at w.air k)).frame h.whole r s,
      )

-- a hearing that takes nothing broadcasts nothing
pub hear_no_frame : (p : Post) (f : Frame) → hear_refusal p f ≡ 0 → is_next f (last_of p f.lane) ≡ false → (hear_step p f).frame ≡ no_frame
unfolding hear_step hear_other
hear_no_frame p f z n = rw (z, n)
