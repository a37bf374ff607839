-- The air after a step: a broadcast is its next frame and changes no other; without a broadcast it stays. Assumes nothing.
use mathlib.Core.Path.{◌≡◌, refl, ap, ◌∙◌, fun_ext}
use mathlib.Core.List.{List}
use mathlib.Core.Logic.{◌⊎◌, inl, inr, ◌≢◌}
use mathlib.Core.Bool.{cond}
use Prim.Native.Nat.{ℕ, ◌+◌, ◌<◌, ◌≤◌}
use native.Mathlib.Omega.{arith}
use lib.Dec.{ltb}
use lib.ListN.{length}
use borrow.Author.Tests.{lt-ltb, le-ltb, ne_eqb}
use Rattle.frame.specs.declared.Frame as frames
use Rattle.frame.specs.Layout.{bytes_of, frame_of, no_frame}
use Rattle.frame.specs.Refusals.{read_refusal}
use Rattle.frame.proofs.RoundTrip.{frame_bytes}
use Rattle.frame.proofs.Theorems.{judged_alike}
use Rattle.air.specs.Air.{stretch_at, place_refusal, frames_with}
use Rattle.air.proofs.Laws.{place_judges}
use Rattle.air.proofs.Stretches.{others_stay, frame_there}
use Rattle.air.proofs.Buffers.{none_placed, none_kept}
use Rattle.yard.specs.Singles.{frames_after, frame_at}
use Rattle.yard.specs.Worlds.{World}
use Rattle.laws.proofs.TestLaws.{same_or_not, below_or_not}
use Rattle.laws.proofs.Broadcasts.{Sendable}
use Rattle.model.proofs.Functions.{upd, upd_same, upd_other}
use Rattle.agreement.proofs.Views.{frame_view, no_frame_yet, air_view}

-- the model's frame k is that of the air
pub air_at : (w : World) (k : ℕ) → k < w.yard.frames → air_view w.air w.yard.frames k ≡ frame_view (frame_at w.air k)
unfolding air_view
air_at w k l = rw (lt-ltb k w.yard.frames l)

-- ---- no broadcast

-- the air stays, and no frame is counted
pub silent_air : (air : List ℕ) (k : ℕ) → frames_with air k no_frame ≡ air
silent_air air k = none_kept air k no_frame refl

pub silent_frames : (air : List ℕ) (k : ℕ) → frames_after air k no_frame ≡ k
unfolding frames_after
silent_frames air k = rw (ne_eqb (place_refusal air k no_frame) 0 (none_placed air k no_frame refl))

-- ---- a broadcast, where there is room

module _ (air : List ℕ) (k : ℕ) (f : frames.Frame) (whole : length air ≡ 65536) (room : k < 2048) (s : Sendable f) where
  spoken_place : place_refusal air k f ≡ 0
  spoken_place = place_judges air k f (omega arith) ∙ s.good

  pub spoken_frames : frames_after air k f ≡ k + 1
  unfolding frames_after
  spoken_frames = rw spoken_place

  spoken_stretch : stretch_at (frames_with air k f) k ≡ bytes_of f
  spoken_stretch = frame_there air k f spoken_place

  -- frame k is the broadcast
  pub spoken_frame : frame_at (frames_with air k f) k ≡ f
  spoken_frame = ap frame_of spoken_stretch ∙ frame_bytes f s.fits

  -- and reading does not refuse it
  pub spoken_read : read_refusal (stretch_at (frames_with air k f) k) ≡ 0
  spoken_read = ap read_refusal spoken_stretch ∙ judged_alike f s.fits ∙ s.good

  -- the frames before it stay
  pub spoken_before : (j : ℕ) → j < k → stretch_at (frames_with air k f) j ≡ stretch_at air j
  spoken_before j l = others_stay air k j f (omega arith)

  -- all of it, as the model sees it
  pub air_spoken : air_view (frames_with air k f) (k + 1) ≡ upd (air_view air k) k (frame_view f)
  unfolding air_view
  air_spoken = fun_ext (λ j. go j (same_or_not j k) (below_or_not j k))
    where
      go : (j : ℕ) → (j ≡ k) ⊎ (j ≢ k) → (j < k) ⊎ (k ≤ j)
          → cond (ltb j (k + 1)) (frame_view (frame_at (frames_with air k f) j)) no_frame_yet
          ≡ upd (λ (i : ℕ). cond (ltb i k) (frame_view (frame_at air i)) no_frame_yet) k (frame_view f) j
      go j (inl e) l = rw (e, upd_same, lt-ltb k (k + 1) (omega arith)) (ap frame_view spoken_frame)
      go j (inr n) (inl l) =
          rw (upd_other (λ (i : ℕ). cond (ltb i k) (frame_view (frame_at air i)) no_frame_yet) k (frame_view f) j n, lt-ltb j (k + 1) (omega arith), lt-ltb j k l)
          (ap (λ (x : List ℕ). frame_view (frame_of x)) (spoken_before j l))
      go j (inr n) (inr l) =
          rw (upd_other (λ (i : ℕ). cond (ltb i k) (frame_view (frame_at air i)) no_frame_yet) k (frame_view f) j n, le-ltb j (k + 1) (omega arith), le-ltb j k l)
          refl
