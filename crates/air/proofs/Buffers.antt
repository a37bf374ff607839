-- What is written where there is no frame (kind 0), and into a buffer for one frame. Assumes nothing.
use mathlib.Core.Path.{◌≡◌, sym, ◌∙◌}
use mathlib.Core.Logic.{◌≢◌}
use mathlib.Core.List.{List}
use Prim.Native.Nat.{ℕ}
use native.Mathlib.Omega.{arith}
use lib.ListN.{length}
use lib.Seq.{take_all}
use Rattle.frame.specs.Layout.{bytes_of}
use Rattle.frame.specs.Refusals.{frame_refusal}
use Rattle.frame.specs.declared.Frame.{Frame}
use Rattle.air.specs.Air.{place_refusal, frames_with}
use Rattle.air.proofs.Laws.{has_place, place_judges, kept_bytes}
use Rattle.air.proofs.Stretches.{length_stays, frame_there}

-- no frame is refused (7), so the bytes stay
none_refused : (f : Frame) → f.kind ≡ 0 → frame_refusal f ≡ 7
unfolding frame_refusal
none_refused f e = rw e

pub none_placed : (bytes : List ℕ) (k : ℕ) (f : Frame) → f.kind ≡ 0 → place_refusal bytes k f ≢ 0
none_placed bytes k f e z = omega (arith, (has_place bytes k f z).1, none_refused f e)

pub none_kept : (bytes : List ℕ) (k : ℕ) (f : Frame) → f.kind ≡ 0 → frames_with bytes k f ≡ bytes
none_kept bytes k f e = kept_bytes bytes k f (none_placed bytes k f e)

-- in a buffer of 32 bytes the frame alone is judged, and a good one fills the buffer
pub buffer_judges : (buffer : List ℕ) (f : Frame) → length buffer ≡ 32 → place_refusal buffer 0 f ≡ frame_refusal f
buffer_judges buffer f l = place_judges buffer 0 f (omega arith)

pub buffer_filled : (buffer : List ℕ) (f : Frame) → length buffer ≡ 32 → frame_refusal f ≡ 0 → frames_with buffer 0 f ≡ bytes_of f
buffer_filled buffer f l z =
    sym (take_all 32 (frames_with buffer 0 f) (omega (arith, length_stays buffer 0 f))) ∙ frame_there buffer 0 f (buffer_judges buffer f l ∙ z)
