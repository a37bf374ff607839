-- Writing frame k changes frame k alone, and what is then read there is the frame that was written. Assumes nothing.
use mathlib.Core.Path.{◌≡◌, refl, sym, ap, ◌∙◌}
use mathlib.Core.Logic.{◌≢◌}
use mathlib.Core.Bool.{Bool, true, false}
use lib.Dec.{ltb, eqb}
use borrow.Author.Tests.{ltb-true, ltb-false, eqb-true, eqb-false}
use mathlib.Core.List.{List, ◌++◌}
use Prim.Native.Nat.{ℕ, ◌+◌, ◌*◌, ◌-◌, ◌<◌, ◌≤◌}
use native.Mathlib.Omega.{arith}
use lib.ListN.{length, get_or, take, drop, length-append, length-take, length-drop, get_or-append}
use lib.Seq.{get_or-append-add, get_or-take, get_or-drop, take_at, drop_at, ext_get_or}
use Rattle.frame.specs.Layout.{bytes_of}
use Rattle.frame.specs.Types.{Typed}
use Rattle.frame.specs.ReadWrite.{read_of}
use Rattle.frame.specs.declared.Frame.{Frame}
use Rattle.frame.proofs.RoundTrip.{bytes_length}
use Rattle.frame.proofs.Theorems.{bytes_read}
use Rattle.air.specs.Air.{stretch_at, place_refusal, placed, frames_with}
use Rattle.air.specs.Stretch.{stretch_of}
use Rattle.air.proofs.Laws.{write_good, has_place, kept_bytes, on_the_air, stretch_good}

stretch_byte : (bytes : List ℕ) (j i : ℕ) → i < 32 → get_or (stretch_at bytes j) i 0 ≡ get_or bytes (32 * j + i) 0
stretch_byte bytes j i l = get_or-take 32 (drop (32 * j) bytes) i 0 l ∙ get_or-drop (32 * j) bytes i 0

-- a stretch is as long as the length of the bytes says, and no longer than a frame
pub same_stretch : (a b : List ℕ) (j : ℕ) → length a ≡ length b → length (stretch_at a j) ≡ length (stretch_at b j)
same_stretch a b j e = simp (length-take, length-drop, e)

short_stretch : (bytes : List ℕ) (j : ℕ) → length (stretch_at bytes j) ≤ 32
short_stretch bytes j = simp (length-take, length-drop) (omega arith)

module _ (bytes : List ℕ) (k : ℕ) (frame : List ℕ) (room : 32 * k + 32 ≤ length bytes) (full : length frame ≡ 32) where
  pub placed_length : length (placed bytes k frame) ≡ length bytes
  unfolding placed
  placed_length = simp (length-append, length-take, length-drop) (omega arith)

  pub placed_same : stretch_at (placed bytes k frame) k ≡ frame
  unfolding placed
  placed_same =
      rw (drop_at (take (32 * k) bytes) (frame ++ drop 32 (drop (32 * k) bytes)) (32 * k) (simp length-take (omega arith)), take_at frame (drop 32 (drop (32 * k) bytes)) 32 full)

  -- a byte before or after the stretch
  byte_before : (x : ℕ) → x < 32 * k → get_or (placed bytes k frame) x 0 ≡ get_or bytes x 0
  unfolding placed
  byte_before x h =
      get_or-append (take (32 * k) bytes) (frame ++ drop 32 (drop (32 * k) bytes)) 0 x (simp length-take (omega arith)) ∙ get_or-take (32 * k) bytes x 0 h

  byte_after : (n : ℕ) → get_or (placed bytes k frame) (32 * k + (32 + n)) 0 ≡ get_or bytes (32 * k + (32 + n)) 0
  unfolding placed
  byte_after n =
      ap (λ (y : ℕ). get_or (take (32 * k) bytes ++ (frame ++ drop 32 (drop (32 * k) bytes))) y 0) place
      ∙ get_or-append-add (take (32 * k) bytes) (frame ++ drop 32 (drop (32 * k) bytes)) (length frame + n) 0
      ∙ get_or-append-add frame (drop 32 (drop (32 * k) bytes)) n 0
      ∙ get_or-drop 32 (drop (32 * k) bytes) n 0
      ∙ get_or-drop (32 * k) bytes (32 + n) 0
    where
      place : 32 * k + (32 + n) ≡ length (take (32 * k) bytes) + (length frame + n)
      place = simp length-take (omega arith)

  byte_other : (j i : ℕ) → j ≢ k → i < 32 → get_or (placed bytes k frame) (32 * j + i) 0 ≡ get_or bytes (32 * j + i) 0
  byte_other j i ne h = go (ltb j k) refl
    where
      go : (b : Bool) → ltb j k ≡ b → get_or (placed bytes k frame) (32 * j + i) 0 ≡ get_or bytes (32 * j + i) 0
      go true e = byte_before (32 * j + i) (omega (arith, ltb-true j k e))
      go false e =
          let after : 32 * j + i ≡ 32 * k + (32 + (32 * j + i - (32 * k + 32))) = omega (arith, ltb-false j k e) in
          rw after (byte_after (32 * j + i - (32 * k + 32)))

  pub placed_other : (j : ℕ) → j ≢ k → stretch_at (placed bytes k frame) j ≡ stretch_at bytes j
  placed_other j ne =
      ext_get_or 0 (stretch_at (placed bytes k frame) j) (stretch_at bytes j) (same_stretch (placed bytes k frame) bytes j placed_length)
      (λ i h. stretch_byte (placed bytes k frame) j i (omega (arith, short)) ∙ byte_other j i ne (omega (arith, short)) ∙ sym (stretch_byte bytes j i (omega (arith, short))))
    where
      short : length (stretch_at (placed bytes k frame) j) ≤ 32
      short = short_stretch (placed bytes k frame) j

-- the length stays, and so does every other frame, refused or not
pub length_stays : (bytes : List ℕ) (k : ℕ) (f : Frame) → length (frames_with bytes k f) ≡ length bytes
length_stays bytes k f = go (eqb (place_refusal bytes k f) 0) refl
  where
    go : (b : Bool) → eqb (place_refusal bytes k f) 0 ≡ b → length (frames_with bytes k f) ≡ length bytes
    go true e =
        let p = has_place bytes k f (eqb-true (place_refusal bytes k f) 0 e) in
        rw (write_good bytes k f p.0 p.1).1 (placed_length bytes k (bytes_of f) p.0 (bytes_length f))
    go false e = rw (kept_bytes bytes k f (eqb-false (place_refusal bytes k f) 0 e))

pub others_stay : (bytes : List ℕ) (k j : ℕ) (f : Frame) → j ≢ k → stretch_at (frames_with bytes k f) j ≡ stretch_at bytes j
others_stay bytes k j f ne = go (eqb (place_refusal bytes k f) 0) refl
  where
    go : (b : Bool) → eqb (place_refusal bytes k f) 0 ≡ b → stretch_at (frames_with bytes k f) j ≡ stretch_at bytes j
    go true e =
        let p = has_place bytes k f (eqb-true (place_refusal bytes k f) 0 e) in
        rw (write_good bytes k f p.0 p.1).1 (placed_other bytes k (bytes_of f) p.0 (bytes_length f) j ne)
    go false e = rw (kept_bytes bytes k f (eqb-false (place_refusal bytes k f) 0 e))

-- after a write that is not refused frame k is the frame that was written, and reads as it
pub frame_there : (bytes : List ℕ) (k : ℕ) (f : Frame) → place_refusal bytes k f ≡ 0 → stretch_at (frames_with bytes k f) k ≡ bytes_of f
frame_there bytes k f z =
    let p = has_place bytes k f z in
    rw (write_good bytes k f p.0 p.1).1 (placed_same bytes k (bytes_of f) p.0 (bytes_length f))

pub frame_reads_back : (bytes : List ℕ) (k : ℕ) (f : Frame) → Typed f → place_refusal bytes k f ≡ 0
    → read_of (stretch_at (frames_with bytes k f) k) ≡ record { refusal = 0; frame = f }
frame_reads_back bytes k f fits z = rw (frame_there bytes k f z) (bytes_read f fits (has_place bytes k f z).1)

-- so does the stretch that the air gives back for it
pub reads_as_written : (air : List ℕ) (frames k : ℕ) (f : Frame) → Typed f → length air ≡ 65536 → place_refusal air k f ≡ 0 → k < frames
    → read_of (stretch_of (frames_with air k f) frames k) ≡ record { refusal = 0; frame = f }
reads_as_written air frames k f fits whole z l =
    let p = has_place air k f z in
    let there = on_the_air (frames_with air k f) frames k (length_stays air k f ∙ whole) l (omega arith) in
    rw (← stretch_good (frames_with air k f) frames k 0 there refl) (frame_reads_back air k f fits z)
