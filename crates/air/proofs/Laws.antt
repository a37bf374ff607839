-- Laws that the proofs of functions cite. Assumes nothing.
use mathlib.Core.Path.{◌≡◌, refl, sym, ◌∙◌}
use mathlib.Core.Bool.{Bool, true, false, ◌&&◌}
use mathlib.Core.List.{List, [], ◌++◌}
use Prim.Native.Nat.{ℕ, ◌+◌, ◌*◌, ◌-◌, ◌/◌, ◌≤◌, ◌<◌, min}
use native.Mathlib.Omega.{arith}
use borrow.Author.Tests.{eq-eqb, ne_eqb, eqb-true, eqb-false, lt-ltb, le-ltb, ltb-true, not-false}
use lib.Dec.{eqb, ltb}
use lib.ListN.{length, take, drop, take-append-drop, length-take, length-drop}
use Rattle.frame.specs.Layout.{bytes_of}
use Rattle.frame.specs.Refusals.{bad_length, frame_refusal}
use Rattle.frame.specs.ReadWrite.{write_refusal, written}
use Rattle.frame.specs.declared.Frame.{Frame}
use Rattle.frame.proofs.Laws.{passed, is_32, not_32, written_good, written_bad}
use Rattle.air.specs.Air.{bad_air, not_on_air, stretch_at, place_refusal, placed, frames_with}
use Rattle.air.specs.Stretch.{stretch_refusal, stretch_of}

-- the ways through `check`
pub air_short : (air : List ℕ) (frames k : ℕ) → (length air ≡ 65536 → ⊥) → 13 ≡ stretch_refusal air frames k
unfolding stretch_refusal
air_short air frames k h = simp (ne_eqb (length air) 65536 h)

pub never_sent : (air : List ℕ) (frames k : ℕ) → length air ≡ 65536 → frames ≤ k → 25 ≡ stretch_refusal air frames k
unfolding stretch_refusal
never_sent air frames k l h = simp (eq-eqb (length air) 65536 l, le-ltb k frames h)

pub no_place : (air : List ℕ) (frames k : ℕ) → length air ≡ 65536 → k < frames → 2048 ≤ k → 25 ≡ stretch_refusal air frames k
unfolding stretch_refusal
no_place air frames k l h p = simp (eq-eqb (length air) 65536 l, lt-ltb k frames h, le-ltb k 2048 p)

pub on_the_air : (air : List ℕ) (frames k : ℕ) → length air ≡ 65536 → k < frames → k < 2048 → 0 ≡ stretch_refusal air frames k
unfolding stretch_refusal
on_the_air air frames k l h p = simp (eq-eqb (length air) 65536 l, lt-ltb k frames h, lt-ltb k 2048 p)

-- and back: what is not refused is on the air
both : (a b : Bool) → (a && b) ≡ true → (a ≡ true) × (b ≡ true)
both true b e = (refl, e)
both false b e = absurd (let z : ◌≡◌ {A = ℕ} 0 1 = cc in omega arith)

pub is_on_air : (air : List ℕ) (frames k : ℕ) → stretch_refusal air frames k ≡ 0 → (length air ≡ 65536) × (k < frames) × (k < 2048)
unfolding stretch_refusal
is_on_air air frames k h =
    let p = passed (bad_air air) 13 _ (omega arith) h in
    let q = passed (not_on_air frames k) 25 0 (omega arith) p.1 in
    let b = both (ltb k frames) (ltb k 2048) (not-false _ q.0) in
    (eqb-true (length air) 65536 (not-false _ p.0), ltb-true k frames b.0, ltb-true k 2048 b.1)

-- the ways through `stretch`
pub stretch_good : (air : List ℕ) (frames k n : ℕ) → n ≡ stretch_refusal air frames k → n ≡ 0 → stretch_at air k ≡ stretch_of air frames k
unfolding stretch_of
stretch_good air frames k n e z = rw (← e, z)

pub stretch_empty : (air : List ℕ) (frames k n : ℕ) → n ≡ stretch_refusal air frames k → (n ≡ 0 → ⊥) → [] ≡ stretch_of air frames k
unfolding stretch_of
stretch_empty air frames k n e z = rw (← e, ne_eqb n 0 z)

-- the 32 bytes at 32 × k, where there are so many
stretch_full : (bytes : List ℕ) (k : ℕ) → 32 * k + 32 ≤ length bytes → length (stretch_at bytes k) ≡ 32
stretch_full bytes k r = simp (length-take, length-drop) (omega arith)

full_room : (bytes : List ℕ) (k : ℕ) → length (stretch_at bytes k) ≡ 32 → 32 * k + 32 ≤ length bytes
full_room bytes k e = let m : min 32 (length bytes - 32 * k) ≡ 32 = simp (length-take, length-drop) at e in omega arith

-- what a place that is not refused has
pub has_place : (bytes : List ℕ) (k : ℕ) (f : Frame) → place_refusal bytes k f ≡ 0 → (32 * k + 32 ≤ length bytes) × (frame_refusal f ≡ 0)
unfolding place_refusal
has_place bytes k f h =
    let p = passed (bad_length (stretch_at bytes k)) 6 (frame_refusal f) (omega arith) h in
    (full_room bytes k (eqb-true (length (stretch_at bytes k)) 32 (not-false _ p.0)), p.1)

-- where there is room the frame alone is judged, and what is good is written
pub place_judges : (bytes : List ℕ) (k : ℕ) (f : Frame) → 32 * k + 32 ≤ length bytes → place_refusal bytes k f ≡ frame_refusal f
unfolding place_refusal
place_judges bytes k f r = is_32 (stretch_at bytes k) (frame_refusal f) (stretch_full bytes k r)

pub write_good : (bytes : List ℕ) (k : ℕ) (f : Frame) → 32 * k + 32 ≤ length bytes → frame_refusal f ≡ 0
    → (place_refusal bytes k f ≡ 0) × (frames_with bytes k f ≡ placed bytes k (bytes_of f))
unfolding frames_with
write_good bytes k f r z = let e = place_judges bytes k f r ∙ z in (e, rw e)

-- a refusal keeps the bytes
pub kept_bytes : (bytes : List ℕ) (k : ℕ) (f : Frame) → (place_refusal bytes k f ≡ 0 → ⊥) → frames_with bytes k f ≡ bytes
unfolding frames_with
kept_bytes bytes k f h = rw (ne_eqb (place_refusal bytes k f) 0 h)

refused_keeps : (bytes : List ℕ) (k n : ℕ) (f : Frame) → n ≡ place_refusal bytes k f → (n ≡ 0 → ⊥)
    → (n ≡ place_refusal bytes k f) × (bytes ≡ frames_with bytes k f)
refused_keeps bytes k n f e h = (e, sym (kept_bytes bytes k f (λ z. h (e ∙ z))))

-- the ways through `write`
pub write_no_place : (bytes : List ℕ) (k : ℕ) (f : Frame) → length bytes / 32 ≤ k → (6 ≡ place_refusal bytes k f) × (bytes ≡ frames_with bytes k f)
unfolding place_refusal
write_no_place bytes k f h =
    refused_keeps bytes k 6 f (sym (not_32 (stretch_at bytes k) (frame_refusal f) (λ e. omega (arith, full_room bytes k e)))) (λ z. omega arith)

-- what the frame writer does to the part that it is lent, said of all the bytes
place_part : (bytes part : List ℕ) (k : ℕ) (f : Frame) → part ≡ stretch_at bytes k → write_refusal part f ≡ place_refusal bytes k f
unfolding place_refusal write_refusal
place_part bytes part k f p = rw p

pub write_part : (bytes part exit : List ℕ) (k n : ℕ) (f : Frame) → part ≡ stretch_at bytes k → n ≡ write_refusal part f → exit ≡ written part f
    → (n ≡ place_refusal bytes k f) × (take (32 * k) bytes ++ (exit ++ drop 32 (drop (32 * k) bytes)) ≡ frames_with bytes k f)
unfolding placed frames_with
write_part bytes part exit k n f p e w = (e ∙ judged, go (eqb (place_refusal bytes k f) 0) refl)
  where
    judged : write_refusal part f ≡ place_refusal bytes k f
    judged = place_part bytes part k f p

    go : (b : Bool) → eqb (place_refusal bytes k f) 0 ≡ b → take (32 * k) bytes ++ (exit ++ drop 32 (drop (32 * k) bytes)) ≡ frames_with bytes k f
    go true q = rw (q, w, written_good part f (judged ∙ eqb-true (place_refusal bytes k f) 0 q))
    go false q =
        rw (q, w, written_bad part f (λ z. eqb-false (place_refusal bytes k f) 0 q (sym judged ∙ z)), p, take-append-drop 32 (drop (32 * k) bytes), take-append-drop (32 * k) bytes)
