-- The ways through a hearing on a state. Assumes nothing.
use mathlib.Core.Path.{◌≡◌, refl, sym, ◌∙◌}
use mathlib.Core.Bool.{cond}
use mathlib.Core.Logic.{◌⊎◌, inl, inr}
use mathlib.Core.List.{List, []}
use Prim.Native.Nat.{ℕ, ◌+◌, ◌*◌, ◌<◌, ◌≤◌}
use native.Mathlib.Omega.{arith}
use lib.Dec.{ltb, eqb}
use lib.ListN.{length, get_or, set}
use borrow.Author.Tests.{ne_eqb, lt-ltb, le-ltb}
use Rattle.frame.specs.declared.Frame.{Frame}
use Rattle.air.specs.Air.{frames_with}
use Rattle.row.specs.Rows.{post_in, known_in}
use Rattle.steps.specs.Knowing.{Stepped, stepped, hears_by}
use Rattle.steps.specs.HearAnswer as hearings
use Rattle.state.specs.Yards.{Yard, post_at}
use Rattle.state.specs.Changed.{with_post}
use Rattle.yard.specs.Singles.{frames_after, stops_hearing, frame_at}
use Rattle.state.specs.States.{Held, whole, other, row_of, yard_in, knowns_in, held_in}
use Rattle.yard.specs.InState.{After, after, hears_in}
use Rattle.row.proofs.LentParts.{put_part}
use Rattle.state.proofs.StateLaws.{held_whole, held_other, at_yard, at_knowns, frames_in_lem, front_cell, row_long, row_yard, row_knowns, lent_row, row_back, lent_is, back_is, lent_length, frames_held}
use Rattle.yard.proofs.PartWays.{Sends, misplaced}

-- refused: 4, 12, and what stops it
over_7 : (h : Held) (air : List ℕ) (lane k : ℕ) → 8 ≤ lane
    → ◌≡◌ {A = After hearings.HearAnswer} (record { answer = hearings.Refused 4; held = h; air = air }) (hears_in h air lane k)
unfolding hears_in
over_7 (whole y knowns) air lane k l = rw (lt-ltb 7 lane l)
over_7 (other cells) air lane k l = rw (lt-ltb 7 lane l)

hear_over_7 : (s air : List ℕ) (lane k : ℕ) → 8 ≤ lane → after (hearings.Refused 4) s air ≡ hears_in (held_in s) air lane k
hear_over_7 s air lane k l = over_7 (held_in s) air lane k l

hear_short : (s air : List ℕ) (lane k : ℕ) → lane < 8 → (length s ≡ 4483 → ⊥)
    → after (hearings.Refused 12) s air ≡ hears_in (held_in s) air lane k
unfolding hears_in
hear_short s air lane k l h = rw (held_other s h, le-ltb 7 lane (omega arith))

pub hear_misplaced : (s air : List ℕ) (lane k n : ℕ) → n ≡ cond (ltb 7 lane) 4 (cond (eqb (length s) 4483) 0 12) → (n ≡ 0 → ⊥)
    → after (hearings.Refused n) s air ≡ hears_in (held_in s) air lane k
hear_misplaced s air lane k n e h = go (misplaced s lane n e h)
  where
    go : ((8 ≤ lane) × (n ≡ 4)) ⊎ ((lane < 8) × (length s ≡ 4483 → ⊥) × (n ≡ 12)) → after (hearings.Refused n) s air ≡ hears_in (held_in s) air lane k
    go (inl x) = rw x.1 (hear_over_7 s air lane k x.0)
    go (inr x) = rw x.2 (hear_short s air lane k x.0 x.1)

-- over a whole yard
stopped : (y : Yard) (ks : List (List ℕ)) (air : List ℕ) (lane k n : ℕ) → lane < 8 → n ≡ stops_hearing air (post_at y lane) y.frames k → (n ≡ 0 → ⊥)
    → ◌≡◌ {A = After hearings.HearAnswer} (record { answer = hearings.Refused n; held = whole y ks; air = air }) (hears_in (whole y ks) air lane k)
unfolding hears_in
stopped y ks air lane k n l e h = rw (le-ltb 7 lane (omega arith), ← e, ne_eqb n 0 h)

runs : (y : Yard) (ks : List (List ℕ)) (air exit : List ℕ) (lane k n frames : ℕ) (d : Stepped hearings.HearAnswer) → lane < 8
    → n ≡ stops_hearing air (post_at y lane) y.frames k → n ≡ 0 → d ≡ hears_by (get_or ks lane []) (post_at y lane) (frame_at air k)
    → frames ≡ frames_after air y.frames d.frame → exit ≡ frames_with air y.frames d.frame
    → ◌≡◌ {A = After hearings.HearAnswer} (record { answer = d.answer; held = whole (with_post y lane d.post frames) (set ks lane d.known); air = exit })
    (hears_in (whole y ks) air lane k)
unfolding hears_in
runs y ks air exit lane k n frames d l e z ed ef ex = rw (le-ltb 7 lane (omega arith), ← e, z, ef, ex, ed)

-- on a state, whose row is lent
pub hear_stopped : (s air : List ℕ) (lane k frames n : ℕ) → lane < 8 → length s ≡ 4483 → frames ≡ get_or s 2 0
    → n ≡ stops_hearing air (post_in (lent_row s lane)) frames k → (n ≡ 0 → ⊥) → after (hearings.Refused n) s air ≡ hears_in (held_in s) air lane k
hear_stopped s air lane k frames n small long ef e h =
    let j : n ≡ stops_hearing air (post_in (row_of s lane)) (get_or s 2 0) k = rw (lent_is s lane, ef) at e in
    rw (held_whole s long) (stopped (yard_in s) (knowns_in s) air lane k n small (rw (at_yard s lane small, frames_in_lem s) j) h)

hear_row : (s row t air exit : List ℕ) (lane k n : ℕ) (f g : Frame) (a : hearings.HearAnswer) → lane < 8 → length s ≡ 4483 → length row ≡ 543
    → n ≡ stops_hearing air (post_in (row_of s lane)) (get_or s 2 0) k → n ≡ 0 → f ≡ frame_at air k
    → stepped a row g ≡ hears_by (known_in (row_of s lane)) (post_in (row_of s lane)) f → Sends (put_part s (139 + 543 * lane) 543 row) t air exit g
    → after a t exit ≡ hears_in (held_in s) air lane k
hear_row s row t air exit lane k n f g a small long size en z ef ed es =
    let s' : List ℕ = put_part s (139 + 543 * lane) 543 row in
    let at = at_yard s lane small in
    let ka = at_knowns s lane small in
    let fr : get_or s' 2 0 ≡ (yard_in s).frames = front_cell s lane row long small size 2 (omega arith) ∙ sym (frames_in_lem s) in
    let frames : ℕ = frames_after air (yard_in s).frames g in
    let h : held_in t ≡ whole (with_post (yard_in s) lane (post_in row) (frames_after air (yard_in s).frames g)) (set (knowns_in s) lane (known_in row))
    = rw (es.0, fr) (frames_held s' frames (row_long s lane row long small size) ∙ rw (row_yard s lane row long small size, row_knowns s lane row long small size))
    in
    rw (h, held_whole s long) (runs (yard_in s) (knowns_in s) air exit lane k n frames (stepped a row g) small (rw (at, frames_in_lem s) en) z (rw (ka, at, ← ef) ed) refl (rw (← fr) es.1))

pub hear_runs : (s row t air exit : List ℕ) (lane k frames n : ℕ) (f g : Frame) (a : hearings.HearAnswer) → lane < 8 → length s ≡ 4483
    → length row ≡ length (lent_row s lane) → frames ≡ get_or s 2 0 → n ≡ stops_hearing air (post_in (lent_row s lane)) frames k → n ≡ 0
    → (n ≡ 0 → f ≡ frame_at air k) → stepped a row g ≡ hears_by (known_in (lent_row s lane)) (post_in (lent_row s lane)) f
    → Sends (row_back s lane row) t air exit g
    → after a t exit ≡ hears_in (held_in s) air lane k
hear_runs s row t air exit lane k frames n f g a small long lr ef en z eg ed es =
    hear_row s row t air exit lane k n f g a small long (lr ∙ lent_length s lane long small) (rw (lent_is s lane, ef) at en) z (eg z) (rw (lent_is s lane) at ed) (rw (back_is s lane row) at es)
