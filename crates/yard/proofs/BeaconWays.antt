-- The ways through a beacon on a state. Assumes nothing.
use mathlib.Core.Path.{◌≡◌, refl, sym, ◌∙◌}
use mathlib.Core.Bool.{cond}
use mathlib.Core.Logic.{◌⊎◌, inl, inr}
use mathlib.Core.List.{List}
use Prim.Native.Nat.{ℕ, ◌+◌, ◌<◌, ◌≤◌}
use native.Mathlib.Omega.{arith}
use lib.Dec.{ltb, eqb}
use lib.ListN.{length, get_or, set}
use borrow.Author.Tests.{ne_eqb, lt-ltb, le-ltb}
use Rattle.air.specs.Air.{frames_with}
use Rattle.row.specs.Rows.{part, put_in, post_in}
use Rattle.row.proofs.Laws.{cell_apart}
use Rattle.steps.specs.Steps.{Beaconed, beacon_step}
use Rattle.steps.specs.BeaconAnswer as beaconing
use Rattle.state.specs.Yards.{Yard, post_at, beacons_at}
use Rattle.state.specs.Changed.{with_beacons}
use Rattle.yard.specs.Singles.{frames_after, stops_beacon}
use Rattle.state.specs.States.{Held, whole, other, row_of, yard_in, knowns_in, held_in}
use Rattle.yard.specs.InState.{After, after, beacons_in}
use Rattle.state.proofs.StateLaws.{held_whole, held_other, at_yard, frames_in_lem, beacons_in_lem, lent_row, lent_is, beacons_yard, cell_knowns, cell_long, frames_held}
use Rattle.yard.proofs.PartWays.{Sends, misplaced}

-- refused: 4, 12, and what stops it
over_7 : (h : Held) (air : List ℕ) (lane : ℕ) → 8 ≤ lane
    → ◌≡◌ {A = After beaconing.BeaconAnswer} (record { answer = beaconing.Refused 4; held = h; air = air }) (beacons_in h air lane)
unfolding beacons_in
over_7 (whole y knowns) air lane l = rw (lt-ltb 7 lane l)
over_7 (other cells) air lane l = rw (lt-ltb 7 lane l)

beacon_over_7 : (s air : List ℕ) (lane : ℕ) → 8 ≤ lane → after (beaconing.Refused 4) s air ≡ beacons_in (held_in s) air lane
beacon_over_7 s air lane l = over_7 (held_in s) air lane l

beacon_short : (s air : List ℕ) (lane : ℕ) → lane < 8 → (length s ≡ 4483 → ⊥) → after (beaconing.Refused 12) s air ≡ beacons_in (held_in s) air lane
unfolding beacons_in
beacon_short s air lane l h = rw (held_other s h, le-ltb 7 lane (omega arith))

pub beacon_misplaced : (s air : List ℕ) (lane n : ℕ) → n ≡ cond (ltb 7 lane) 4 (cond (eqb (length s) 4483) 0 12) → (n ≡ 0 → ⊥)
    → after (beaconing.Refused n) s air ≡ beacons_in (held_in s) air lane
beacon_misplaced s air lane n e h = go (misplaced s lane n e h)
  where
    go : ((8 ≤ lane) × (n ≡ 4)) ⊎ ((lane < 8) × (length s ≡ 4483 → ⊥) × (n ≡ 12)) → after (beaconing.Refused n) s air ≡ beacons_in (held_in s) air lane
    go (inl x) = rw x.1 (beacon_over_7 s air lane x.0)
    go (inr x) = rw x.2 (beacon_short s air lane x.0 x.1)

-- over a whole yard
stopped : (y : Yard) (ks : List (List ℕ)) (air : List ℕ) (lane n : ℕ) → lane < 8 → n ≡ stops_beacon air (post_at y lane) (beacons_at y lane) → (n ≡ 0 → ⊥)
    → ◌≡◌ {A = After beaconing.BeaconAnswer} (record { answer = beaconing.Refused n; held = whole y ks; air = air }) (beacons_in (whole y ks) air lane)
unfolding beacons_in
stopped y ks air lane n l e h = rw (le-ltb 7 lane (omega arith), ← e, ne_eqb n 0 h)

runs : (y : Yard) (ks : List (List ℕ)) (air exit : List ℕ) (lane n frames : ℕ) (d : Beaconed) → lane < 8
    → n ≡ stops_beacon air (post_at y lane) (beacons_at y lane) → n ≡ 0 → d ≡ beacon_step (post_at y lane)
    → frames ≡ frames_after air y.frames d.frame → exit ≡ frames_with air y.frames d.frame
    → ◌≡◌ {A = After beaconing.BeaconAnswer} (record { answer = d.answer; held = whole (with_beacons y frames (set y.beacons lane (beacons_at y lane + 1))) ks; air = exit })
    (beacons_in (whole y ks) air lane)
unfolding beacons_in
runs y ks air exit lane n frames d l e z ed ef ex = rw (le-ltb 7 lane (omega arith), ← e, z, ef, ex, ed)

-- on a state, whose row is lent
pub beacon_stopped : (s air : List ℕ) (lane sent n : ℕ) → lane < 8 → length s ≡ 4483 → sent ≡ get_or (part s 3 8) lane 0
    → n ≡ stops_beacon air (post_in (lent_row s lane)) sent → (n ≡ 0 → ⊥) → after (beaconing.Refused n) s air ≡ beacons_in (held_in s) air lane
beacon_stopped s air lane sent n small long eb e h =
    let j : n ≡ stops_beacon air (post_in (row_of s lane)) (get_or (part s 3 8) lane 0) = rw (lent_is s lane, eb) at e in
    rw (held_whole s long) (stopped (yard_in s) (knowns_in s) air lane n small (rw (at_yard s lane small, beacons_in_lem s) j) h)

pub beacon_runs : (s s' t air exit : List ℕ) (lane sent n : ℕ) (d : Beaconed) → lane < 8 → length s ≡ 4483 → sent ≡ get_or (part s 3 8) lane 0
    → n ≡ stops_beacon air (post_in (lent_row s lane)) sent → n ≡ 0 → d ≡ beacon_step (post_in (lent_row s lane))
    → s' ≡ put_in s 3 8 lane (sent + 1) → Sends s' t air exit d.frame
    → after d.answer t exit ≡ beacons_in (held_in s) air lane
beacon_runs s s' t air exit lane sent n d small long eb en z ed et es =
    let at = at_yard s lane small in
    let b : sent ≡ beacons_at (yard_in s) lane = rw (beacons_in_lem s) eb in
    let fr : get_or s' 2 0 ≡ (yard_in s).frames = rw et (cell_apart s 3 8 lane (sent + 1) 2 refl) ∙ sym (frames_in_lem s) in
    let frames : ℕ = frames_after air (yard_in s).frames d.frame in
    let long' : length s' ≡ 4483 = rw et (cell_long s 3 8 lane (sent + 1) (omega arith) ∙ long) in
    let h : held_in t ≡ whole (with_beacons (yard_in s) (frames_after air (yard_in s).frames d.frame) (set (yard_in s).beacons lane (beacons_at (yard_in s) lane + 1))) (knowns_in s)
    = rw (es.0, fr) (frames_held s' frames long' ∙ rw (et, beacons_yard s lane (sent + 1), cell_knowns s 3 8 lane (sent + 1) (omega arith), b))
    in
    rw (h, held_whole s long) (runs (yard_in s) (knowns_in s) air exit lane n frames d small (rw (at, beacons_in_lem s, ← eb, ← lent_is s lane) en) z (rw (at, ← lent_is s lane) ed) refl (rw (← fr) es.1))
