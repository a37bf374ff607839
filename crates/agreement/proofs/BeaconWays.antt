-- A beacon in a yard, by each way that it can end: what it answers, and the yard and the air that it leaves. Assumes nothing.
use mathlib.Core.Path.{◌≡◌}
use mathlib.Core.Logic.{◌≢◌}
use mathlib.Core.Bool.{true, false}
use Prim.Native.Nat.{ℕ, ◌+◌, ◌<◌, ◌≤◌}
use lib.ListN.{length, set}
use lib.Seq.{set-get_or}
use borrow.Author.Tests.{lt-ltb, le-ltb, le-leb, lt-leb, eq-eqb, ne_eqb}
use Rattle.air.specs.Air.{frames_with}
use Rattle.post.specs.Newest.{beacon_frame}
use Rattle.steps.specs.Refusals.{not_in_yard}
use Rattle.steps.specs.Steps.{beacon_step}
use Rattle.steps.specs.BeaconAnswer as beaconing
use Rattle.state.specs.Yards.{post_at, beacons_at}
use Rattle.state.specs.Changed.{with_beacons}
use Rattle.yard.specs.Singles.{post_beacons, post_beacons_air, yard_beacons, yard_beacons_air}
use Rattle.yard.specs.Worlds.{World, beacon, single}
use Rattle.laws.proofs.Broadcasts.{Sendable}
use Rattle.agreement.proofs.AirViews.{spoken_frames}

-- a beacon that leaves the world as it was, answering its refusal
pub record BeaconStays (w : World) (lane number : ℕ) : Type 0 where
  pub answer : (yard_beacons w.air w.yard lane).answer ≡ beaconing.Refused number
  pub leaves : single w (beacon lane) ≡ w

-- 4
pub beacon_4 : (w : World) (lane : ℕ) → 8 ≤ lane → BeaconStays w lane 4
unfolding single yard_beacons yard_beacons_air
beacon_4 w lane l = record { answer = rw (le-ltb lane 8 l); leaves = rw (le-ltb lane 8 l) }

-- 13
pub beacon_13 : (w : World) (lane : ℕ) → lane < 8 → length w.air ≢ 65536 → BeaconStays w lane 13
unfolding single yard_beacons yard_beacons_air post_beacons post_beacons_air
beacon_13 w lane l n = record {
  answer = rw (lt-ltb lane 8 l, ne_eqb (length w.air) 65536 n);
  leaves = rw (lt-ltb lane 8 l, ne_eqb (length w.air) 65536 n, set-get_or w.yard.beacons lane 0);
}

-- 21
pub beacon_21 : (w : World) (lane : ℕ) → lane < 8 → length w.air ≡ 65536
    → not_in_yard (post_at w.yard lane).posts (post_at w.yard lane).lane ≡ true
    → BeaconStays w lane 21
unfolding single yard_beacons yard_beacons_air post_beacons post_beacons_air
beacon_21 w lane l e i = record {
  answer = rw (lt-ltb lane 8 l, eq-eqb (length w.air) 65536 e, i);
  leaves = rw (lt-ltb lane 8 l, eq-eqb (length w.air) 65536 e, i, set-get_or w.yard.beacons lane 0);
}

-- 27
pub beacon_27 : (w : World) (lane : ℕ) → lane < 8 → length w.air ≡ 65536
    → not_in_yard (post_at w.yard lane).posts (post_at w.yard lane).lane ≡ false → 128 ≤ beacons_at w.yard lane
    → BeaconStays w lane 27
unfolding single yard_beacons yard_beacons_air post_beacons post_beacons_air
beacon_27 w lane l e i h = record {
  answer = rw (lt-ltb lane 8 l, eq-eqb (length w.air) 65536 e, i, le-leb 128 (beacons_at w.yard lane) h);
  leaves = rw (lt-ltb lane 8 l, eq-eqb (length w.air) 65536 e, i, le-leb 128 (beacons_at w.yard lane) h, set-get_or w.yard.beacons lane 0);
}

-- a beacon that is sent
pub record BeaconDone (w : World) (lane : ℕ) : Type 0 where
  pub answer : (yard_beacons w.air w.yard lane).answer ≡ beaconing.Sent
  pub leaves : single w (beacon lane) ≡ record {
    yard = with_beacons w.yard (w.yard.frames + 1) (set w.yard.beacons lane (beacons_at w.yard lane + 1));
    air = frames_with w.air w.yard.frames (beacon_frame (post_at w.yard lane));
  }

pub beacon_done_lem : (w : World) (lane : ℕ) → lane < 8 → length w.air ≡ 65536
    → not_in_yard (post_at w.yard lane).posts (post_at w.yard lane).lane ≡ false → beacons_at w.yard lane < 128
    → w.yard.frames < 2048 → Sendable (beacon_frame (post_at w.yard lane))
    → BeaconDone w lane
unfolding single yard_beacons yard_beacons_air post_beacons post_beacons_air beacon_step
beacon_done_lem w lane l e i h r s = record {
  answer = rw (lt-ltb lane 8 l, eq-eqb (length w.air) 65536 e, i, lt-leb 128 (beacons_at w.yard lane) h);
  leaves = rw (
    lt-ltb lane 8 l,
    eq-eqb (length w.air) 65536 e,
    i,
    lt-leb 128 (beacons_at w.yard lane) h,
    spoken_frames w.air w.yard.frames (beacon_frame (post_at w.yard lane)) e r s,
  );
}
