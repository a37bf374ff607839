-- Where it is not refused, a beacon in a yard does what the model's beacon does. Assumes nothing.
use mathlib.Core.Path.{◌≡◌, ap, ◌∙◌}
use mathlib.Core.Bool.{true, false}
use Prim.Native.Nat.{ℕ, ◌+◌, ◌<◌}
use native.Mathlib.Numerals.{add-one}
use lib.ListN.{length-set}
use Rattle.air.proofs.Stretches.{length_stays}
use Rattle.post.specs.Newest.{beacon_frame}
use Rattle.steps.specs.Refusals.{not_in_yard}
use Rattle.state.specs.Yards.{post_at, beacons_at}
use Rattle.yard.specs.Worlds.{World, beacon, single}
use Rattle.laws.proofs.NewestLaws.{beacon_accepted, beacon_fits}
use Rattle.laws.proofs.Broadcasts.{Sendable}
use Rattle.model.proofs.Functions.{upd}
use Rattle.model.proofs.Model as model
use Rattle.agreement.proofs.Views.{roles_of, places_view, post_view, yard_view}
use Rattle.agreement.proofs.ArrayViews.{lanes_set}
use Rattle.agreement.proofs.FrameViews.{view_beacon_frame}
use Rattle.agreement.proofs.AirViews.{air_spoken}
use Rattle.agreement.proofs.Sound.{on_air_more, Sound}
use Rattle.agreement.proofs.BeaconWays.{BeaconDone, beacon_done_lem}

module _ (present sources dests : ℕ) where
  abbrev R : model.Roles
  R = roles_of present sources dests

  module _ (w : World) (s : Sound present sources dests w) (lane : ℕ) (here : lane < 8)
      (inside : not_in_yard (post_at w.yard lane).posts (post_at w.yard lane).lane ≡ false)
      (left : beacons_at w.yard lane < 128) (room : w.yard.frames < 2048) where
    can_beacon : Sendable (beacon_frame (post_at w.yard lane))
    can_beacon =
        let i = s.post lane here in
        record { good = beacon_accepted (post_at w.yard lane) i.valid.lane; fits = beacon_fits (post_at w.yard lane) i.shaped.table_values }

    pub beacon_is_done : BeaconDone w lane
    beacon_is_done = beacon_done_lem w lane here s.whole inside left room can_beacon

    pub beacon_view : yard_view (single w (beacon lane)) ≡ model.beacon_done R (yard_view w) lane
    beacon_view = ap yard_view beacon_is_done.leaves ∙ λ t. record {
      posts = (yard_view w).posts;
      air = (air_spoken w.air w.yard.frames (beacon_frame (post_at w.yard lane)) s.whole room can_beacon
          ∙ ap (upd (yard_view w).air w.yard.frames)
          (view_beacon_frame (post_at w.yard lane) (s.post lane here).shaped
          ∙ ap (λ (i : ℕ). model.entries_frame true i model.no_order_lem (post_view (post_at w.yard lane))) (s.post lane here).its_lane)) t;
      frames = add-one w.yard.frames t;
      beacons = (lanes_set w.yard.beacons lane (beacons_at w.yard lane + 1) s.counts here
          ∙ ap (upd (beacons_at w.yard) lane) (add-one (beacons_at w.yard lane))) t;
      first = places_view w.yard.first;
    }

    pub beacon_sound : Sound present sources dests (single w (beacon lane))
    beacon_sound = rw beacon_is_done.leaves (record {
      its_present = s.its_present;
      its_sources = s.its_sources;
      eight = s.eight;
      counts = length-set w.yard.beacons lane (beacons_at w.yard lane + 1) ∙ s.counts;
      places = s.places;
      whole = length_stays w.air w.yard.frames (beacon_frame (post_at w.yard lane)) ∙ s.whole;
      post = s.post;
      on_air = on_air_more w.air w.yard.frames (beacon_frame (post_at w.yard lane)) s.whole room can_beacon s.on_air;
    })
