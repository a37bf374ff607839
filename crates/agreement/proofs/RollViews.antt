-- The roll call's list of single steps is the model's list, and S and N are counts of ones. Assumes nothing.
use mathlib.Core.Path.{◌≡◌, refl, ◌∙◌}
use Prim.Native.Nat.{ℕ, zero, suc, ◌<◌}
use lib.Count.{ones}
use Rattle.laws.proofs.LaneCounts.{lanes_below, lanes_ones}
use Rattle.state.specs.Yards.{post_at}
use Rattle.yard.specs.Worlds.{World}
use Rattle.roll.specs.RollCall.{lane_hears, lanes_hears, posts_hear, beacons_sent, sources_below, beacons_heard, posts_hear_beacons}
use Rattle.model.proofs.Model as model
use Rattle.agreement.proofs.Views.{roles_of, yard_view}

-- ---- the first frames

lane_same : (w : World) (p q n : ℕ) → lane_hears w.yard.first p q n ≡ model.lane_hears (yard_view w) p q n
unfolding lane_hears model.lane_hears
lane_same w p q zero = refl
lane_same w p q (suc n) = rw (lane_same w p q n)

lanes_same : (w : World) (p k : ℕ) → lanes_hears w.yard p k ≡ model.lanes_hears (yard_view w) p k
unfolding lanes_hears model.lanes_hears
lanes_same w p zero = refl
lanes_same w p (suc q) = rw (lanes_same w p q, lane_same w p q (post_at w.yard q).serial.0)

module _ (present sources dests : ℕ) where
  abbrev R : model.Roles
  R = roles_of present sources dests

  pub posts_same_lem : (w : World) (k : ℕ) → w.yard.present ≡ present → posts_hear w.yard k ≡ model.posts_hear R (yard_view w) k
  unfolding posts_hear model.posts_hear
  posts_same_lem w zero e = refl
  posts_same_lem w (suc p) e = rw (posts_same_lem w p e, lanes_same w p 8, e)

  -- ---- the beacons

  pub beacons_same : (k : ℕ) → beacons_sent sources k ≡ model.beacons_sent R k
  unfolding beacons_sent model.beacons_sent
  beacons_same zero = refl
  beacons_same (suc i) = rw (beacons_same i)

  pub sources_same : (k : ℕ) → sources_below sources k ≡ model.sources_below R k
  unfolding sources_below model.sources_below
  sources_same zero = refl
  sources_same (suc i) = rw (sources_same i)

  heard_same : (c p k : ℕ) → beacons_heard sources c p k ≡ model.beacons_heard R c p k
  unfolding beacons_heard model.beacons_heard
  heard_same c p zero = refl
  heard_same c p (suc i) = rw (heard_same c p i, sources_same i)

  pub posts_heard_same : (c k : ℕ) → posts_hear_beacons present sources c k ≡ model.posts_hear_beacons R c k
  unfolding posts_hear_beacons model.posts_hear_beacons
  posts_heard_same c zero = refl
  posts_heard_same c (suc p) = rw (posts_heard_same c p, heard_same c p 8)

-- ---- S and N are counts of ones

module _ (present sources dests : ℕ) where
  sources_below_lem : (k : ℕ) → model.sources_below (roles_of present sources dests) k ≡ lanes_below sources k
  unfolding model.sources_below lanes_below
  sources_below_lem zero = refl
  sources_below_lem (suc i) = rw (sources_below_lem i)

  posts_below_lem : (k : ℕ) → model.posts_below (roles_of present sources dests) k ≡ lanes_below present k
  unfolding model.posts_below lanes_below
  posts_below_lem zero = refl
  posts_below_lem (suc i) = rw (posts_below_lem i)

  pub count_sources : sources < 256 → model.sources_below (roles_of present sources dests) 8 ≡ ones sources
  count_sources l = sources_below_lem 8 ∙ lanes_ones sources l

  pub count_posts : present < 256 → model.posts_below (roles_of present sources dests) 8 ≡ ones present
  count_posts l = posts_below_lem 8 ∙ lanes_ones present l
