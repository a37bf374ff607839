-- Refusals that one look at a step's input decides: told for every world, or for every air of a wrong length, so that no air is computed.
-- Assumes nothing.
use Prim.Native.Nat.{ℕ}
use mathlib.Core.Path.{◌≡◌, refl}
use mathlib.Core.List.{List}
use lib.ListN.{length}
use Rattle.state.specs.Yards.{fresh_yard}
use Rattle.yard.specs.Singles.{post_orders, post_orders_air, first_after, yard_orders, yard_orders_air, post_hears, post_hears_air, yard_hears, yard_hears_air, post_beacons, post_beacons_air, yard_beacons, yard_beacons_air}
use Rattle.yard.specs.Worlds.{World, order, hear, beacon, single}
use Rattle.roll.specs.RollCall.{roll_refusal, roll_call, roll_call_air}
use Rattle.roll.specs.Runs.{one, roll, answer, step}
use Rattle.table.specs.Scripts.{Refuses, order_refused, hear_refused, beacon_refused, call_refused}

-- ---- a lane over 7

pub order_lane : (w : World) (word : ℕ) → Refuses w (one (order 8 word)) (order_refused 4)
unfolding answer step single yard_orders yard_orders_air
order_lane w word = (refl, refl)

pub hear_lane : (w : World) (k : ℕ) → Refuses w (one (hear 8 k)) (hear_refused 4)
unfolding answer step single yard_hears yard_hears_air
hear_lane w k = (refl, refl)

pub beacon_lane : (w : World) → Refuses w (one (beacon 8)) (beacon_refused 4)
unfolding answer step single yard_beacons yard_beacons_air
beacon_lane w = (refl, refl)

-- ---- the yard `three`, on any air

abbrev three_on : List ℕ → World
three_on air = record { yard = fresh_yard 0b111 0b011 0b101; air = air }

pub order_word : (air : List ℕ) → Refuses (three_on air) (one (order 0 65536)) (order_refused 5)
unfolding fresh_yard answer step single post_orders post_orders_air first_after yard_orders yard_orders_air
order_word air = (refl, refl)

-- ---- an air of 65,535 bytes, and of 65,537

pub order_short : (air : List ℕ) → length air ≡ 65535 → Refuses (three_on air) (one (order 0 1)) (order_refused 13)
unfolding fresh_yard answer step single post_orders post_orders_air first_after yard_orders yard_orders_air
order_short air e = rw e (refl, refl)

pub order_long : (air : List ℕ) → length air ≡ 65537 → Refuses (three_on air) (one (order 0 1)) (order_refused 13)
unfolding fresh_yard answer step single post_orders post_orders_air first_after yard_orders yard_orders_air
order_long air e = rw e (refl, refl)

pub hear_short : (air : List ℕ) → length air ≡ 65535 → Refuses (three_on air) (one (hear 0 0)) (hear_refused 13)
unfolding fresh_yard answer step single post_hears post_hears_air yard_hears yard_hears_air
hear_short air e = rw e (refl, refl)

pub beacon_short : (air : List ℕ) → length air ≡ 65535 → Refuses (three_on air) (one (beacon 0)) (beacon_refused 13)
unfolding fresh_yard answer step single post_beacons post_beacons_air yard_beacons yard_beacons_air
beacon_short air e = rw e (refl, refl)

pub roll_short : (air : List ℕ) → length air ≡ 65535 → Refuses (three_on air) roll (call_refused 13)
unfolding fresh_yard answer step roll_refusal roll_call roll_call_air
roll_short air e = rw e (refl, refl)

-- 13 comes before 21 and 25
pub order_nobody : (air : List ℕ) → length air ≡ 65535 → Refuses (three_on air) (one (order 3 1)) (order_refused 13)
unfolding fresh_yard answer step single post_orders post_orders_air first_after yard_orders yard_orders_air
order_nobody air e = rw e (refl, refl)

pub hear_nobody : (air : List ℕ) → length air ≡ 65535 → Refuses (three_on air) (one (hear 3 9)) (hear_refused 13)
unfolding fresh_yard answer step single post_hears post_hears_air yard_hears yard_hears_air
hear_nobody air e = rw e (refl, refl)
