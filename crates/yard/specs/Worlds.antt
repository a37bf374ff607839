-- A list of single steps run one after another: document 01, "The words of demand 3". Assumes nothing.
use Rattle.std.specs.Prelude.{ℕ, List, [], ◌∷◌}
use Rattle.yard.specs.Singles.{yard_orders, yard_orders_air, yard_hears, yard_hears_air, yard_beacons, yard_beacons_air}
use Rattle.state.specs.Yards.{Yard}

-- the yard and the bytes of the air
pub record World : Type 0 where
  pub yard : Yard
  pub air : List ℕ

abbrev pub world_of : Yard → List ℕ → World
world_of y air = record { yard = y; air = air }

-- a single step, with any arguments: lane and word, lane and frame, lane
pub data Single : Type 0 where
  order : ℕ → ℕ → Single
  hear : ℕ → ℕ → Single
  beacon : ℕ → Single

-- "It gets the yard and the air that the step before left"
unfoldable pub single : World → Single → World
single w (order lane word) = record { yard = (yard_orders w.air w.yard lane word).yard; air = yard_orders_air w.air w.yard lane word }
single w (hear lane k) = record { yard = (yard_hears w.air w.yard lane k).yard; air = yard_hears_air w.air w.yard lane k }
single w (beacon lane) = record { yard = (yard_beacons w.air w.yard lane).yard; air = yard_beacons_air w.air w.yard lane }

-- a list of them, one after another
unfoldable pub singles : World → List Single → World
singles w [] = w
singles w (s ∷ l) = singles (single w s) l
