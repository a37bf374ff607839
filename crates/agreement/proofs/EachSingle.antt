-- Every single step in a yard, refused or not, does what the model's does. Assumes nothing.
use Prim.Native.Nat.{ℕ}
use Rattle.yard.specs.Worlds.{World, Single, order, hear, beacon}
use Rattle.model.proofs.Model as model
use Rattle.agreement.proofs.Views.{roles_of, yard_view}
use Rattle.agreement.proofs.Sound.{Sound}
use Rattle.agreement.proofs.Simulates.{Fit, Simulates}
use Rattle.agreement.proofs.OrderSimulates.{order_simulates}
use Rattle.agreement.proofs.HearSimulates.{hear_simulates}
use Rattle.agreement.proofs.BeaconSimulates.{beacon_simulates}

module _ (present sources dests : ℕ) where
  abbrev R : model.Roles
  R = roles_of present sources dests

  -- every single step
  pub single_simulates : (w : World) → Sound present sources dests w → Fit present sources dests (yard_view w) → (s : Single)
      → Fit present sources dests (model.step R (yard_view w) s) → Simulates present sources dests w s
  single_simulates w s fit (order lane word) after = order_simulates present sources dests w s fit lane word after
  single_simulates w s fit (hear lane k) after = hear_simulates present sources dests w s fit lane k after
  single_simulates w s fit (beacon lane) after = beacon_simulates present sources dests w s lane after
