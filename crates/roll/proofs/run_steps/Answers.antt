use mathlib.Core.Path.{refl}
use native.Mathlib.Omega.{arith}
use Rattle.roll.proofs.Ways.{all_ran}
use Rattle.roll.proofs.run_steps.Goals as goal

pub returns : goal.returns
returns c =
    all_ran c.args.state.now c.args.air.now c.hear_orders-heard.new.state _ _ _ _ _ _ _ _ _ _ _ c.told-state (omega arith) refl refl
    c.hear_orders-heard.ensures.air_after refl c.send_beacons-sent.ensures.air_after c.hear_beacons-done.ensures.air_after
