use mathlib.Core.Path.{◌≡◌}
use native.Mathlib.Omega.{arith}
use Rattle.judge.proofs.orders.bad_serial.Goals as goal

pub returns : goal.returns
returns c = let e : c.loop-lane.lane ≡ 8 = omega arith in rw e at c.loop-lane.invariant
