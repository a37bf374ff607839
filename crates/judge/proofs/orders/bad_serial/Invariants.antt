use mathlib.Core.Path.{◌≡◌}
use Rattle.frame.specs.Lanes.{any_below}
use Rattle.judge.specs.Parts.{bad_serial_in}
use Rattle.judge.proofs.orders.bad_serial.Given as goal

abbrev pub invariant-loop-lane : goal.invariant-loop-lane
invariant-loop-lane l = l.bad ≡ any_below (bad_serial_in l.last l.stamps l.words l.k) l.lane
