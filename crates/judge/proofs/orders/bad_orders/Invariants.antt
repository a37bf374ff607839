use Prim.Native.Nat.{ℕ}
use mathlib.Core.Path.{◌≡◌}
use Rattle.frame.specs.Lanes.{any_below}
use Rattle.judge.specs.Parts.{bad_serial_in}
use Rattle.judge.proofs.orders.bad_orders.Given as goal

abbrev pub invariant-loop-k : goal.invariant-loop-k
invariant-loop-k l = (l.order ≡ l.k) × (l.bad ≡ any_below (λ (k : ℕ). any_below (bad_serial_in l.last l.stamps l.words k) 8) l.k)
