use mathlib.Core.Path.{◌≡◌}
use Prim.Native.Nat.{ℕ}
use lib.Dec.{ltb}
use lib.ListN.{get_or}
use Rattle.frame.specs.Lanes.{any_below}
use Rattle.judge.proofs.bad_last.Given as goal

abbrev pub invariant-loop-serial : goal.invariant-loop-serial
invariant-loop-serial l = l.bad ≡ any_below (λ (i : ℕ). ltb 16 (get_or l.last i 0)) l.serial-index
