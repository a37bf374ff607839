use Prim.Native.Nat.{ℕ, ◌+◌}
use mathlib.Core.Path.{◌≡◌}
use Rattle.frame.specs.Lanes.{any_below}
use Rattle.judge.specs.Parts.{bad_unused_in}
use Rattle.judge.proofs.log.bad_unused.Given as goal

abbrev pub invariant-loop-place : goal.invariant-loop-place
invariant-loop-place l = l.bad ≡ any_below (λ (j : ℕ). bad_unused_in l.fn.log (l.fn.n + j)) l.place-index
