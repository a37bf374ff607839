use native.Mathlib.Omega.{arith}
use Rattle.air.proofs.Laws.{air_short, never_sent, no_place, on_the_air}
use Rattle.air.proofs.check.Goals as goal
use Rattle.air.proofs.check.Goals.{then-k-frames-via-then-k-frames, then-k-frames-via-else-k-frames+then-k-ge-FRAMES}

pub returns-then-air-ne-LENGTH : goal.returns-then-air-ne-LENGTH
returns-then-air-ne-LENGTH c = air_short _ _ _ (λ e. omega (arith, c.if-air-ne-LENGTH.true))

pub returns-then-k-frames : goal.returns-then-k-frames
returns-then-k-frames c = elim c.then-k-frames.branch [
  | then-k-frames-via-then-k-frames w ↦ never_sent _ _ _ (omega arith) (omega arith)
  | then-k-frames-via-else-k-frames+then-k-ge-FRAMES w ↦ no_place _ _ _ (omega arith) (omega arith) (omega arith)
]

pub returns : goal.returns
returns c = on_the_air _ _ _ (omega arith) (omega arith) (omega arith)
