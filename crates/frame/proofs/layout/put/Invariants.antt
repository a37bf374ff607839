use mathlib.Core.Path.{◌≡◌}
use lib.ListN.{length}
use Rattle.frame.proofs.Put.{put_below}
use Rattle.frame.proofs.layout.put.Given as goal

abbrev pub invariant-loop-lane : goal.invariant-loop-lane
invariant-loop-lane l = (length l.buffer ≡ 32) × (l.buffer ≡ put_below l.fn.f l.initial.buffer l.lane)
