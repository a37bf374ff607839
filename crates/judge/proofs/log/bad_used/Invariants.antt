use mathlib.Core.Path.{◌≡◌}
use Rattle.frame.specs.Lanes.{any_below}
use Rattle.deliver.specs.Known.{known_below}
use Rattle.deliver.specs.Loops.{marks_below}
use Rattle.judge.specs.Parts.{bad_used_in}
use Rattle.judge.proofs.log.bad_used.Given as goal

abbrev pub invariant-loop-place : goal.invariant-loop-place
invariant-loop-place l =
    (l.known ≡ known_below l.initial.known l.fn.log 0 l.place-index) × (l.marks ≡ marks_below l.fn.log l.place-index)
    × (l.bad ≡ any_below (bad_used_in l.last l.fn.log) l.place-index)
