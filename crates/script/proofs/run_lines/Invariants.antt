use Rattle.script.proofs.LineLaws.{Left}
use Rattle.text.specs.Writing.{held}
use Rattle.yard.specs.InState.{here_in}
use lib.ListN.{length}
use Prim.Native.Nat.{◌≤◌, ◌-◌}
use mathlib.Core.Path.{◌≡◌}
use Rattle.script.proofs.run_lines.Given as goal

abbrev pub invariant-loop-at : goal.invariant-loop-at
invariant-loop-at l =
    (l.line ≤ l.at) × Left l.script (here_in l.initial.state l.initial.air) l.from (held l.initial.output) (here_in l.state l.air) l.at l.line (held l.output) l.answer
    × (length l.state ≡ length l.initial.state) × (length l.air ≡ length l.initial.air) × (l.output.buffer.ghost_name ≡ l.initial.output.buffer.ghost_name)

abbrev pub decreases-loop-at : goal.decreases-loop-at
decreases-loop-at l = length l.script - l.at
