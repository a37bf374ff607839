use mathlib.Core.Path.{◌≡◌}
use lib.ListN.{length}
use Rattle.text.specs.Writing.{held}
use Rattle.commands.specs.Csv.{log_item_text}
use Rattle.csv_log.proofs.HandedLaws.{Putting}
use Rattle.commands.proofs.said.put_threes.Given as goal

abbrev pub invariant-loop-left : goal.invariant-loop-left
invariant-loop-left l =
    (l.output.buffer.ghost_name ≡ l.initial.output.buffer.ghost_name)
    × Putting log_item_text (held l.initial.output) l.numbers (held l.output) l.left

abbrev pub decreases-loop-left : goal.decreases-loop-left
decreases-loop-left l = length l.left
