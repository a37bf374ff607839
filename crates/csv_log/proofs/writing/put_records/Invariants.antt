use mathlib.Core.Path.{◌≡◌}
use lib.ListN.{length}
use Rattle.text.specs.Writing.{held}
use Rattle.csv_log.specs.Text.{record_text}
use Rattle.csv_log.proofs.HandedLaws.{Putting}
use Rattle.csv_log.proofs.writing.put_records.Given as goal

abbrev pub invariant-loop-left : goal.invariant-loop-left
invariant-loop-left l =
    (l.file.buffer.ghost_name ≡ l.initial.file.buffer.ghost_name)
    × Putting record_text (held l.initial.file) l.numbers (held l.file) l.left

abbrev pub decreases-loop-left : goal.decreases-loop-left
decreases-loop-left l = length l.left
