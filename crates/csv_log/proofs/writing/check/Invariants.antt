use lib.ListN.{length}
use Rattle.csv_log.specs.Seen.{cells_of}
use Rattle.csv_log.proofs.HandedLaws.{Handed}
use Rattle.csv_log.proofs.writing.check.Given as goal

abbrev pub invariant-loop-left : goal.invariant-loop-left
invariant-loop-left l = Handed l.numbers (cells_of l.seen) l.left

abbrev pub decreases-loop-left : goal.decreases-loop-left
decreases-loop-left l = length l.left
