use Prim.Native.Nat.{◌-◌}
use lib.ListN.{length}
use Rattle.csv_log.specs.Seen.{cells_of}
use Rattle.csv_log.proofs.Finding.{Finding}
use Rattle.csv_log.proofs.reading.read_records.Given as goal

abbrev pub invariant-loop-at : goal.invariant-loop-at
invariant-loop-at l = Finding l.file l.from l.initial.found l.at (cells_of l.seen) l.found

abbrev pub decreases-loop-at : goal.decreases-loop-at
decreases-loop-at l = length l.file - l.at
