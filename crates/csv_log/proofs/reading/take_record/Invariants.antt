use Rattle.csv_log.proofs.ReadLaws.{Fields}
use Rattle.csv_log.proofs.reading.take_record.Given as goal

abbrev pub invariant-loop-k : goal.invariant-loop-k
invariant-loop-k l = Fields l.file l.at l.c l.stamp l.k
