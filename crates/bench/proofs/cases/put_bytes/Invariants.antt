use Rattle.std.proofs.Common.{length}
use Rattle.bench.proofs.cases.put_bytes.Given as goal

abbrev pub decreases-loop-rest : goal.decreases-loop-rest
decreases-loop-rest l = length l.rest
