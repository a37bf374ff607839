use Rattle.std.proofs.Common.{length, ◌+◌, ◌≤◌}
use Rattle.bench.proofs.run_file.Given as goal

abbrev pub invariant-loop-input : goal.invariant-loop-input
invariant-loop-input l = (l.cases + length l.rest ≤ length l.file) × (l.same ≤ l.cases)

abbrev pub decreases-loop-input : goal.decreases-loop-input
decreases-loop-input l = length l.rest
