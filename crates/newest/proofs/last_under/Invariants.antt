use Rattle.std.proofs.Common.{◌≡◌, ◌<◌}
use Rattle.newest.specs.Loops.{last_below}
use Rattle.newest.proofs.NewestLaws.{flag_of}
use Rattle.newest.proofs.last_under.Given as goal

abbrev pub invariant-loop-serial : goal.invariant-loop-serial
invariant-loop-serial l = (0 < l.serial) × (l.highest ≡ flag_of (last_below l.stamps 0 l.greatest.0 l.serial))
