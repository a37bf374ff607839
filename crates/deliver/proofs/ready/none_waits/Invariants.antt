use Rattle.std.proofs.Common.{◌≡◌, length}
use Rattle.row.specs.Rows.{post_in, known_in}
use Rattle.deliver.specs.Delivery.{all_below}
use Rattle.deliver.specs.Loops.{same_at}
use Rattle.deliver.proofs.ready.none_waits.Given as goal

abbrev pub invariant-loop-known : goal.invariant-loop-known
invariant-loop-known l = l.same ≡ all_below (same_at (known_in l.row) (post_in l.row).last) (length l.yielded)
