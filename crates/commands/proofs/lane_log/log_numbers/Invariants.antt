use mathlib.Core.Path.{◌≡◌}
use Prim.Native.Nat.{◌*◌}
use lib.ListN.{take}
use lib.Seq.{sets}
use Rattle.row.specs.Rows.{post_in}
use Rattle.commands.proofs.LogNumbers.{numbers_at}
use Rattle.commands.proofs.lane_log.log_numbers.Given as goal

abbrev pub invariant-loop-place : goal.invariant-loop-place
invariant-loop-place l = record {
  count : l.n ≡ 3 * l.place-index;
  written : l.numbers ≡ sets l.initial.numbers 0 (numbers_at (post_in l.row) (take l.place-index l.place-items));
}
