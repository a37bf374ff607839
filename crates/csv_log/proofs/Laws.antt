-- Laws of one record's judgement, and of the cells that the code keeps of those before it: Log.antt, Seen.antt. Assumes nothing.
use mathlib.Core.Path.{◌≡◌, refl}
use mathlib.Core.Bool.{Bool, true, false, not}
use mathlib.Core.List.{List}
use Prim.Native.Nat.{ℕ, ◌+◌, ◌<◌}
use native.Mathlib.Omega.{arith}
use Rattle.std.proofs.lemmas.Bool.Decides.{nat_tests}
use lib.ListN.{get_or}
use Rattle.refusal.proofs.Refused.{refusal_positive, handed_on}
use Rattle.scan.proofs.Laws.{never}
use Rattle.csv_log.specs.declared.LogItem.{LogItem}
use Rattle.csv_log.proofs.Logs.{in_range_lem}
use Rattle.csv_log.specs.Seen.{room_by, refusal_by}

-- tests of numbers, and what a refusal's number is
pub ruleset refusals = (nat_tests, refusal_positive, handed_on)

-- there is room
pub has_room : (seen : List ℕ) (x : LogItem) → room_by seen x ≡ true → (get_or seen 0 0 < 128) × (get_or seen (3 + x.lane) 0 < 16)
has_room seen x e = grind (arith, nat_tests)

pub not_off : (b : Bool) → not b ≡ true → b ≡ false
not_off true e = never e
not_off false e = refl

-- ---- the numbers found

-- an order that is not refused is in range, and stands within the numbers
pub joined_range : (seen : List ℕ) (x : LogItem) (k : ℕ) → k ≡ refusal_by seen x → k ≡ 0
    → (x.stamp < 65536) × (x.lane < 65536) × (x.word < 65536) × (get_or seen 0 0 < 128)
unfolding refusal_by
joined_range seen x k e h = grind (arith, nat_tests, in_range_lem)
