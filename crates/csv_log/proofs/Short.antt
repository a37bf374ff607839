-- How long a log's text is. Assumes nothing.
use mathlib.Core.Path.{◌≡◌}
use mathlib.Core.Bool.{true}
use mathlib.Core.List.{List, [], ◌∷◌}
use Prim.Native.Nat.{◌+◌, ◌*◌, ◌≤◌}
use native.Mathlib.Omega.{arith}
use lib.ListN.{length, length-append}
use Rattle.text.specs.Decimal.{decimal}
use Rattle.scan.proofs.Decimal.{at_most_5, at_most_1}
use Rattle.csv_log.specs.declared.LogItem.{LogItem}
use Rattle.csv_log.specs.Log.{in_range, GoodLog}
use Rattle.csv_log.specs.Text.{record_text, records_text, log_text, in_turn}
use Rattle.csv_log.proofs.Logs.{AllIn, in_range_lem, good_in, good_few}

-- of three numbers in range
pub numbers_length : (x : LogItem) → in_range x ≡ true → length (decimal x.stamp) + length (decimal x.lane) + length (decimal x.word) ≤ 11
numbers_length x h =
    let r = in_range_lem x h in
    omega (arith, at_most_5 x.stamp, at_most_1 x.lane (omega arith), at_most_5 x.word)

record_length : (x : LogItem) → in_range x ≡ true → length (record_text x) ≤ 15
unfolding record_text
record_length x h = simp length-append (omega (arith, numbers_length x h))

records_length : (l : List LogItem) → AllIn l → length (records_text l) ≤ 15 * length l
unfolding in_turn AllIn
records_length [] h = omega arith
records_length (x ∷ l) h = simp length-append (omega (arith, record_length x h.0, records_length l h.1))

-- "2,048 bytes": what is written of a good log
pub log_short : (l : List LogItem) → GoodLog l → length (log_text l) ≤ 1937
unfolding log_text
log_short l h = simp length-append (omega (arith, records_length l (good_in l h), good_few l h))
