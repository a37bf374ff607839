-- Every log of the joint table that is written, by computing the definitions. Assumes nothing.
use Prim.Native.Nat.{ℕ}
use mathlib.Core.Path.{◌≡◌, refl}
use mathlib.Core.Bool.{false}
use mathlib.Core.List.{List, []}
use lib.Dec.{eqb}
use lib.ListN.{length}
use Rattle.text.specs.Decimal.{decimal}
use Rattle.csv_log.specs.Log.{log_in, in_range, rises, rises_after, count_of_lane, item_refusal, first_bad}
use Rattle.csv_log.specs.Text.{record_text, in_turn, log_text}
use Rattle.csv_log.specs.Writing.{records_in, handed_text, csv_write_refusal, csv_write_answer, buffer_after}
use Rattle.csv_table.specs.CsvWriteCases.{Composed, UncomposedIn, Uncomposed, CsvWriteBench}

-- a log with no bad record, and what it is written as
composed : (numbers : List ℕ) (size : ℕ) (text : List ℕ) → (first_bad [] (records_in numbers)).number ≡ 0 → handed_text numbers ≡ text → length text ≡ size → Composed numbers size text
unfolding csv_write_refusal csv_write_answer buffer_after
composed numbers size text none same long buffer whole = rw (whole, none, same, long) (refl, refl)

-- a bad record: its number is not 0
bad_log_lem : (numbers : List ℕ) (number : ℕ) → (first_bad [] (records_in numbers)).number ≡ number → eqb number 0 ≡ false → Uncomposed numbers number
unfolding csv_write_refusal csv_write_answer buffer_after
bad_log_lem numbers number first some buffer whole = rw (whole, first, some) (refl, refl)

-- a buffer of another length
other_buffer : (size : ℕ) (numbers : List ℕ) → eqb size 2048 ≡ false → UncomposedIn size numbers 6
unfolding csv_write_refusal csv_write_answer buffer_after
other_buffer size numbers other buffer long = rw (long, other) (refl, refl)

pub csv_write_bench : CsvWriteBench
unfolding decimal log_in in_range rises rises_after count_of_lane item_refusal first_bad record_text in_turn log_text records_in
csv_write_bench = record {
  no_order = composed _ _ _ refl refl refl;
  printed = composed _ _ _ refl refl refl;
  lanes_rise = composed _ _ _ refl refl refl;
  length_31 = composed _ _ _ refl refl refl;
  length_32 = composed _ _ _ refl refl refl;
  longest = composed _ _ _ refl refl refl;
  stamp_0 = bad_log_lem _ _ refl refl;
  lane_8 = bad_log_lem _ _ refl refl;
  one_number = bad_log_lem _ _ refl refl;
  two_numbers = bad_log_lem _ _ refl refl;
  four_numbers = bad_log_lem _ _ refl refl;
  equal_orders = bad_log_lem _ _ refl refl;
  falling_stamp = bad_log_lem _ _ refl refl;
  falling_lane = bad_log_lem _ _ refl refl;
  lane_17 = bad_log_lem _ _ refl refl;
  order_129 = bad_log_lem _ _ refl refl;
  order_129_31 = bad_log_lem _ _ refl refl;
  number_129 = bad_log_lem _ _ refl refl;
  both_in_one = bad_log_lem _ _ refl refl;
  first_32 = bad_log_lem _ _ refl refl;
  first_31 = bad_log_lem _ _ refl refl;
  bytes_2047 = other_buffer _ _ refl;
  bytes_2049 = other_buffer _ _ refl;
  bytes_2047_31 = other_buffer _ _ refl;
  bytes_2049_31 = other_buffer _ _ refl;
}
