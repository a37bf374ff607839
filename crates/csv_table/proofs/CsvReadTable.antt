-- Every file of the joint table that is read, by computing the definitions. Assumes nothing.
use Prim.Native.Nat.{ℕ, ◌*◌, ◌<◌}
use mathlib.Core.Path.{◌≡◌, refl}
use mathlib.Core.Bool.{true, false}
use mathlib.Core.List.{List, [], ◌++◌}
use native.Mathlib.Omega.{arith}
use lib.Dec.{ltb, eqb}
use lib.ListN.{length}
use borrow.Author.Tests.{lt-ltb}
use Rattle.text.specs.Bytes.{bytes}
use Rattle.scan.specs.Scan.{all_below, stands, digit_at, read_text, first_digit, next_digit, read_number}
use Rattle.fields.specs.Fields.{read_field, read_name, read_end, read_header, read_stamp, read_rest}
use Rattle.csv_log.specs.Log.{log_in, item_numbers, in_range, rises, rises_after, count_of_lane, item_refusal, first_bad, at_record}
use Rattle.csv_log.specs.Writing.{records_in}
use Rattle.csv_log.specs.Reading.{record_at, after_record, records_from, records_of, judged_file, csv_read_refusal, csv_read_answer, numbers_after, first_bad_answer}
use Rattle.csv_table.specs.CsvLogs.{printed_log, rising_log, log31, log32, full_text, longest_log, longest_text}
use Rattle.csv_table.specs.CsvReadCases.{Imported, UnimportedIn, Unimported, CsvReadBench}

-- ---- what a case takes, of any file

-- a file whose records are those of a log handed in, none of them bad
imported : (file : List ℕ) (orders : ℕ) (log : List ℕ) → ltb 48000 (length file) ≡ false → (read_header file).ok ≡ true → records_of file ≡ records_in log
    → (first_bad [] (records_in log)).number ≡ 0 → length (log_in (records_in log)) ≡ orders → item_numbers (log_in (records_in log)) ≡ log → length log ≡ 3 * orders
    → Imported file orders log
unfolding judged_file csv_read_refusal csv_read_answer numbers_after first_bad_answer
imported file orders log short begun said none many same long =
    (rw (short, begun, said, none) refl, λ (numbers : List ℕ) (whole : length numbers ≡ 384). rw (short, whole, begun, said, none, many, same, long) (refl, refl))

-- a bad record: its number is not 0
bad_file : (file : List ℕ) (which number : ℕ) → ltb 48000 (length file) ≡ false → judged_file file ≡ at_record which number → eqb number 0 ≡ false → Unimported file which number
unfolding csv_read_refusal csv_read_answer numbers_after first_bad_answer
bad_file file which number short first some =
    (rw (first, some) refl, λ (numbers : List ℕ) (whole : length numbers ≡ 384). rw (short, whole, first, some) (refl, refl))

-- numbers that are not 384
other_numbers : (many : ℕ) (file : List ℕ) → ltb 48000 (length file) ≡ false → eqb many 384 ≡ false → UnimportedIn many file 6
unfolding csv_read_refusal csv_read_answer numbers_after
other_numbers many file short other numbers long = rw (short, long, other) (refl, refl)

-- a file that is too long is not read
unread : (many : ℕ) (file : List ℕ) → 48000 < length file → UnimportedIn many file 1
unfolding csv_read_refusal csv_read_answer numbers_after
unread many file over numbers long = rw (lt-ltb 48000 (length file) (omega arith)) (refl, refl)

too_long_file : (file : List ℕ) → 48000 < length file → Unimported file 0 1
unfolding judged_file first_bad_answer
too_long_file file over = (rw (lt-ltb 48000 (length file) (omega arith)) refl, unread 384 file over)

-- ---- the long files, each computed for itself

longest_file : Imported longest_text 128 longest_log
unfolding all_below stands digit_at read_text first_digit next_digit read_number log_in item_numbers in_range rises rises_after count_of_lane item_refusal first_bad read_field read_name read_end read_header read_stamp read_rest record_at after_record records_from judged_file records_in
longest_file = imported longest_text 128 longest_log refl refl refl refl refl refl refl

file_129 : Unimported (full_text ++ bytes "17,0,0\r\n") 130 32
unfolding all_below stands digit_at read_text first_digit next_digit read_number log_in item_numbers in_range rises rises_after count_of_lane item_refusal first_bad read_field read_name read_end read_header read_stamp read_rest record_at after_record records_from judged_file records_in
file_129 = bad_file (full_text ++ bytes "17,0,0\r\n") 130 32 refl refl refl

file_129_31 : Unimported (full_text ++ bytes "17,8,0\r\n") 130 31
unfolding all_below stands digit_at read_text first_digit next_digit read_number log_in item_numbers in_range rises rises_after count_of_lane item_refusal first_bad read_field read_name read_end read_header read_stamp read_rest record_at after_record records_from judged_file records_in
file_129_31 = bad_file (full_text ++ bytes "17,8,0\r\n") 130 31 refl refl refl

-- ---- every case

pub csv_read_bench : CsvReadBench
unfolding all_below stands digit_at read_text first_digit next_digit read_number log_in item_numbers in_range rises rises_after count_of_lane item_refusal first_bad read_field read_name read_end read_header read_stamp read_rest record_at after_record records_from judged_file records_in
csv_read_bench = record {
  no_order = imported _ _ [] refl refl refl refl refl refl refl;
  printed = imported _ _ printed_log refl refl refl refl refl refl refl;
  lanes_rise = imported _ _ rising_log refl refl refl refl refl refl refl;
  length_31 = imported _ _ log31 refl refl refl refl refl refl refl;
  length_32 = imported _ _ log32 refl refl refl refl refl refl refl;
  longest = longest_file;
  quoted = imported _ _ printed_log refl refl refl refl refl refl refl;
  some_quoted = imported _ _ printed_log refl refl refl refl refl refl refl;
  unended = imported _ _ printed_log refl refl refl refl refl refl refl;
  header_quoted = imported _ _ [] refl refl refl refl refl refl refl;
  header_quoted_unended = imported _ _ [] refl refl refl refl refl refl refl;
  header_unended = imported _ _ [] refl refl refl refl refl refl refl;
  no_byte = bad_file _ _ _ refl refl refl;
  no_header = bad_file _ _ _ refl refl refl;
  header_capitals = bad_file _ _ _ refl refl refl;
  header_semicolons = bad_file _ _ _ refl refl refl;
  header_space = bad_file _ _ _ refl refl refl;
  header_fourth = bad_file _ _ _ refl refl refl;
  header_two = bad_file _ _ _ refl refl refl;
  header_unclosed = bad_file _ _ _ refl refl refl;
  header_line_feed = bad_file _ _ _ refl refl refl;
  header_carriage_return = bad_file _ _ _ refl refl refl;
  byte_order_mark = bad_file _ _ _ refl refl refl;
  blank_first = bad_file _ _ _ refl refl refl;
  line_feed = bad_file _ _ _ refl refl refl;
  carriage_return = bad_file _ _ _ refl refl refl;
  half_ended = bad_file _ _ _ refl refl refl;
  blank_last = bad_file _ _ _ refl refl refl;
  blank_middle = bad_file _ _ _ refl refl refl;
  semicolons = bad_file _ _ _ refl refl refl;
  fourth_field = bad_file _ _ _ refl refl refl;
  last_comma = bad_file _ _ _ refl refl refl;
  two_fields = bad_file _ _ _ refl refl refl;
  no_field = bad_file _ _ _ refl refl refl;
  after_quote = bad_file _ _ _ refl refl refl;
  before_quote = bad_file _ _ _ refl refl refl;
  unclosed = bad_file _ _ _ refl refl refl;
  nothing_quoted = bad_file _ _ _ refl refl refl;
  quote_quoted = bad_file _ _ _ refl refl refl;
  space_quoted = bad_file _ _ _ refl refl refl;
  row_quoted = bad_file _ _ _ refl refl refl;
  space = bad_file _ _ _ refl refl refl;
  space_last = bad_file _ _ _ refl refl refl;
  plus = bad_file _ _ _ refl refl refl;
  minus = bad_file _ _ _ refl refl refl;
  zero_one = bad_file _ _ _ refl refl refl;
  zeros = bad_file _ _ _ refl refl refl;
  six_digits = bad_file _ _ _ refl refl refl;
  stamp_0 = bad_file _ _ _ refl refl refl;
  stamp_65536 = bad_file _ _ _ refl refl refl;
  lane_8 = bad_file _ _ _ refl refl refl;
  word_65536 = bad_file _ _ _ refl refl refl;
  equal_orders = bad_file _ _ _ refl refl refl;
  falling_stamp = bad_file _ _ _ refl refl refl;
  falling_lane = bad_file _ _ _ refl refl refl;
  lane_17 = bad_file _ _ _ refl refl refl;
  order_129 = file_129;
  order_129_31 = file_129_31;
  both_in_one = bad_file _ _ _ refl refl refl;
  first_32 = bad_file _ _ _ refl refl refl;
  first_31 = bad_file _ _ _ refl refl refl;
  over_48000 = too_long_file;
  over_48000_383 = unread 383;
  exactly_48000 = bad_file _ _ _ refl refl refl;
  numbers_383 = other_numbers _ _ refl refl;
  numbers_385 = other_numbers _ _ refl refl;
  numbers_383_31 = other_numbers _ _ refl refl;
  numbers_385_31 = other_numbers _ _ refl refl;
}
