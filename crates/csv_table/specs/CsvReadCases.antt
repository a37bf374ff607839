-- Document 02, K1, as cases: files read, what each answers and leaves in the numbers. Assumes nothing.
use Rattle.std.specs.Prelude.{ℕ, ◌+◌, ◌*◌, ◌<◌, ◌≡◌, List, [], ◌∷◌, ◌++◌, length, drop, replicate}
use Rattle.text.specs.Bytes.{bytes}
use Rattle.csv_log.specs.Reading.{csv_read_answer, numbers_after, first_bad_answer}
use Rattle.csv_table.specs.CsvLogs.{header_line, printed_log, printed_text, rising_log, rising_text, log31, text31, log32, text32, full_text, longest_log, longest_text, text17}

-- read into any 384 numbers as so many orders, which go to their start; no record is bad
abbrev pub Imported : List ℕ → ℕ → List ℕ → Type 0
Imported file orders log =
    (first_bad_answer file ≡ 0)
    × ((numbers : List ℕ) → length numbers ≡ 384 → (csv_read_answer file numbers ≡ 256 * orders) × (numbers_after file numbers ≡ log ++ drop (3 * orders) numbers))

-- refused with any so many numbers, which stay as they were
abbrev pub UnimportedIn : ℕ → List ℕ → ℕ → Type 0
UnimportedIn many file number = (numbers : List ℕ) → length numbers ≡ many →
    (csv_read_answer file numbers ≡ number) × (numbers_after file numbers ≡ numbers)

-- refused with any 384 numbers for this record, "the first bad record"; the header is record 1
abbrev pub Unimported : List ℕ → ℕ → ℕ → Type 0
Unimported file which number = (first_bad_answer file ≡ number + 256 * which) × UnimportedIn 384 file number

pub record CsvReadBench : Type 0 where
  -- "written and read it is the same"
  pub no_order : Imported header_line 0 []
  pub printed : Imported printed_text 2 printed_log
  pub lanes_rise : Imported rising_text 2 rising_log
  pub length_31 : Imported text31 2 log31
  pub length_32 : Imported text32 1 log32
  pub longest : Imported longest_text 128 longest_log
  -- "Quoted fields, the header's too, are accepted on reading"; "the last CR LF may be missing on reading"
  pub quoted : Imported (bytes "\"stamp\",\"lane\",\"word\"\r\n\"1\",\"0\",\"417\"\r\n\"3\",\"1\",\"90\"") 2 printed_log
  pub some_quoted : Imported (bytes "stamp,\"lane\",word\r\n1,\"0\",417\r\n\"3\",1,90\r\n") 2 printed_log
  pub unended : Imported (header_line ++ bytes "1,0,417\r\n3,1,90") 2 printed_log
  pub header_quoted : Imported (bytes "\"stamp\",\"lane\",\"word\"\r\n") 0 []
  pub header_quoted_unended : Imported (bytes "\"stamp\",\"lane\",\"word\"") 0 []
  pub header_unended : Imported (bytes "stamp,lane,word") 0 []
  -- 31: "a header that differs"
  pub no_byte : Unimported [] 1 31
  pub no_header : Unimported (bytes "1,0,417\r\n") 1 31
  pub header_capitals : Unimported (bytes "Stamp,Lane,Word\r\n1,0,417\r\n") 1 31
  pub header_semicolons : Unimported (bytes "stamp;lane;word\r\n1;0;417\r\n") 1 31
  pub header_space : Unimported (bytes "stamp, lane, word\r\n1,0,417\r\n") 1 31
  pub header_fourth : Unimported (bytes "stamp,lane,word,serial\r\n") 1 31
  pub header_two : Unimported (bytes "stamp,lane\r\n") 1 31
  pub header_unclosed : Unimported (bytes "stamp,lane,\"word\r\n") 1 31
  pub header_line_feed : Unimported (bytes "stamp,lane,word\n1,0,417\n") 1 31
  pub header_carriage_return : Unimported (bytes "stamp,lane,word\r1,0,417\r") 1 31
  pub byte_order_mark : Unimported ((239 ∷ 187 ∷ 191 ∷ []) ++ header_line ++ bytes "1,0,417\r\n") 1 31
  pub blank_first : Unimported (bytes "\r\n" ++ header_line) 1 31
  -- 31: "a record that is not three decimal fields", each ended by CR LF
  pub line_feed : Unimported (header_line ++ bytes "1,0,417\n3,1,90\r\n") 2 31
  pub carriage_return : Unimported (header_line ++ bytes "1,0,417\r3,1,90\r\n") 2 31
  pub half_ended : Unimported (header_line ++ bytes "1,0,417\r") 2 31
  pub blank_last : Unimported (printed_text ++ bytes "\r\n") 4 31
  pub blank_middle : Unimported (header_line ++ bytes "1,0,417\r\n\r\n3,1,90\r\n") 3 31
  pub semicolons : Unimported (header_line ++ bytes "1;0;417\r\n") 2 31
  pub fourth_field : Unimported (header_line ++ bytes "1,0,417,1\r\n") 2 31
  pub last_comma : Unimported (header_line ++ bytes "1,0,417,\r\n") 2 31
  pub two_fields : Unimported (header_line ++ bytes "1,0\r\n") 2 31
  pub no_field : Unimported (header_line ++ bytes "1,,417\r\n") 2 31
  -- quotes
  pub after_quote : Unimported (header_line ++ bytes "1,0,\"417\"7\r\n") 2 31
  pub before_quote : Unimported (header_line ++ bytes "1,0,4\"17\"\r\n") 2 31
  pub unclosed : Unimported (header_line ++ bytes "1,0,\"417\r\n") 2 31
  pub nothing_quoted : Unimported (header_line ++ bytes "1,0,\"\"\r\n") 2 31
  pub quote_quoted : Unimported (header_line ++ bytes "1,0,\"0\"\"1\"\r\n") 2 31
  pub space_quoted : Unimported (header_line ++ bytes "1,0,\" 417\"\r\n") 2 31
  pub row_quoted : Unimported (header_line ++ bytes "\"1,0,417\"\r\n") 2 31
  -- "written as script numbers are"
  pub space : Unimported (header_line ++ bytes "1, 0,417\r\n") 2 31
  pub space_last : Unimported (header_line ++ bytes "1,0,417 \r\n") 2 31
  pub plus : Unimported (header_line ++ bytes "+1,0,417\r\n") 2 31
  pub minus : Unimported (header_line ++ bytes "1,-0,417\r\n") 2 31
  pub zero_one : Unimported (header_line ++ bytes "01,0,417\r\n") 2 31
  pub zeros : Unimported (header_line ++ bytes "1,00,417\r\n") 2 31
  pub six_digits : Unimported (header_line ++ bytes "1,0,100000\r\n") 2 31
  -- "within document 01's ranges"
  pub stamp_0 : Unimported (header_line ++ bytes "0,0,417\r\n") 2 31
  pub stamp_65536 : Unimported (header_line ++ bytes "65536,0,417\r\n") 2 31
  pub lane_8 : Unimported (header_line ++ bytes "1,8,417\r\n") 2 31
  pub word_65536 : Unimported (header_line ++ bytes "1,0,65536\r\n") 2 31
  -- 32: "records that do not rise by stamp and then lane, .. or a lane's 17th"
  pub equal_orders : Unimported (header_line ++ bytes "1,0,417\r\n1,0,417\r\n") 3 32
  pub falling_stamp : Unimported (header_line ++ bytes "3,0,417\r\n1,1,90\r\n") 3 32
  pub falling_lane : Unimported (header_line ++ bytes "1,1,8\r\n1,0,7\r\n") 3 32
  pub lane_17 : Unimported text17 18 32
  pub order_129 : Unimported (full_text ++ bytes "17,0,0\r\n") 130 32
  -- "31 before 32 within it"
  pub order_129_31 : Unimported (full_text ++ bytes "17,8,0\r\n") 130 31
  pub both_in_one : Unimported (header_line ++ bytes "3,0,417\r\n1,8,90\r\n") 3 31
  -- "the first bad record decides"
  pub first_32 : Unimported (header_line ++ bytes "3,0,417\r\n1,1,90\r\nx\r\n") 3 32
  pub first_31 : Unimported (header_line ++ bytes "3,0,417\r\nx\r\n1,1,90\r\n") 3 31
  -- "a file over 48,000 bytes is refusal 1", before all else; one of 48,000 bytes is read
  pub over_48000 : (file : List ℕ) → 48000 < length file → Unimported file 0 1
  pub over_48000_383 : (file : List ℕ) → 48000 < length file → UnimportedIn 383 file 1
  pub exactly_48000 : Unimported (replicate 48000 49) 1 31
  -- 6 for numbers that are not 384, before the records
  pub numbers_383 : UnimportedIn 383 printed_text 6
  pub numbers_385 : UnimportedIn 385 printed_text 6
  pub numbers_383_31 : UnimportedIn 383 (bytes "1,0,417\r\n") 6
  pub numbers_385_31 : UnimportedIn 385 (bytes "1,0,417\r\n") 6
