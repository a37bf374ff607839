-- Reading accepts exactly the files that say a log, and what is written reads back: the statements. Assumes nothing.
use Rattle.std.specs.Prelude.{ℕ, ◌≡◌, Bool, true, List, [], length}
use Rattle.csv_log.specs.declared.LogItem.{LogItem}
use Rattle.csv_log.specs.Log.{item_numbers, GoodLog}
use Rattle.csv_log.specs.Text.{log_text}
use Rattle.csv_log.specs.Writing.{handed_text, csv_write_refusal}
use Rattle.csv_log.specs.Reading.{judged_file, log_read}
use Rattle.files.specs.Files.{Quotes, no_quotes, file_text}

-- a file is accepted, and says this log
abbrev pub FileSays : List ℕ → List LogItem → Type 0
FileSays s l = ((judged_file s).number ≡ 0) × (log_read s ≡ l)

pub record Exactly : Type 0 where
  -- writing gives the file without quotes and with the last CR LF
  pub plainly : (l : List LogItem) → log_text l ≡ file_text no_quotes [] true l
  -- a file of a good log, with any choice of quotes and with or without the last CR LF, is accepted and says that log
  pub reads : (header : Quotes) (quotes : List Quotes) (last : Bool) (l : List LogItem) → GoodLog l → FileSays (file_text header quotes last l) l
  -- an accepted file says a good log, and is such a file of it
  pub accepts : (s : List ℕ) → (judged_file s).number ≡ 0
      → GoodLog (log_read s) × ((header : Quotes) × (quotes : List Quotes) × (last : Bool) × (s ≡ file_text header quotes last (log_read s)))

pub record RoundTrip : Type 0 where
  -- "written and read it is the same": of numbers that writing does not refuse the text is accepted, and says these numbers
  pub same : (numbers buffer : List ℕ) → csv_write_refusal numbers buffer ≡ 0
      → ((judged_file (handed_text numbers)).number ≡ 0) × (item_numbers (log_read (handed_text numbers)) ≡ numbers)
  -- what is read is written, and read again it is the same
  pub again : (s : List ℕ) → (judged_file s).number ≡ 0
      → ((buffer : List ℕ) → length buffer ≡ 2048 → csv_write_refusal (item_numbers (log_read s)) buffer ≡ 0) × FileSays (handed_text (item_numbers (log_read s))) (log_read s)
