-- What a file says, and what reading it answers and leaves: document 02, K1, and RFC 4180. Assumes nothing.
use Rattle.std.specs.Prelude.{ℕ, zero, suc, ◌+◌, ◌*◌, cond, List, [], ◌∷◌, ◌++◌, ltb, eqb, length, drop, Result, Ok, Err}
use Rattle.scan.specs.declared.Scan.{Scan}
use Rattle.fields.specs.Fields.{read_header, read_stamp, read_rest}
use Rattle.refusal.specs.Numbers.{refusal_number}
use Rattle.csv_log.specs.declared.LogItem.{LogItem}
use Rattle.csv_log.specs.declared.reading.BadRecord.{BadRecord}
use Rattle.csv_log.specs.Log.{Record, in_three, malformed, log_item, log_in, item_numbers, FirstBad, at_record, first_bad}

-- ---- records

-- what follows the stamp of the record that begins at a place
abbrev pub rest_at : List ℕ → ℕ → Scan
rest_at s at = read_rest s (read_stamp s at)

-- the record that begins at a place, and where the next one does; nothing is read after a malformed one
unfoldable pub record_at : List ℕ → ℕ → Record
record_at s at = cond (rest_at s at).ok (in_three (log_item (read_stamp s at).latest (rest_at s at).earlier (rest_at s at).latest)) malformed

unfoldable pub after_record : List ℕ → ℕ → ℕ
after_record s at = cond (rest_at s at).ok (rest_at s at).at (length s)

-- the records from a place on; n is at least their number
unfoldable pub records_from : List ℕ → ℕ → ℕ → List Record
records_from s at zero = []
records_from s at (suc n) = cond (ltb at (length s)) (record_at s at ∷ records_from s (after_record s at) n) []

-- those after the header; a file has no more records than bytes
abbrev pub records_of : List ℕ → List Record
records_of s = records_from s (read_header s).at (length s)

-- ---- a file

-- "a file over 48,000 bytes is refusal 1, then the first bad record decides": record 0 for refusal 1;
-- "31 for .. a header that differs", which is record 1
unfoldable pub judged_file : List ℕ → FirstBad
judged_file s =
    cond (ltb 48000 (length s)) (at_record 0 1)
    (cond (read_header s).ok (first_bad [] (records_of s))
    (at_record 1 31))

-- the first bad record, or that none is, beside how many records there are
abbrev pub bad_in : Result ℕ BadRecord → FirstBad
bad_in (Ok orders) = at_record (orders + 1) 0
bad_in (Err bad) = at_record bad.which (refusal_number bad.refusal)

-- the log that a good file says
abbrev pub log_read : List ℕ → List LogItem
log_read s = log_in (records_of s)

-- 1, then 6 for numbers that are not 384, then the first bad record
unfoldable pub csv_read_refusal : List ℕ → List ℕ → ℕ
csv_read_refusal s numbers =
    cond (ltb 48000 (length s)) 1
    (cond (eqb (length numbers) 384) (judged_file s).number
    6)

-- the number of orders, in one number with the refusal: refusal + 256 * orders
unfoldable pub csv_read_answer : List ℕ → List ℕ → ℕ
csv_read_answer s numbers = cond (eqb (csv_read_refusal s numbers) 0) (256 * length (log_read s)) (csv_read_refusal s numbers)

-- the orders' numbers go to the start, and the rest stays
unfoldable pub numbers_after : List ℕ → List ℕ → List ℕ
numbers_after s numbers =
    cond (eqb (csv_read_refusal s numbers) 0)
    (item_numbers (log_read s) ++ drop (length (item_numbers (log_read s))) numbers)
    numbers

-- which record is the first bad one, in one number with its refusal: refusal + 256 * record; 0 where none is bad
unfoldable pub first_bad_answer : List ℕ → ℕ
first_bad_answer s = cond (eqb (judged_file s).number 0) 0 ((judged_file s).number + 256 * (judged_file s).which)
