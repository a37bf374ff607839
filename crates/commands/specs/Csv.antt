-- What the commands `csv LANE` and `csv-read` give: document 02, K1. Assumes nothing.
use Rattle.std.specs.Prelude.{ℕ, ◌≤◌, cond, Result, Ok, Err, List, ◌++◌, ltb, eqb, length, drop, replicate}
use Rattle.text.specs.Bytes.{bytes}
use Rattle.cells.specs.Sets.{has_lane}
use Rattle.lines.specs.Lines.{judged}
use Rattle.yard.specs.Worlds.{World}
use Rattle.meaning.specs.Texts.{bad_text, three_text}
use Rattle.meaning.specs.Script.{script_world}
use Rattle.csv_log.specs.declared.LogItem.{LogItem}
use Rattle.csv_log.specs.Text.{in_turn}
use Rattle.csv_log.specs.Reading.{judged_file, log_read}
use Rattle.desk.specs.Desk.{desk_file}
use Rattle.refusal.specs.Numbers.{refusal_number}
use Rattle.commands.specs.declared.NotMade.{NotMade}

-- ---- `csv LANE`: the log of a lane after a script

-- a command runs its script on an air of its own, of 65,536 bytes
abbrev pub own_air : List ℕ
own_air = replicate 65536 0

-- the world that the script leaves, and the file of the lane's log
abbrev pub command_world : List ℕ → World
command_world s = script_world s own_air

abbrev pub lane_file : List ℕ → ℕ → List ℕ
lane_file s lane = desk_file (command_world s) lane

-- what comes of it: the file's length, or the refusal's number with the script's line where it is the script's own
pub record CsvMade : Type 0 where
  pub number : ℕ
  pub line : ℕ
  pub length : ℕ

abbrev pub not_made : ℕ → ℕ → CsvMade
not_made line number = record { number = number; line = line; length = 0 }

-- the same of a result
abbrev pub made_answer : Result ℕ NotMade → CsvMade
made_answer (Ok length) = record { number = 0; line = 0; length = length }
made_answer (Err no_file) = not_made no_file.line (refusal_number no_file.refusal)

-- the script's own refusal with its line; then, with line 0, 4 for a lane over 7, 6 for a buffer that has not 2,048 bytes, 21 for a lane
-- without a post; or the length of the file
unfoldable pub csv_made : List ℕ → ℕ → List ℕ → CsvMade
csv_made s lane buffer =
    cond (eqb (judged s).number 0)
    (cond (ltb 7 lane) (not_made 0 4)
    (cond (eqb (length buffer) 2048)
    (cond (has_lane (command_world s).yard.present lane) (record { number = 0; line = 0; length = length (lane_file s lane) }) (not_made 0 21))
    (not_made 0 6)))
    (not_made (judged s).line (judged s).number)

-- the file stands at the buffer's start and the rest stays; where nothing was made all of it
unfoldable pub csv_buffer : List ℕ → ℕ → List ℕ → List ℕ
csv_buffer s lane buffer =
    cond (eqb (csv_made s lane buffer).number 0)
    (lane_file s lane ++ drop (length (lane_file s lane)) buffer)
    buffer

-- ---- `csv-read`: what a file says

-- ` (STAMP LANE WORD)` of an order
abbrev pub log_item_text : LogItem → List ℕ
log_item_text x = three_text x.stamp x.lane x.word

-- `(log (STAMP LANE WORD) ..)`, or `(bad RECORD NUMBER)` with the header as record 1 and record 0 for refusal 1
unfoldable pub csv_read_text : List ℕ → List ℕ
csv_read_text s =
    cond (eqb (judged_file s).number 0)
    (bytes "(log" ++ in_turn log_item_text (log_read s) ++ bytes ")\n")
    (bad_text (judged_file s).which (judged_file s).number)

-- every one of them fits an output of 2,054 bytes
abbrev pub SaidFits : Type 0
SaidFits = (s : List ℕ) → length (csv_read_text s) ≤ 2054
