-- The file of a lane's log of a yard, for the contracts of private functions; nobody has to believe it. Assumes nothing.
use Rattle.std.specs.Prelude.{ℕ, cond, Result, Ok, Err, List, map, eqb, length}
use Rattle.cells.specs.Sets.{has_lane}
use Rattle.state.specs.Yards.{Yard, post_at}
use Rattle.roll.specs.Logs.{orders_logged}
use Rattle.csv_log.specs.Log.{item_numbers}
use Rattle.csv_log.specs.Writing.{handed_text, csv_write_refusal, buffer_after}
use Rattle.desk.specs.Desk.{item_of}
use Rattle.refusal.specs.declared.Refusal.{Refusal}
use Rattle.refusal.specs.Numbers.{refusal_number}
use Rattle.commands.specs.Csv.{CsvMade, not_made}

abbrev pub lane_numbers : Yard → ℕ → List ℕ
lane_numbers y lane = item_numbers (map item_of (orders_logged (post_at y lane)))

unfoldable pub lane_made : Yard → ℕ → List ℕ → CsvMade
lane_made y lane buffer =
    let numbers = lane_numbers y lane in
    cond (has_lane y.present lane)
    (record { number = csv_write_refusal numbers buffer; line = 0; length = cond (eqb (csv_write_refusal numbers buffer) 0) (length (handed_text numbers)) 0 })
    (not_made 0 21)

unfoldable pub lane_buffer : Yard → ℕ → List ℕ → List ℕ
lane_buffer y lane buffer = cond (has_lane y.present lane) (buffer_after (lane_numbers y lane) buffer) buffer

-- what a result of it says
abbrev pub lane_answer : Result ℕ Refusal → CsvMade
lane_answer (Ok length) = record { number = 0; line = 0; length = length }
lane_answer (Err refusal) = not_made 0 (refusal_number refusal)
