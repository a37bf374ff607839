-- A log that is handed in as numbers, and what writing it answers and leaves: document 02, K1. Assumes nothing.
use Rattle.std.specs.Prelude.{ℕ, ◌*◌, cond, List, [], ◌∷◌, ◌++◌, eqb, length, drop}
use Rattle.csv_log.specs.Log.{Record, in_three, malformed, log_item, log_in, first_bad}
use Rattle.csv_log.specs.Text.{log_text}

-- three numbers an order; one or two that are left over are a record that is not three fields
unfoldable pub records_in : List ℕ → List Record
records_in [] = []
records_in (stamp ∷ []) = malformed ∷ []
records_in (stamp ∷ lane ∷ []) = malformed ∷ []
records_in (stamp ∷ lane ∷ word ∷ l) = in_three (log_item stamp lane word) ∷ records_in l

-- the text of the orders handed in
abbrev pub handed_text : List ℕ → List ℕ
handed_text numbers = log_text (log_in (records_in numbers))

-- "a lent buffer of 2,048 bytes, any other length being refusal 6", then "the first bad record decides";
-- "Writing refuses by the same two."
unfoldable pub csv_write_refusal : List ℕ → List ℕ → ℕ
csv_write_refusal numbers buffer = cond (eqb (length buffer) 2048) (first_bad [] (records_in numbers)).number 6

-- "with its length as the answer", in one number with the refusal: refusal + 256 * length
unfoldable pub csv_write_answer : List ℕ → List ℕ → ℕ
csv_write_answer numbers buffer = cond (eqb (csv_write_refusal numbers buffer) 0) (256 * length (handed_text numbers)) (csv_write_refusal numbers buffer)

-- "The text goes to the start of a lent buffer ..; the rest stays."
unfoldable pub buffer_after : List ℕ → List ℕ → List ℕ
buffer_after numbers buffer =
    cond (eqb (csv_write_refusal numbers buffer) 0)
    (handed_text numbers ++ drop (length (handed_text numbers)) buffer)
    buffer
