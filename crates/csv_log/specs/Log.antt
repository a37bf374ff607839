-- A log for the charging desk, and refusals 31 and 32 of its records: document 02, K1. Assumes nothing.
use Rattle.std.specs.Prelude.{ℕ, ◌+◌, Bool, true, cond, not, ◌&&◌, ◌||◌, ◌≡◌, List, [], ◌∷◌, ◌++◌, map, ltb, leb, eqb, length}
use Rattle.csv_log.specs.declared.LogItem.{LogItem}

-- "A log here is its list of stamp, lane and word": a LogItem is one of them
abbrev pub log_item : ℕ → ℕ → ℕ → LogItem
log_item stamp lane word = record { stamp = stamp; lane = lane; word = word }

-- "one record an order": three numbers, or something else
pub data Record : Type 0 where
  in_three : LogItem → Record
  malformed : Record

-- the orders of records
unfoldable pub log_in : List Record → List LogItem
log_in [] = []
log_in (in_three x ∷ records) = x ∷ log_in records
log_in (malformed ∷ records) = log_in records

-- their numbers, three an order
unfoldable pub item_numbers : List LogItem → List ℕ
item_numbers [] = []
item_numbers (x ∷ l) = (x.stamp ∷ x.lane ∷ x.word ∷ []) ++ item_numbers l

-- ---- one record, after others: those before it are listed with the last of them first

-- "within document 01's ranges": "A stamp is .. 1 to 65,535", "lanes 0 to 7", "word 0 to 65,535"
unfoldable pub in_range : LogItem → Bool
in_range x = ltb 0 x.stamp && leb x.stamp 65535 && leb x.lane 7 && leb x.word 65535

-- "rise by stamp and then lane"
unfoldable pub rises : LogItem → LogItem → Bool
rises x y = ltb x.stamp y.stamp || (eqb x.stamp y.stamp && ltb x.lane y.lane)

unfoldable pub rises_after : List LogItem → LogItem → Bool
rises_after [] x = true
rises_after (last ∷ earlier) x = rises last x

-- how many of them are of a lane
unfoldable pub count_of_lane : ℕ → List LogItem → ℕ
count_of_lane lane [] = 0
count_of_lane lane (x ∷ l) = count_of_lane lane l + cond (eqb x.lane lane) 1 0

-- "31 for a record that is not three decimal fields .. within document 01's ranges ..,
-- 32 for records that do not rise by stamp and then lane, a 129th record, or a lane's 17th", "31 before 32 within it"
unfoldable pub item_refusal : List LogItem → LogItem → ℕ
item_refusal earlier x =
    cond (not (in_range x)) 31
    (cond (not (rises_after earlier x)) 32
    (cond (leb 128 (length earlier)) 32
    (cond (leb 16 (count_of_lane x.lane earlier)) 32
    0)))

-- ---- all records

-- which record is the first bad one, and its number
pub record FirstBad : Type 0 where
  pub which : ℕ
  pub number : ℕ

abbrev pub at_record : ℕ → ℕ → FirstBad
at_record which number = record { which = which; number = number }

-- "the first bad record decides": which record it is, the header being record 1, and its number; number 0 where none is bad, beside
-- how many records there are, the header among them
unfoldable pub first_bad : List LogItem → List Record → FirstBad
first_bad earlier [] = at_record (length earlier + 1) 0
first_bad earlier (malformed ∷ records) = at_record (length earlier + 2) 31
first_bad earlier (in_three x ∷ records) =
    let number = item_refusal earlier x in
    let rest = first_bad (x ∷ earlier) records in
    cond (eqb number 0) rest (at_record (length earlier + 2) number)

-- a log whose records are all good
abbrev pub GoodLog : List LogItem → Type 0
GoodLog l = (first_bad [] (map in_three l)).number ≡ 0
