-- What the code keeps of the records before one, as eleven cells, for the contracts of private functions; nobody has to believe it. Assumes nothing.
use Rattle.std.specs.Prelude.{ℕ, ◌+◌, ◌*◌, Bool, cond, ◌&&◌, List, [], ◌∷◌, ltb, eqb, get_or, set}
use Rattle.csv_log.specs.declared.LogItem.{LogItem}
use Rattle.csv_log.specs.declared.seen.Seen.{Seen}
use Rattle.csv_log.specs.Log.{Record, in_three, malformed, log_item, in_range, rises}

-- cell 0: how many there are, 1 and 2: stamp and lane of the last, from 3 on: how many each lane has
abbrev pub cells_of : Seen → List ℕ
cells_of seen = seen.orders ∷ seen.stamp ∷ seen.lane ∷ seen.lanes

abbrev pub none_seen : Seen
none_seen = record { orders = 0; stamp = 0; lane = 0; lanes = 0 ∷ 0 ∷ 0 ∷ 0 ∷ 0 ∷ 0 ∷ 0 ∷ 0 ∷ [] }

abbrev pub rises_by : List ℕ → LogItem → Bool
rises_by seen x = rises (log_item (get_or seen 1 0) (get_or seen 2 0) 0) x

abbrev pub room_by : List ℕ → LogItem → Bool
room_by seen x = ltb (get_or seen 0 0) 128 && ltb (get_or seen (3 + x.lane) 0) 16

unfoldable pub refusal_by : List ℕ → LogItem → ℕ
refusal_by seen x = cond (in_range x) (cond (rises_by seen x && room_by seen x) 0 32) 31

-- the cells with one order more
unfoldable pub seen_with : List ℕ → LogItem → List ℕ
seen_with seen x =
    let counted = set seen 0 (get_or seen 0 0 + 1) in
    let laned = set counted (3 + x.lane) (get_or seen (3 + x.lane) 0 + 1) in
    set (set laned 1 x.stamp) 2 x.lane

-- the cells after an order was judged: a refused one is not added
unfoldable pub seen_after : List ℕ → LogItem → List ℕ
seen_after seen x = cond (eqb (refusal_by seen x) 0) (seen_with seen x) seen

-- the numbers found, with those of an order that was not refused, at the place that the count says
unfoldable pub found_with : List ℕ → ℕ → LogItem → List ℕ
found_with found i x = set (set (set found i x.stamp) (i + 1) x.lane) (i + 2) x.word

unfoldable pub item_found : List ℕ → List ℕ → LogItem → List ℕ
item_found seen found x = cond (eqb (refusal_by seen x) 0) (found_with found (3 * get_or seen 0 0) x) found

-- the same of a record, which may be malformed
abbrev pub record_refusal_by : List ℕ → Record → ℕ
record_refusal_by seen (in_three x) = refusal_by seen x
record_refusal_by seen malformed = 31

abbrev pub record_seen : List ℕ → Record → List ℕ
record_seen seen (in_three x) = seen_after seen x
record_seen seen malformed = seen

abbrev pub record_found : List ℕ → List ℕ → Record → List ℕ
record_found seen found (in_three x) = item_found seen found x
record_found seen found malformed = found
