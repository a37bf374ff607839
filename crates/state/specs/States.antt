-- A yard in one state of 4,483 cells of 16 bits: the set of posts, the set of sources, how many frames were sent, how many beacons by
-- each lane, the first frames of the orders, then for each lane its post's row (Rows of `row`). Assumes nothing.
use Rattle.std.specs.Prelude.{ℕ, ◌+◌, ◌*◌, cond, List, map, eqb, length, get_or}
use Rattle.frame.specs.Lanes.{lanes}
use Rattle.row.specs.Rows.{part, post_in, known_in}
use Rattle.state.specs.Yards.{Yard}

-- the row of a lane
abbrev pub row_of : List ℕ → ℕ → List ℕ
row_of state lane = part state (139 + 543 * lane) 543

unfoldable pub yard_in : List ℕ → Yard
yard_in state = record {
  present = get_or state 0 0;
  sources = get_or state 1 0;
  frames = get_or state 2 0;
  beacons = part state 3 8;
  first = part state 11 128;
  posts = map (λ (lane : ℕ). post_in (row_of state lane)) lanes;
}

-- what each post knows of its log
unfoldable pub knowns_in : List ℕ → List (List ℕ)
knowns_in state = map (λ (lane : ℕ). known_in (row_of state lane)) lanes

-- what a state holds: a yard, with what each post knows of its log; cells in another number are no yard
pub data Held : Type 0 where
  whole : Yard → List (List ℕ) → Held
  other : List ℕ → Held

unfoldable pub held_in : List ℕ → Held
held_in state = cond (eqb (length state) 4483) (whole (yard_in state) (knowns_in state)) (other state)
