-- The judgement's tests over numbers and single arrays: for the contracts of private functions. Assumes nothing.
use Rattle.std.specs.Prelude.{ℕ, ◌+◌, ◌*◌, ◌/◌, ◌%◌, Bool, not, ◌&&◌, ◌||◌, List, ltb, leb, eqb, get_or}
use Rattle.frame.specs.Lanes.{any_below}
use Rattle.cells.specs.Sets.{role_astray}
use Rattle.post.specs.declared.Post.{Post}
use Rattle.row.specs.declared.Numbers.{Numbers}
use Rattle.judge.specs.Judgement.{bad_number, bad_role, bad_own_serial}

-- the tests of numbers
abbrev pub bad_numbers : Post → Bool
bad_numbers p = bad_number p || bad_role p || bad_own_serial p

-- the same of numbers, and the last serials beside them
abbrev pub bad_numbers_in : Numbers → List ℕ → Bool
bad_numbers_in n last =
    (ltb 7 n.lane || ltb 16 n.serial.0 || ltb 128 n.logged || any_below (λ (i : ℕ). ltb 16 (get_or last i 0)) 8)
    || role_astray n.posts n.sources n.dests || not (eqb n.serial.0 (get_or last n.lane 0))

abbrev pub taken_in : List ℕ → ℕ → Bool
taken_in last place = ltb (place % 16) (get_or last (place / 16) 0)

abbrev pub bad_order_in : List ℕ → List ℕ → List ℕ → ℕ → Bool
bad_order_in last stamps words place =
    (taken_in last place && eqb (get_or stamps place 0) 0)
    || (not (taken_in last place) && (not (eqb (get_or stamps place 0) 0) || not (eqb (get_or words place 0) 0)))

-- the same of order k of a lane
abbrev pub bad_serial_in : List ℕ → List ℕ → List ℕ → ℕ → ℕ → Bool
bad_serial_in last stamps words k lane =
    (ltb k (get_or last lane 0) && eqb (get_or stamps (lane * 16 + k) 0) 0)
    || (not (ltb k (get_or last lane 0)) && (not (eqb (get_or stamps (lane * 16 + k) 0) 0) || not (eqb (get_or words (lane * 16 + k) 0) 0)))

abbrev pub bad_used_in : List ℕ → List ℕ → ℕ → Bool
bad_used_in last log k =
    any_below (λ (j : ℕ). eqb (get_or log j 0) (get_or log k 0)) k || (ltb 127 (get_or log k 0) || not (taken_in last (get_or log k 0)))

-- the same where those before it bear a mark
abbrev pub bad_place_in : List ℕ → List ℕ → ℕ → Bool
bad_place_in last marks place = not (eqb (get_or marks place 0) 0) || (ltb 127 place || not (taken_in last place))

abbrev pub bad_unused_in : List ℕ → ℕ → Bool
bad_unused_in log k = not (eqb (get_or log k 0) 0)

abbrev pub bad_logged_in : List ℕ → List ℕ → ℕ → ℕ → Bool
bad_logged_in last log logged k = (ltb k logged && bad_used_in last log k) || (leb logged k && bad_unused_in log k)
