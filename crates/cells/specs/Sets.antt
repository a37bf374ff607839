-- Sets of lanes, held as eight bits. Assumes nothing.
use Rattle.std.specs.Prelude.{ℕ, ◌/◌, ◌%◌, ◌^◌, Bool, not, ◌&&◌, ◌||◌, ltb, eqb}
use Rattle.frame.specs.Lanes.{any_below}

-- lane i is in the set: bit i is 1, and there are no lanes but 0 to 7
abbrev pub has_lane : ℕ → ℕ → Bool
has_lane lanes i = ltb i 8 && eqb (lanes / 2 ^ i % 2) 1

-- "a role at a lane without a post"
abbrev pub role_astray : ℕ → ℕ → ℕ → Bool
role_astray posts sources dests = any_below (λ (i : ℕ). (has_lane sources i || has_lane dests i) && not (has_lane posts i)) 8
