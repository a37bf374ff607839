-- The parts of a fresh yard's state. For contracts of private functions; nobody has to believe it. Assumes nothing.
use Rattle.std.specs.Prelude.{◌≡◌, List, ℕ, ◌+◌, ◌<◌, ◌≤◌, get_or, replicate}
use Rattle.post.specs.Record.{fresh_post}
use Rattle.row.specs.Rows.{part, post_in, known_in}
use Rattle.state.specs.States.{row_of}

-- the cells before the rows
pub record FreshFront (state : List ℕ) (present sources : ℕ) : Type 0 where
  pub posts : get_or state 0 0 ≡ present
  pub roles : get_or state 1 0 ≡ sources
  pub frames : get_or state 2 0 ≡ 0
  pub beacons : part state 3 8 ≡ replicate 8 0
  pub first : part state 11 128 ≡ replicate 128 0

-- the rows of the lanes below n
pub record FreshBelow (state : List ℕ) (present sources dests n : ℕ) : Type 0 where
  pub post : (lane : ℕ) → lane < n → post_in (row_of state lane) ≡ fresh_post lane present sources dests
  pub known : (lane : ℕ) → lane < n → known_in (row_of state lane) ≡ replicate 8 0

-- two states have the same cells before the rows
abbrev pub SameFront : List ℕ → List ℕ → Type 0
SameFront s t = (b m : ℕ) → b + m ≤ 139 → part t b m ≡ part s b m
