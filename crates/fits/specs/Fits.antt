-- Every printout fits the output that is lent for it: the statement. Assumes nothing.
use Rattle.std.specs.Prelude.{ℕ, ◌≤◌, List, length}
use Rattle.meaning.specs.Script.{printout}

-- the output that is lent, in bytes
abbrev pub output_bytes : ℕ
output_bytes = 131072

-- whatever the script and the air
abbrev pub Fits : Type 0
Fits = (s air : List ℕ) → length (printout s air) ≤ output_bytes
