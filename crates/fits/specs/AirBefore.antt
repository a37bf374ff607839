-- What is printed does not depend on the bytes that the air held before: the statement. Assumes nothing.
use Rattle.std.specs.Prelude.{ℕ, ◌≡◌, List, length}
use Rattle.meaning.specs.Script.{printout}

-- any script, refused or not, on two airs of the same length
abbrev pub AirBefore : Type 0
AirBefore = (s air other : List ℕ) → length air ≡ length other → printout s air ≡ printout s other
