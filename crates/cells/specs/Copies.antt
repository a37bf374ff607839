-- Cells copied. Assumes nothing.
use Rattle.std.specs.Prelude.{ℕ, List, ◌++◌, length, take, drop}

-- the first cells of `to` are those of `from`, as many as both have; the others stay
unfoldable pub copied : List ℕ → List ℕ → List ℕ
copied from to = take (length to) from ++ drop (length from) to
