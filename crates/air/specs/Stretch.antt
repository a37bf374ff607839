-- What asking for frame k gives back: document 01, "Frames and the air". Assumes nothing.
use Rattle.std.specs.Prelude.{ℕ, List, [], cond, eqb}
use Rattle.air.specs.Air.{bad_air, not_on_air, stretch_at}

-- the number that asking for frame k gets, where `frames` were broadcast: 0, 13 or 25
unfoldable pub stretch_refusal : List ℕ → ℕ → ℕ → ℕ
stretch_refusal air frames k = cond (bad_air air) 13 (cond (not_on_air frames k) 25 0)

-- "the air gives back that stretch of itself, or an empty stretch when 13 or 25 holds"
unfoldable pub stretch_of : List ℕ → ℕ → ℕ → List ℕ
stretch_of air frames k = cond (eqb (stretch_refusal air frames k) 0) (stretch_at air k) []
