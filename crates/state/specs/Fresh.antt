-- A fresh yard in a state: 3, "no posts"; 12, "a role at a lane without a post", or a state of another length. Assumes nothing.
use Rattle.std.specs.Prelude.{ℕ, cond, List, eqb, replicate}
use Rattle.std.specs.Int.Count.{ones}
use Rattle.state.specs.Yards.{fresh_yard, yard_refusal}
use Rattle.state.specs.States.{Held, whole, other}

-- the number that making it is refused by, or 0, and what the state holds then
pub record Made : Type 0 where
  pub number : ℕ
  pub held : Held

-- nothing is known of the eight logs
abbrev pub nothing_known : List (List ℕ)
nothing_known = replicate 8 (replicate 8 0)

unfoldable pub fresh_in : Held → ℕ → ℕ → ℕ → Made
fresh_in (other cells) present sources dests = record { number = cond {A = ℕ} (eqb (ones present) 0) 3 12; held = other cells }
fresh_in (whole y knowns) present sources dests =
    let number = yard_refusal present sources dests in
    cond (eqb number 0) (record { number = 0; held = whole (fresh_yard present sources dests) nothing_known })
    (record { number = number; held = whole y knowns })
