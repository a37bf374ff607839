-- DEMAND 3, the statement; `agreement` in proofs/Theorem.antt proves it. Words in quotes are document 01's and the customer's. Assumes nothing.
use Rattle.std.specs.Prelude.{◌≡◌, ◌⊎◌, true, List, [], ◌∷◌, ◌++◌, ℕ, ◌+◌, ◌*◌, ◌-◌, ◌<◌, length}
use Rattle.std.specs.Int.Count.{ones}
use Rattle.cells.specs.Sets.{has_lane}
use Rattle.state.specs.Yards.{fresh_yard, yard_refusal}
use Rattle.yard.specs.Worlds.{World, world_of, Single, single, singles}
use Rattle.roll.specs.RollAnswer as calling
use Rattle.roll.specs.RollCall.{roll_steps}
use Rattle.roll.specs.Runs.{Step, one, roll, answer, called, run, Order, sent}
use Rattle.roll.specs.Logs.{log_at, in_order, Rising}
use Rattle.roll.specs.Answers.{answer_number}
use Rattle.laws.specs.Lists.{Mem, Begins}

-- a fresh yard of three sets of lanes, and any air
abbrev pub fresh_world : ℕ → ℕ → ℕ → List ℕ → World
fresh_world present sources dests air = world_of (fresh_yard present sources dests) air

-- ---- what holds after a list of steps

-- "Every post's delivery log is the beginning of one list of orders: all that were sent by the end of those steps or of any continuation of them,
-- by stamp and then lane, each once."
abbrev pub LogsBegin : World → Type 0
LogsBegin w = (steps more : List Step) (lane : ℕ) → Begins (log_at (run w steps) lane) (in_order (sent w (steps ++ more)))

-- that list has just the orders sent, each once; their lanes are below 8, so that `rank` is by stamp and then lane
pub record OneList (w : World) (steps : List Step) : Type 0 where
  pub lanes : (o : Order) → Mem o (sent w steps) → o.lane < 8
  pub all : (o : Order) → Mem o (sent w steps) → Mem o (in_order (sent w steps))
  pub only : (o : Order) → Mem o (in_order (sent w steps)) → Mem o (sent w steps)
  pub count : length (in_order (sent w steps)) ≡ length (sent w steps)
  pub rising : Rising (in_order (sent w steps))

-- "Of any two logs in one run, of one post or two, at one moment or two, one therefore begins the other."
abbrev pub LogsAgree : World → Type 0
LogsAgree w = (steps more : List Step) (a b : ℕ)
    → Begins (log_at (run w steps) a) (log_at (run w (steps ++ more)) b) ⊎ Begins (log_at (run w (steps ++ more)) b) (log_at (run w steps) a)

-- every one of a list of single steps is accepted, each in the world that the one before left
abbrev pub AllAccepted : World → List Single → Type 0
AllAccepted w [] = Unit {0}
AllAccepted w (s ∷ l) = (answer_number (answer w (one s)) ≡ 0) × AllAccepted (single w s) l

-- "If the steps end with a roll call that is not refused": it answered n
pub record AfterRollCall (present sources dests : ℕ) (w : World) (steps : List Step) (n : ℕ) : Type 0 where
  -- "every destination's log is exactly all orders sent so far, by stamp and then lane, each once"
  pub logs : (lane : ℕ) → has_lane dests lane ≡ true → log_at (run w (steps ++ (roll ∷ []))) lane ≡ in_order (sent w (steps ++ (roll ∷ [])))
  -- "It does what this list of single steps does, run one after another"
  pub did : run w (steps ++ (roll ∷ [])) ≡ singles (run w steps) (roll_steps (run w steps))
  -- "That call's answer is the number of single steps that it ran"
  pub ran : n ≡ length (roll_steps (run w steps))
  -- and none of them was refused
  pub accepted : AllAccepted (run w steps) (roll_steps (run w steps))
  -- "and equals (N−1)×M + N×S for N posts, M orders sent so far and S sources"
  pub formula : n ≡ (ones present - 1) * length (sent w steps) + ones present * ones sources

-- ---- demand 3, of a fresh world w: the customer's sentences, in their order

pub record Demand3 (present sources dests : ℕ) (w : World) : Type 0 where
  pub logs : LogsBegin w
  pub list : (steps : List Step) → OneList w steps
  pub agree : LogsAgree w
  pub rolls : (steps : List Step) (n : ℕ) → answer (run w steps) roll ≡ called (calling.Called n)
      → AfterRollCall present sources dests w steps n

-- for every fresh yard that is not refused, its sets being of eight bits, and every air, of any bytes and any length
abbrev pub Agreement : Type 0
Agreement = (present sources dests : ℕ) (air : List ℕ) → present < 256 → sources < 256 → dests < 256 → yard_refusal present sources dests ≡ 0
    → Demand3 present sources dests (fresh_world present sources dests air)
