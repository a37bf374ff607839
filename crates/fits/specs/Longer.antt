-- A longer script runs, refuses and logs first what its beginning does: the statement. Assumes nothing.
use Rattle.std.specs.Prelude.{ℕ, ◌≡◌, List, ◌++◌, ◌⊎◌, length}
use Rattle.laws.specs.Lists.{Begins}
use Rattle.lines.specs.Lines.{line_at, judged}
use Rattle.roll.specs.Logs.{log_at}
use Rattle.meaning.specs.Script.{refused_lines, script_start, step_lines, script_world}
use Rattle.fits.specs.Printed.{steps_of}

-- the script s on one air, and s with more bytes after it on another air of the same length
pub record Longer (s more air other : List ℕ) : Type 0 where
  -- line 1 is the same
  pub yard : line_at (s ++ more) 0 ≡ line_at s 0
  -- the steps begin with those of s
  pub steps : Begins (steps_of (step_lines s)) (steps_of (step_lines (s ++ more)))
  -- what is printed of refused steps begins with what s prints of them
  pub refused : Begins (refused_lines (script_start s air) 1 (step_lines s)) (refused_lines (script_start (s ++ more) other) 1 (step_lines (s ++ more)))
  -- a post's log begins with the one that s prints
  pub grows : (lane : ℕ) → Begins (log_at (script_world s air) lane) (log_at (script_world (s ++ more) other) lane)
  -- of two logs, of one post or two, one begins the other
  pub agree : (a b : ℕ) → Begins (log_at (script_world s air) a) (log_at (script_world (s ++ more) other) b)
      ⊎ Begins (log_at (script_world (s ++ more) other) b) (log_at (script_world s air) a)

-- where s is not refused; the longer script runs where it is not refused either
abbrev pub LongerScripts : Type 0
LongerScripts = (s more air other : List ℕ) → (judged s).number ≡ 0 → length air ≡ length other → Longer s more air other
