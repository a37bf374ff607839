-- The reader's definitions accept exactly the lines that are written: the statement. Whole scripts: WholeScripts.antt. Assumes nothing.
use Rattle.std.specs.Prelude.{ℕ, ◌+◌, ◌≤◌, ◌≡◌, List, length, take, drop}
use Rattle.lines.specs.Line.{Line}
use Rattle.lines.specs.Lines.{line_at, number_of, next_of}
use Rattle.written.specs.Written.{line_text, Right}

-- the text t stands in s at a place
abbrev pub Stands : List ℕ → ℕ → List ℕ → Type 0
Stands s at t = (at + length t ≤ length s) × (take (length t) (drop at s) ≡ t)

pub record Exact : Type 0 where
  -- a line that is written reads back as itself
  pub reads : (s : List ℕ) (at : ℕ) (l : Line) → Right at l → Stands s at (line_text l) → next_of s l ≡ at + length (line_text l) → line_at s at ≡ l
  -- a line that is accepted is exactly what writing it gives
  pub accepts : (s : List ℕ) (at : ℕ) → number_of (line_at s at) ≡ 0 →
      Right at (line_at s at) × Stands s at (line_text (line_at s at)) × (next_of s (line_at s at) ≡ at + length (line_text (line_at s at)))
