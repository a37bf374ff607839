-- Whole scripts, written and read: the statement. Assumes nothing.
use Rattle.std.specs.Prelude.{ℕ, ◌+◌, ◌≤◌, ◌≡◌, List, [], ◌∷◌, ◌++◌, length}
use Rattle.lines.specs.Line.{Line, Yard, Order, Hear, Beacon, Roll, Refused}
use Rattle.lines.specs.Lines.{lines_of, judged}
use Rattle.written.specs.Written.{line_text, Right}

-- the texts of lines, one after another
unfoldable pub text_of : List Line → List ℕ
text_of [] = []
text_of (l ∷ ls) = line_text l ++ text_of ls

-- a line, and where the line after it begins
abbrev pub followed_at : ℕ → Line → Line
followed_at next (Yard posts sources dests before) = Yard posts sources dests next
followed_at next (Order lane word before) = Order lane word next
followed_at next (Hear lane frame before) = Hear lane frame next
followed_at next (Beacon lane before) = Beacon lane next
followed_at next (Roll before) = Roll next
followed_at next (Refused number) = Refused number

-- lines one after another from a place on, each with the place where its text ends
unfoldable pub laid : ℕ → List Line → List Line
laid at [] = []
laid at (l ∷ ls) = followed_at (at + length (line_text l)) l ∷ laid (at + length (line_text l)) ls

-- steps, each as it may stand on a line after the first; which place that is does not matter
abbrev pub RightSteps : List Line → Type 0
RightSteps [] = Unit {0}
RightSteps (l ∷ ls) = Right 1 l × RightSteps ls

pub record WholeScripts : Type 0 where
  -- a yard line and steps, each as it may stand, written one after another within 48,000 bytes: accepted, and read as these lines in turn
  pub reads : (yard : Line) (steps : List Line) → Right 0 yard → RightSteps steps → length (text_of (yard ∷ steps)) ≤ 48000
      → ((judged (text_of (yard ∷ steps))).number ≡ 0) × (lines_of (text_of (yard ∷ steps)) ≡ laid 0 (yard ∷ steps))
  -- a script that is not refused is such a text: that of the lines read
  pub accepts : (s : List ℕ) → (judged s).number ≡ 0
      → (yard : Line) × (steps : List Line) × Right 0 yard × RightSteps steps × (length s ≤ 48000)
      × (text_of (yard ∷ steps) ≡ s) × (lines_of s ≡ yard ∷ steps) × (laid 0 (yard ∷ steps) ≡ yard ∷ steps)
  -- the lines of a longer script begin with those of its beginning
  pub longer : (s more : List ℕ) → (judged s).number ≡ 0 → (rest : List Line) × (lines_of (s ++ more) ≡ lines_of s ++ rest)
