-- A script's lines and its refusals 1 to 5: document 01, "Turned down because of the input". Assumes nothing.
use Rattle.std.specs.Prelude.{ℕ, zero, suc, ◌+◌, cond, ◌&&◌, List, [], ◌∷◌, ltb, eqb, length}
use Rattle.scan.specs.declared.Scan.{Scan}
use Rattle.lines.specs.declared.YardScan.{YardScan}
use Rattle.lines.specs.Judged.{Judged}
use Rattle.lines.specs.Line.{Line, Yard, Order, Hear, Beacon, Roll, Refused}
use Rattle.lines.specs.Forms.{order_form, hear_form, beacon_form, roll_form, read_form, read_yard}

-- ---- one line; line 1 is the one at place 0

-- 3: "Line 1 not the yard form, a yard form on a later line, no posts, a lane over 7 in it, or its lanes not rising."
unfoldable pub yard_line_refusal : ℕ → YardScan → ℕ
yard_line_refusal at y = cond (eqb at 0 && y.rising && ltb 0 y.posts) 0 3

unfoldable pub yard_line : ℕ → YardScan → Line
yard_line at y =
    cond (eqb (yard_line_refusal at y) 0) (Yard y.posts y.sources y.dests y.at)
    (Refused (yard_line_refusal at y))

-- 3, 4: "A step's lane over 7.", 5: "A word over 65,535."
unfoldable pub step_line_refusal : ℕ → ℕ → ℕ → ℕ
step_line_refusal at lane word =
    cond (eqb at 0) 3
    (cond (ltb 7 lane) 4
    (cond (ltb 65535 word) 5
    0))

unfoldable pub order_line : ℕ → Scan → Line
order_line at c =
    cond (eqb (step_line_refusal at c.earlier c.latest) 0) (Order c.earlier c.latest c.at)
    (Refused (step_line_refusal at c.earlier c.latest))

unfoldable pub hear_line : ℕ → Scan → Line
hear_line at c =
    cond (eqb (step_line_refusal at c.earlier 0) 0) (Hear c.earlier c.latest c.at)
    (Refused (step_line_refusal at c.earlier 0))

unfoldable pub beacon_line : ℕ → Scan → Line
beacon_line at c =
    cond (eqb (step_line_refusal at c.latest 0) 0) (Beacon c.latest c.at)
    (Refused (step_line_refusal at c.latest 0))

unfoldable pub roll_line : ℕ → Scan → Line
roll_line at c = cond (eqb (step_line_refusal at 0 0) 0) (Roll c.at) (Refused (step_line_refusal at 0 0))

-- the form that a line has, tried one after the other; 2: "A line not of the form below .."
unfoldable pub yard_or : List ℕ → ℕ → Line
yard_or s at = cond (read_yard s at).ok (yard_line at (read_yard s at)) (Refused 2)

unfoldable pub roll_or : List ℕ → ℕ → Line
roll_or s at = cond (read_form s roll_form at).ok (roll_line at (read_form s roll_form at)) (yard_or s at)

unfoldable pub beacon_or : List ℕ → ℕ → Line
beacon_or s at = cond (read_form s beacon_form at).ok (beacon_line at (read_form s beacon_form at)) (roll_or s at)

unfoldable pub hear_or : List ℕ → ℕ → Line
hear_or s at = cond (read_form s hear_form at).ok (hear_line at (read_form s hear_form at)) (beacon_or s at)

-- the line that begins at a place
unfoldable pub line_at : List ℕ → ℕ → Line
line_at s at = cond (read_form s order_form at).ok (order_line at (read_form s order_form at)) (hear_or s at)

-- the number that a line is refused by, or 0
abbrev pub number_of : Line → ℕ
number_of (Yard posts sources dests next) = 0
number_of (Order lane word next) = 0
number_of (Hear lane frame next) = 0
number_of (Beacon lane next) = 0
number_of (Roll next) = 0
number_of (Refused number) = number

-- the place of the line after it; nothing is read after a refused line
abbrev pub next_of : List ℕ → Line → ℕ
next_of s (Yard posts sources dests next) = next
next_of s (Order lane word next) = next
next_of s (Hear lane frame next) = next
next_of s (Beacon lane next) = next
next_of s (Roll next) = next
next_of s (Refused number) = length s

-- ---- the script

-- the lines from a place on; n is at least their number
unfoldable pub lines_from : List ℕ → ℕ → ℕ → List Line
lines_from s at zero = []
lines_from s at (suc n) = cond (ltb at (length s)) (line_at s at ∷ lines_from s (next_of s (line_at s at)) n) []

-- a text has no more lines than bytes
abbrev pub lines_of : List ℕ → List Line
lines_of s = lines_from s 0 (length s)

-- the first refused line and its number, after n lines that are not refused; number 0 where there is none
unfoldable pub judged_lines : ℕ → List Line → Judged
judged_lines n [] = record { line = n; number = 0 }
judged_lines n (l ∷ ls) = cond (eqb (number_of l) 0) (judged_lines (n + 1) ls) (record { line = n + 1; number = number_of l })

-- 1: "Script over 48,000 bytes." "line 0 for refusal 1; empty text gives line 1, number 3"
unfoldable pub judged : List ℕ → Judged
judged s =
    cond (ltb 48000 (length s)) (record { line = 0; number = 1 })
    (cond (eqb (length s) 0) (record { line = 1; number = 3 })
    (judged_lines 0 (lines_of s)))
