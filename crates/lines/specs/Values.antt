-- Document 01's number, form and values for each case of a line, and those of the line that begins at a place. Assumes nothing.
use Rattle.std.specs.Prelude.{ℕ, cond, List, [], ◌∷◌, eqb}
use Rattle.text.specs.Bytes.{bytes}
use Rattle.lines.specs.Line.{Line, Yard, Order, Hear, Beacon, Roll, Refused}
use Rattle.lines.specs.Forms.{order_form, hear_form, beacon_form, roll_form, read_form, read_yard}
use Rattle.lines.specs.Lines.{yard_line_refusal, step_line_refusal}

-- the number that refuses a line, or 0; the word that its form begins with; the numbers that follow in turn, of a yard its posts,
-- sources and destinations as sets
pub record LineValues : Type 0 where
  pub number : ℕ
  pub form : List ℕ
  pub values : List ℕ

-- a line that is not refused, and one that is
abbrev pub of_form : List ℕ → List ℕ → LineValues
of_form form values = record { number = 0; form = form; values = values }

abbrev pub only_number : ℕ → LineValues
only_number number = record { number = number; form = []; values = [] }

-- each case of a line
abbrev pub values_of : Line → LineValues
values_of (Yard posts sources dests next) = of_form (bytes "yard") (posts ∷ sources ∷ dests ∷ [])
values_of (Order lane word next) = of_form (bytes "order") (lane ∷ word ∷ [])
values_of (Hear lane frame next) = of_form (bytes "hear") (lane ∷ frame ∷ [])
values_of (Beacon lane next) = of_form (bytes "beacon") (lane ∷ [])
values_of (Roll next) = of_form (bytes "roll") []
values_of (Refused number) = only_number number

-- a line of a form, unless a number refuses it
unfoldable pub of_form_unless : ℕ → List ℕ → List ℕ → LineValues
of_form_unless number form values = cond (eqb number 0) (of_form form values) (only_number number)

-- the line that begins at a place, by the form that it has; 2 where it has none
unfoldable pub values_at : List ℕ → ℕ → LineValues
values_at s at =
    let o = read_form s order_form at in
    let h = read_form s hear_form at in
    let b = read_form s beacon_form at in
    let y = read_yard s at in
    cond o.ok (of_form_unless (step_line_refusal at o.earlier o.latest) (bytes "order") (o.earlier ∷ o.latest ∷ []))
    (cond h.ok (of_form_unless (step_line_refusal at h.earlier 0) (bytes "hear") (h.earlier ∷ h.latest ∷ []))
    (cond b.ok (of_form_unless (step_line_refusal at b.latest 0) (bytes "beacon") (b.latest ∷ []))
    (cond (read_form s roll_form at).ok (of_form_unless (step_line_refusal at 0 0) (bytes "roll") [])
    (cond y.ok (of_form_unless (yard_line_refusal at y) (bytes "yard") (y.posts ∷ y.sources ∷ y.dests ∷ []))
    (only_number 2)))))
