-- The line that is read at a place has the number, form and values that stand there. Assumes nothing.
use mathlib.Core.Path.{◌≡◌, refl, ap, ◌∙◌}
use mathlib.Core.Bool.{Bool, true, false, cond}
use mathlib.Core.List.{List}
use Prim.Native.Nat.{ℕ}
use lib.Dec.{eqb}
use Rattle.lines.specs.Line.{Line, Refused}
use Rattle.lines.specs.Forms.{order_form, hear_form, beacon_form, roll_form, read_form, read_yard}
use Rattle.lines.specs.Lines.{yard_line, order_line, hear_line, beacon_line, roll_line, yard_or, roll_or, beacon_or, hear_or, line_at}
use Rattle.lines.specs.Values.{LineValues, of_form, only_number, values_of, of_form_unless, values_at}

-- a line of a form, or its refusal
unless : (k : ℕ) (l : Line) (form values : List ℕ) → values_of l ≡ of_form form values
    → values_of (cond (eqb k 0) l (Refused k)) ≡ of_form_unless k form values
unfolding of_form_unless
unless k l form values e = go (eqb k 0)
  where
    go : (t : Bool) → values_of (cond t l (Refused k)) ≡ cond t (of_form form values) (only_number k)
    go true = e
    go false = refl

-- one form, or another
other_form : (t : Bool) (l m : Line) (v u : LineValues) → values_of l ≡ v → values_of m ≡ u → values_of (cond t l m) ≡ cond t v u
other_form true l m v u e f = e
other_form false l m v u e f = f

pub values_at_lem : (s : List ℕ) (at : ℕ) → values_of (line_at s at) ≡ values_at s at
unfolding line_at hear_or beacon_or roll_or yard_or yard_line order_line hear_line beacon_line roll_line values_at
values_at_lem s at =
    other_form (read_form s order_form at).ok _ _ _ _ (unless _ _ _ _ refl)
    (other_form (read_form s hear_form at).ok _ _ _ _ (unless _ _ _ _ refl)
    (other_form (read_form s beacon_form at).ok _ _ _ _ (unless _ _ _ _ refl)
    (other_form (read_form s roll_form at).ok _ _ _ _ (unless _ _ _ _ refl)
    (other_form (read_yard s at).ok _ _ _ _ (unless _ _ _ _ refl) refl))))

-- the same of what was read
pub with_values : (s : List ℕ) (at : ℕ) (l : Line) → l ≡ line_at s at → (l ≡ line_at s at) × (values_of l ≡ values_at s at)
with_values s at l e = (e, ap values_of e ∙ values_at_lem s at)
