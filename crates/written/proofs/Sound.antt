-- Each step that is accepted is written there. Assumes nothing.
use mathlib.Core.Path.{◌≡◌, refl}
use mathlib.Core.Bool.{Bool, true, false, cond}
use mathlib.Core.List.{List}
use Prim.Native.Nat.{ℕ, ◌+◌, ◌<◌}
use native.Mathlib.Omega.{arith}
use lib.Dec.{eqb}
use lib.ListN.{length}
use borrow.Author.Tests.{eqb-true, eqb-false}
use Rattle.text.specs.Bytes.{bytes}
use Rattle.lines.specs.Line.{Line, Order, Hear, Beacon, Roll, Refused}
use Rattle.scan.specs.Scan.{start_at}
use Rattle.lines.specs.Forms.{read_form, order_form, hear_form, beacon_form, roll_form}
use Rattle.lines.specs.Lines.{line_at, hear_or, beacon_or, roll_or, yard_or, order_line, hear_line, beacon_line, roll_line, step_line_refusal, number_of, next_of}
use Rattle.written.specs.Written.{line_text, Right}
use Rattle.lines.proofs.Laws.{step_right}
use Rattle.scan.proofs.Here.{Here}
use Rattle.scan.proofs.Reading.{text_sound}
use Rattle.written.proofs.Forms.{one_sound, two_sound, text1, text2}

-- a line that stands at a place as it is written
unfoldable pub Written : List ℕ → ℕ → Line → Type 0
Written s at l = Right at l × Here s at (line_text l) × (next_of s l ≡ at + length (line_text l))

-- a line is refused, or it is written there
unfoldable pub Sound : List ℕ → ℕ → Line → Type 0
Sound s at l = number_of l ≡ 0 → Written s at l

order_line_lem : (s : List ℕ) (at : ℕ) → (read_form s order_form at).ok ≡ true → Sound s at (order_line at (read_form s order_form at))
unfolding order_line Sound Written line_text
order_line_lem s at q = let w = two_sound s (bytes "(order ") at q in rw w.5 (go w.0 w.1 w.4 _ refl)
  where
    go : (a b : ℕ) → Here s at (text2 (bytes "(order ") a b) → (t : Bool) → eqb (step_line_refusal at a b) 0 ≡ t
        → Sound s at (cond t (Order a b (at + length (text2 (bytes "(order ") a b))) (Refused (step_line_refusal at a b)))
    go a b h true e n = let z = step_right at a b (eqb-true _ _ e) in ((omega (arith, z.0), omega (arith, z.1), omega (arith, z.2)), h, refl)
    go a b h false e n = absurd (eqb-false _ _ e n)

hear_line_lem : (s : List ℕ) (at : ℕ) → (read_form s hear_form at).ok ≡ true → Sound s at (hear_line at (read_form s hear_form at))
unfolding hear_line Sound Written line_text
hear_line_lem s at q = let w = two_sound s (bytes "(hear ") at q in rw w.5 (go w.0 w.1 w.3 w.4 _ refl)
  where
    go : (a b : ℕ) → b < 100000 → Here s at (text2 (bytes "(hear ") a b) → (t : Bool) → eqb (step_line_refusal at a 0) 0 ≡ t
        → Sound s at (cond t (Hear a b (at + length (text2 (bytes "(hear ") a b))) (Refused (step_line_refusal at a 0)))
    go a b l h true e n = let z = step_right at a 0 (eqb-true _ _ e) in ((z.0, z.1, l), h, refl)
    go a b l h false e n = absurd (eqb-false _ _ e n)

beacon_line_lem : (s : List ℕ) (at : ℕ) → (read_form s beacon_form at).ok ≡ true → Sound s at (beacon_line at (read_form s beacon_form at))
unfolding beacon_line Sound Written line_text
beacon_line_lem s at q = let w = one_sound s (bytes "(beacon ") at q in rw w.3 (go w.0 w.2 _ refl)
  where
    go : (a : ℕ) → Here s at (text1 (bytes "(beacon ") a) → (t : Bool) → eqb (step_line_refusal at a 0) 0 ≡ t
        → Sound s at (cond t (Beacon a (at + length (text1 (bytes "(beacon ") a))) (Refused (step_line_refusal at a 0)))
    go a h true e n = let z = step_right at a 0 (eqb-true _ _ e) in ((omega (arith, z.0), omega (arith, z.1)), h, refl)
    go a h false e n = absurd (eqb-false _ _ e n)

roll_line_lem : (s : List ℕ) (at : ℕ) → (read_form s roll_form at).ok ≡ true → Sound s at (roll_line at (read_form s roll_form at))
unfolding roll_line Sound Written line_text
roll_line_lem s at q = let w = text_sound s (bytes "(roll)\n") (start_at at) q in rw w.2 (go w.1 _ refl)
  where
    go : Here s at (bytes "(roll)\n") → (t : Bool) → eqb (step_line_refusal at 0 0) 0 ≡ t
        → Sound s at (cond t (Roll (at + length (bytes "(roll)\n"))) (Refused (step_line_refusal at 0 0)))
    go h true e n = ((step_right at 0 0 (eqb-true _ _ e)).0, h, refl)
    go h false e n = absurd (eqb-false _ _ e n)

-- whichever form was tried
tried : (P : Line → Type 0) (t : Bool) (x y : Line) → (t ≡ true → P x) → P y → P (cond t x y)
tried P true x y f g = f refl
tried P false x y f g = g

-- a line is sound if the yard's is
pub line_sound : (s : List ℕ) (at : ℕ) → Sound s at (yard_or s at) → Sound s at (line_at s at)
unfolding line_at hear_or beacon_or roll_or
line_sound s at y =
    tried (Sound s at) (read_form s order_form at).ok _ _ (order_line_lem s at)
    (tried (Sound s at) (read_form s hear_form at).ok _ _ (hear_line_lem s at)
    (tried (Sound s at) (read_form s beacon_form at).ok _ _ (beacon_line_lem s at)
    (tried (Sound s at) (read_form s roll_form at).ok _ _ (roll_line_lem s at)
    y)))
