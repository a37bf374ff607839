-- Whole scripts, written and read, proved: `whole_scripts`. Assumes nothing.
use mathlib.Core.Path.{◌≡◌, refl, sym, ap, ap₂, ◌∙◌, subst}
use mathlib.Core.Bool.{Bool, true, false, cond}
use mathlib.Core.List.{List, [], ◌∷◌, ◌++◌}
use Prim.Native.Nat.{ℕ, zero, suc, ◌+◌, ◌<◌, ◌≤◌}
use native.Mathlib.Omega.{arith}
use lib.Dec.{ltb, eqb}
use lib.ListN.{length, drop, take-append-drop, drop_of_length-le, length-append, get_or-append}
use lib.Seq.{drop-drop}
use borrow.Author.Tests.{eqb-true, eqb-false, ltb-true, ltb-false, le-ltb, ne_eqb}
use Rattle.lines.specs.Judged.{Judged}
use Rattle.lines.specs.Line.{Line, Yard, Order, Hear, Beacon, Roll, Refused}
use Rattle.lines.specs.Lines.{line_at, number_of, next_of, lines_from, lines_of, judged_lines, judged}
use Rattle.written.specs.Written.{line_text, Right}
use Rattle.written.specs.WholeScripts.{text_of, followed_at, laid, RightSteps, WholeScripts}
use Rattle.scan.proofs.Here.{Here, here_split}
use Rattle.written.proofs.Parts.{part_here}
use Rattle.written.proofs.Theorem.{line_reads, line_some, exact}
use Rattle.written.proofs.LineLists.{lines_one, lines_none, lines_more}

-- ---- a script that is not refused

abbrev found : ℕ → ℕ → Judged
found line number = record { line = line; number = number }

-- the first line is not refused, nor one of the others
pub first_passed : (j : ℕ) (l : Line) (ls : List Line) → (judged_lines j (l ∷ ls)).number ≡ 0 → (number_of l ≡ 0) × ((judged_lines (j + 1) ls).number ≡ 0)
unfolding judged_lines
first_passed j l ls h = go (eqb (number_of l) 0) refl h
  where
    go : (t : Bool) → eqb (number_of l) 0 ≡ t → (cond t (judged_lines (j + 1) ls) (found (j + 1) (number_of l))).number ≡ 0
        → (number_of l ≡ 0) × ((judged_lines (j + 1) ls).number ≡ 0)
    go true e k = (eqb-true _ _ e, k)
    go false e k = absurd (eqb-false _ _ e k)

-- what is left of the text is the text of the lines left
rest_is : (s : List ℕ) (n j at : ℕ) → at ≤ length s → length s ≤ n + at → (judged_lines j (lines_from s at n)).number ≡ 0 → text_of (lines_from s at n) ≡ drop at s
unfolding lines_from text_of
rest_is s zero j at h l k = sym (drop_of_length-le s {i = at} (omega arith))
rest_is s (suc n) j at h l k =
    go (ltb at (length s)) refl k (λ a b c. rest_is s n (j + 1) (next_of s (line_at s at)) a b c)
  where
    rest : List Line
    rest = lines_from s (next_of s (line_at s at)) n

    go : (t : Bool) → ltb at (length s) ≡ t → (judged_lines j (cond t (line_at s at ∷ rest) [])).number ≡ 0
        → (next_of s (line_at s at) ≤ length s → length s ≤ n + next_of s (line_at s at) → (judged_lines (j + 1) rest).number ≡ 0 → text_of rest ≡ drop (next_of s (line_at s at)) s)
        → text_of (cond t (line_at s at ∷ rest) []) ≡ drop at s
    go true e q f =
        let p = first_passed j (line_at s at) rest q in
        let w = exact.accepts s at p.0 in
        let t = line_text (line_at s at) in
        let i = f (omega (arith, w.1.0, w.2)) (omega (arith, w.2, line_some at (line_at s at) w.0)) p.1 in
        ap₂ ◌++◌ (sym w.1.1) (i ∙ ap (λ (m : ℕ). drop m s) w.2 ∙ sym (drop-drop (length t) at s)) ∙ take-append-drop (length t) (drop at s)
    go false e q f = sym (drop_of_length-le s (ltb-false at (length s) e))

-- a script that is not refused is not too long nor empty, and none of its lines is refused
pub judged_passed : (s : List ℕ) → (judged s).number ≡ 0 → (length s ≤ 48000) × (0 < length s) × ((judged_lines 0 (lines_of s)).number ≡ 0)
unfolding judged
judged_passed s h = go (ltb 48000 (length s)) refl (eqb (length s) 0) refl h
  where
    go : (a : Bool) → ltb 48000 (length s) ≡ a → (b : Bool) → eqb (length s) 0 ≡ b
        → (cond a (found 0 1) (cond b (found 1 3) (judged_lines 0 (lines_of s)))).number ≡ 0
        → (length s ≤ 48000) × (0 < length s) × ((judged_lines 0 (lines_of s)).number ≡ 0)
    go true p b q k = absurd (omega (arith, k))
    go false p true q k = absurd (omega (arith, k))
    go false p false q k = let some = eqb-false (length s) 0 q in (ltb-false 48000 (length s) p, omega arith, k)

script_is : (s : List ℕ) → (judged s).number ≡ 0 → text_of (lines_of s) ≡ s
script_is s h = rest_is s (length s) 0 0 (omega arith) (omega arith) (judged_passed s h).2

-- ---- a line with another place after it

followed_right : (at next : ℕ) (l : Line) → Right at l → Right at (followed_at next l)
followed_right at next (Yard posts sources dests before) r = r
followed_right at next (Order lane word before) r = r
followed_right at next (Hear lane frame before) r = r
followed_right at next (Beacon lane before) r = r
followed_right at next (Roll before) r = r
followed_right at next (Refused number) r = r

followed_text : (next : ℕ) (l : Line) → line_text (followed_at next l) ≡ line_text l
unfolding line_text
followed_text next (Yard posts sources dests before) = refl
followed_text next (Order lane word before) = refl
followed_text next (Hear lane frame before) = refl
followed_text next (Beacon lane before) = refl
followed_text next (Roll before) = refl
followed_text next (Refused number) = refl

-- it is not refused, the next line begins there, and one that begins there already stays
followed_next : (s : List ℕ) (at next : ℕ) (l : Line) → Right at l
    → (number_of (followed_at next l) ≡ 0) × (next_of s (followed_at next l) ≡ next) × (next_of s l ≡ next → followed_at next l ≡ l)
followed_next s at next (Yard posts sources dests before) r = (refl, refl, λ e. ap (Yard posts sources dests) (sym e))
followed_next s at next (Order lane word before) r = (refl, refl, λ e. ap (Order lane word) (sym e))
followed_next s at next (Hear lane frame before) r = (refl, refl, λ e. ap (Hear lane frame) (sym e))
followed_next s at next (Beacon lane before) r = (refl, refl, λ e. ap (Beacon lane) (sym e))
followed_next s at next (Roll before) r = (refl, refl, λ e. ap Roll (sym e))
followed_next s at next (Refused number) r = absurd r

-- a step may stand at any place but the first
step_anywhere : (at : ℕ) (l : Line) → 0 < at → Right 1 l → Right at l
step_anywhere at (Yard posts sources dests before) h r = absurd (omega (arith, r.0))
step_anywhere at (Order lane word before) h r = (h, r.1, r.2)
step_anywhere at (Hear lane frame before) h r = (h, r.1, r.2)
step_anywhere at (Beacon lane before) h r = (h, r.1)
step_anywhere at (Roll before) h r = h
step_anywhere at (Refused number) h r = r

step_later : (at : ℕ) (l : Line) → 0 < at → Right at l → Right 1 l
step_later at (Yard posts sources dests before) h r = absurd (omega (arith, r.0))
step_later at (Order lane word before) h r = (omega arith, r.1, r.2)
step_later at (Hear lane frame before) h r = (omega arith, r.1, r.2)
step_later at (Beacon lane before) h r = (omega arith, r.1)
step_later at (Roll before) h r = omega arith
step_later at (Refused number) h r = r

-- ---- lines that may stand one after another from a place on

abbrev after : ℕ → Line → ℕ
after at l = at + length (line_text l)

abbrev RightFrom : ℕ → List Line → Type 0
RightFrom at [] = Unit {0}
RightFrom at (l ∷ ls) = Right at l × RightFrom (after at l) ls

steps_from : (at : ℕ) (ls : List Line) → 0 < at → RightSteps ls → RightFrom at ls
steps_from at [] h r = tt
steps_from at (l ∷ ls) h r = (step_anywhere at l h r.0, steps_from (after at l) ls (omega arith) r.1)

from_steps : (at : ℕ) (ls : List Line) → 0 < at → RightFrom at ls → RightSteps ls
from_steps at [] h r = tt
from_steps at (l ∷ ls) h r = (step_later at l h r.0, from_steps (after at l) ls (omega arith) r.1)

-- ---- what is written is read

-- none of them is refused
laid_passed : (j at : ℕ) (ls : List Line) → RightFrom at ls → (judged_lines j (laid at ls)).number ≡ 0
unfolding judged_lines laid
laid_passed j at [] r = refl
laid_passed j at (l ∷ ls) r = rw (followed_next [] at (after at l) l r.0).0 (laid_passed (j + 1) (after at l) ls r.1)

module _ (s : List ℕ) where
  line_laid : (at : ℕ) (l : Line) → Right at l → Here s at (line_text l) → line_at s at ≡ followed_at (after at l) l
  line_laid at l r h =
      let e = followed_text (after at l) l in
      line_reads s at (followed_at (after at l) l) (followed_right at (after at l) l r) (rw e h) ((followed_next s at (after at l) l r).1 ∙ rw e refl)

  lines_laid : (ls : List Line) (n at : ℕ) → RightFrom at ls → Here s at (text_of ls) → at + length (text_of ls) ≡ length s → length s ≤ n + at
      → lines_from s at n ≡ laid at ls
  unfolding text_of laid
  lines_laid [] n at r h e b = lines_none s at n (omega arith)
  lines_laid (l ∷ ls) zero at r h e b =
      absurd (omega (arith, line_some at l r.0, length-append (line_text l) (text_of ls)))
  lines_laid (l ∷ ls) (suc n) at r h e b =
      let t = length-append (line_text l) (text_of ls) in
      let k = line_some at l r.0 in
      let q = here_split s (line_text l) (text_of ls) at h in
      let i = lines_laid ls n (after at l) r.1 q.1 (omega arith) (omega arith) in
      lines_one s at n (omega arith)
      ∙ rw (line_laid at l r.0 q.0, (followed_next s at (after at l) l r.0).1) (ap (λ (ls : List Line). followed_at (after at l) l ∷ ls) i)

-- a text stands in itself
here_itself : (t : List ℕ) → Here t 0 t
unfolding Here
here_itself t = (omega arith, λ i l. let q : 0 + i ≡ i = omega arith in rw q refl)

written_accepted : (yard : Line) (steps : List Line) → Right 0 yard → RightSteps steps → length (text_of (yard ∷ steps)) ≤ 48000
    → ((judged (text_of (yard ∷ steps))).number ≡ 0) × (lines_of (text_of (yard ∷ steps)) ≡ laid 0 (yard ∷ steps))
unfolding judged
written_accepted yard steps r rs b =
    let s = text_of (yard ∷ steps) in
    let some = line_some 0 yard r in
    let n : length s ≡ length (line_text yard) + length (text_of steps) = unfold text_of in length-append (line_text yard) (text_of steps) in
    let from : RightFrom 0 (yard ∷ steps) = (r, steps_from (after 0 yard) steps (omega arith) rs) in
    let e = lines_laid s (yard ∷ steps) (length s) 0 from (here_itself s) (omega arith) (omega arith) in
    (rw (le-ltb 48000 (length s) b, ne_eqb (length s) 0 (λ z. omega arith), e) (laid_passed 0 0 (yard ∷ steps) from), e)

-- ---- what is read was written

module _ (s : List ℕ) where
  read_right : (n j at : ℕ) → (judged_lines j (lines_from s at n)).number ≡ 0
      → RightFrom at (lines_from s at n) × (laid at (lines_from s at n) ≡ lines_from s at n)
  unfolding lines_from laid
  read_right zero j at k = (tt, refl)
  read_right (suc n) j at k = go (ltb at (length s)) k (λ q. read_right n (j + 1) (next_of s (line_at s at)) q)
    where
      rest : List Line
      rest = lines_from s (next_of s (line_at s at)) n

      go : (t : Bool) → (judged_lines j (cond t (line_at s at ∷ rest) [])).number ≡ 0
          → ((judged_lines (j + 1) rest).number ≡ 0 → RightFrom (next_of s (line_at s at)) rest × (laid (next_of s (line_at s at)) rest ≡ rest))
          → RightFrom at (cond t (line_at s at ∷ rest) []) × (laid at (cond t (line_at s at ∷ rest) []) ≡ cond t (line_at s at ∷ rest) [])
      go true q f =
          let p = first_passed j (line_at s at) rest q in
          let a = exact.accepts s at p.0 in
          let i = subst (λ (m : ℕ). RightFrom m rest × (laid m rest ≡ rest)) a.2 (f p.1) in
          ((a.0, i.0), ap₂ ◌∷◌ ((followed_next s at (after at (line_at s at)) (line_at s at) a.0).2 a.2) i.1)
      go false q f = (tt, refl)

-- a script that is not refused has a first line
only_written : (s : List ℕ) → (judged s).number ≡ 0
    → (yard : Line) × (steps : List Line) × Right 0 yard × RightSteps steps × (length s ≤ 48000)
    × (text_of (yard ∷ steps) ≡ s) × (lines_of s ≡ yard ∷ steps) × (laid 0 (yard ∷ steps) ≡ yard ∷ steps)
only_written s z =
    let p = judged_passed s z in
    let yard = line_at s 0 in
    let steps = lines_from s (next_of s yard) (length s) in
    let e : lines_of s ≡ yard ∷ steps = lines_more s 0 p.1 in
    let r = rw e at (read_right s (length s) 0 0 p.2) in
    let some = line_some 0 yard r.0.0 in
    (yard, steps, r.0.0, from_steps (after 0 yard) steps (omega arith) r.0.1, p.0, rw e at (script_is s z), e, r.1)

-- ---- a longer script

module _ (s more : List ℕ) where
  -- what stands in a text stands in a longer one
  here_longer : (at : ℕ) (t : List ℕ) → Here s at t → Here (s ++ more) at t
  unfolding Here
  here_longer at t h =
      let n = length-append s more in
      (omega (arith, h.0), λ i l. get_or-append s more 0 (at + i) (omega (arith, h.0)) ∙ h.1 i l)

  -- so a line that is not refused is read there too, and so is the line after it
  same_line : (at : ℕ) → number_of (line_at s at) ≡ 0
      → (line_at (s ++ more) at ≡ line_at s at) × (next_of (s ++ more) (line_at s at) ≡ next_of s (line_at s at))
  same_line at z =
      let l = line_at s at in
      let a = exact.accepts s at z in
      let f = followed_next (s ++ more) at (after at l) l a.0 in
      let e = (followed_next s at (after at l) l a.0).2 a.2 in (
        line_laid (s ++ more) at l a.0 (here_longer at (line_text l) (part_here s (line_text l) at a.1)) ∙ e,
        ap (next_of (s ++ more)) (sym e) ∙ f.1 ∙ sym a.2,
      )

  lines_begin : (n m j at : ℕ) → n ≤ m → (judged_lines j (lines_from s at n)).number ≡ 0
      → (rest : List Line) × (lines_from (s ++ more) at m ≡ lines_from s at n ++ rest)
  unfolding lines_from
  lines_begin zero m j at h k = (lines_from (s ++ more) at m, refl)
  lines_begin (suc n) zero j at h k = absurd (omega arith)
  lines_begin (suc n) (suc m) j at h k =
      go (ltb at (length s)) refl k (λ q. lines_begin n m (j + 1) (next_of s (line_at s at)) (omega arith) q)
    where
      l : Line
      l = line_at s at

      ls : List Line
      ls = lines_from s (next_of s l) n

      go : (t : Bool) → ltb at (length s) ≡ t → (judged_lines j (cond t (l ∷ ls) [])).number ≡ 0
          → ((judged_lines (j + 1) ls).number ≡ 0 → (rest : List Line) × (lines_from (s ++ more) (next_of s l) m ≡ ls ++ rest))
          → (rest : List Line) × (lines_from (s ++ more) at (suc m) ≡ cond t (l ∷ ls) [] ++ rest)
      go true e q f =
          let p = first_passed j l ls q in
          let i = f p.1 in
          let c = same_line at p.0 in
          (i.0, lines_one (s ++ more) at m (omega (arith, length-append s more, ltb-true at (length s) e)) ∙ rw (c.0, c.1) (ap (λ (x : List Line). l ∷ x) i.1))
      go false e q f = (lines_from (s ++ more) at (suc m), refl)

  lines_longer : (judged s).number ≡ 0 → (rest : List Line) × (lines_of (s ++ more) ≡ lines_of s ++ rest)
  lines_longer z = lines_begin (length s) (length (s ++ more)) 0 0 (omega (arith, length-append s more)) (judged_passed s z).2

pub whole_scripts : WholeScripts
whole_scripts = record { reads = written_accepted; accepts = only_written; longer = lines_longer }
