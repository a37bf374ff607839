-- The lines that are left to run at a place, what is left to print, and the last answer. Assumes nothing.
use mathlib.Core.Path.{◌≡◌, refl, sym, ◌∙◌}
use mathlib.Core.Bool.{not}
use mathlib.Core.List.{List, ◌∷◌}
use Prim.Native.Nat.{ℕ, ◌+◌, ◌<◌, ◌≤◌}
use lib.Dec.{eqb}
use lib.ListN.{length}
use Rattle.text.specs.Decimal.{given}
use Rattle.text.specs.Writing.{Out, wrote}
use Rattle.text.proofs.Laws.{wrote_append}
use Rattle.lines.specs.Line.{Line}
use Rattle.lines.specs.Lines.{line_at, next_of}
use Rattle.written.proofs.LineLists.{lines_none, lines_more}
use Rattle.yard.specs.InState.{Here}
use Rattle.meaning.specs.Texts.{refused_text}
use Rattle.meaning.specs.Script.{step_of}
use Rattle.script.specs.Told.{no_step}
use Rattle.script.specs.OnState.{run_in, refusal_in, told_in, here_after, refused_in, last_in, rest}

-- the lines from the place `at` on lead to the same end as all lines from the place `from` on; the text so far is in o, the last answer is t
pub record Left (s : List ℕ) (h₀ : Here) (from : ℕ) (o₀ : Out) (h : Here) (at line : ℕ) (o : Out) (t : ℕ) : Type 0 where
  pub here : here_after h (rest s at) ≡ here_after h₀ (rest s from)
  pub text : wrote o (refused_in h line (rest s at)) ≡ wrote o₀ (refused_in h₀ 1 (rest s from))
  pub last : last_in h t (rest s at) ≡ last_in h₀ no_step (rest s from)

-- what all lines leave
abbrev pub Done : List ℕ → Here → ℕ → Out → Here → Out → ℕ → Type 0
Done s h₀ from o₀ h o t =
    (h ≡ here_after h₀ (rest s from)) × ((o ≡ wrote o₀ (refused_in h₀ 1 (rest s from))) × (t ≡ last_in h₀ no_step (rest s from)))

-- at the script's end nothing is left
pub none_left : (s : List ℕ) (h₀ : Here) (from : ℕ) (o₀ : Out) (h : Here) (at line : ℕ) (o : Out) (t : ℕ)
    → length s ≤ at → Left s h₀ from o₀ h at line o t → Done s h₀ from o₀ h o t
unfolding here_after refused_in last_in wrote
none_left s h₀ from o₀ h at line o t e left =
    let none = lines_none s at (length s) e in
    (rw none at left.here, (rw none at left.text, rw none at left.last))

-- the first line's step run, and its refusal printed
here_one : (h : Here) (l : Line) (ls : List Line) → here_after h (l ∷ ls) ≡ here_after (run_in h (step_of l)) ls
unfolding here_after
here_one h l ls = refl

last_one : (h : Here) (t : ℕ) (l : Line) (ls : List Line) → last_in h t (l ∷ ls) ≡ last_in (run_in h (step_of l)) (told_in h (step_of l)) ls
unfolding last_in
last_one h t l ls = refl

refused_one : (o : Out) (h : Here) (line : ℕ) (l : Line) (ls : List Line)
    → wrote o (refused_in h line (l ∷ ls))
    ≡ wrote (wrote o (given (not (eqb (refusal_in h (step_of l)) 0)) (refused_text (line + 1) (refusal_in h (step_of l)))))
    (refused_in (run_in h (step_of l)) (line + 1) ls)
unfolding refused_in
refused_one o h line l ls = sym (wrote_append o _ _)

-- one line more
pub left_more : (s : List ℕ) (h₀ : Here) (from : ℕ) (o₀ : Out) (h h' : Here) (at line next n : ℕ) (o p : Out) (t t' : ℕ) (l : Line)
    → at < length s → l ≡ line_at s at → n ≡ refusal_in h (step_of l) → h' ≡ run_in h (step_of l) → t' ≡ told_in h (step_of l)
    → p ≡ wrote o (given (not (eqb n 0)) (refused_text (line + 1) n)) → next ≡ next_of s l
    → Left s h₀ from o₀ h at line o t → Left s h₀ from o₀ h' next (line + 1) p t'
left_more s h₀ from o₀ h h' at line next n o p t t' l k el en eh et ep ef left =
    let lines = lines_more s at k in
    rw (ep, ef, eh, et, en, el) (record {
      here = sym (here_one h (line_at s at) _) ∙ rw lines at left.here;
      text = sym (refused_one o h line (line_at s at) _) ∙ rw lines at left.text;
      last = sym (last_one h t (line_at s at) _) ∙ rw lines at left.last;
    })

pub nothing_left : (s : List ℕ) (h : Here) (from : ℕ) (o : Out) (t : ℕ) → t ≡ no_step → Left s h from o h from 1 o t
nothing_left s h from o t e = rw e (record { here = refl; text = refl; last = refl })
