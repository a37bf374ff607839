-- Every printout fits the output that is lent for it, proved: `fits`. The statement is specs/Fits.antt. Assumes nothing.
use Prim.Native.Nat.{ℕ, ◌+◌, ◌≤◌}
use mathlib.Core.Path.{◌≡◌, refl}
use mathlib.Core.List.{List}
use mathlib.Core.Logic.{◌⊎◌, inl, inr, ◌≢◌}
use native.Mathlib.Omega.{arith}
use lib.ListN.{length, length-append}
use borrow.Author.Tests.{eq-eqb, ne_eqb}
use Rattle.lines.specs.Line.{Line, Yard, Order, Hear, Beacon, Roll, Refused}
use Rattle.lines.specs.Lines.{line_at, number_of, next_of, judged}
use Rattle.yard.specs.Worlds.{World}
use Rattle.meaning.specs.Script.{world_after, refused_lines, script_start, step_lines, script_world, script_text, printout}
use Rattle.meaning.specs.Texts.{posts_text}
use Rattle.laws.proofs.TestLaws.{same_or_not}
use Rattle.agreement.specs.Demand3 as demand
use Rattle.written.proofs.WholeScripts.{judged_passed}
use Rattle.fits.specs.Fits.{output_bytes, Fits}
use Rattle.fits.proofs.TextLengths.{bad_length_lem}
use Rattle.fits.proofs.LineLengths.{accepted, reaches}
use Rattle.fits.proofs.FirstLine.{yard_accepted, yard_made_lem, accepted_first}
use Rattle.fits.proofs.Ends.{all_fits}

module _ (s air : List ℕ) where
  -- a refused script
  bad_fits : (judged s).number ≢ 0 → length (printout s air) ≤ output_bytes
  unfolding printout
  bad_fits n = rw (ne_eqb (judged s).number 0 n) (omega (arith, bad_length_lem (judged s).line (judged s).number))

  -- ---- a script that is not refused

  module _ (z : (judged s).number ≡ 0) where
    -- the refused lines and the posts' lines fit
    Fitting : World → Type 0
    Fitting w = length (refused_lines w 1 (step_lines s)) + length (posts_text (world_after w (step_lines s)).yard 8) ≤ output_bytes

    -- its first line makes a yard
    from_yard : (posts sources dests next : ℕ) → line_at s 0 ≡ Yard posts sources dests next → Fitting (script_start s air)
    unfolding Fitting
    from_yard posts sources dests next e =
        let r = (accepted s 0 (Yard posts sources dests next) e refl).0 in
        let made : script_start s air ≡ demand.fresh_world posts sources dests air =
        rw (e, yard_made_lem posts sources dests r.1 r.5 r.6) refl in
        rw made
        (all_fits s (judged_passed s z).0 (next_of s (line_at s 0)) (reaches s 0 (judged_passed s z).1).inside
        posts sources dests air r.2 r.3 r.4 (yard_accepted posts sources dests r.1 r.5 r.6))

    -- no other line can be the first
    from_line : (l : Line) → line_at s 0 ≡ l → number_of l ≡ 0 → Fitting (script_start s air)
    from_line (Yard posts sources dests next) e y = from_yard posts sources dests next e
    from_line (Order lane word next) e y = absurd (omega (arith, (accepted s 0 (Order lane word next) e y).0.0))
    from_line (Hear lane frame next) e y = absurd (omega (arith, (accepted s 0 (Hear lane frame next) e y).0.0))
    from_line (Beacon lane next) e y = absurd (omega (arith, (accepted s 0 (Beacon lane next) e y).0.0))
    from_line (Roll next) e y = absurd (omega (arith, (accepted s 0 (Roll next) e y).0))
    from_line (Refused number) e y = absurd (accepted s 0 (Refused number) e y).0

    -- so the printout fits
    script_fits : length (printout s air) ≤ output_bytes
    unfolding printout script_text script_world Fitting
    script_fits = rw (eq-eqb (judged s).number 0 z, length-append) (from_line (line_at s 0) refl (accepted_first s z))

-- the theorem
pub fits : Fits
fits s air = go (same_or_not (judged s).number 0)
  where
    go : ((judged s).number ≡ 0) ⊎ ((judged s).number ≢ 0) → length (printout s air) ≤ output_bytes
    go (inl z) = script_fits s air z
    go (inr n) = bad_fits s air n
