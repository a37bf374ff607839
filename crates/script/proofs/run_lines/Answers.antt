use Rattle.script.proofs.LineLaws.{none_left, left_more, nothing_left}
use Rattle.lines.proofs.Laws.{next_whatever}
use Rattle.reader.proofs.LinesLaws.{line_above}
use mathlib.Core.Path.{◌∙◌, refl}
use native.Mathlib.Omega.{arith}
use Rattle.script.proofs.run_lines.Goals as goal

pub loop-at-init : goal.loop-at-init
loop-at-init c = (omega (arith, c.requires.1), nothing_left _ _ _ _ _ c.told-answer.ensures.value, refl, refl, refl)

pub overflow_add-line : goal.overflow_add-line
overflow_add-line c = record { fits = omega (arith, c.loop-at.invariant.0, c.loop-at-test.true, c.requires.0) }

pub loop-at-smaller : goal.loop-at-smaller
loop-at-smaller c = omega (arith, line_above _ _ _ _ c.loop-at-test.true c.read_line-l.ensures.value (c.next_of-at.ensures ∙ next_whatever _ c.read_line-l.result))

pub loop-at-preserved : goal.loop-at-preserved
loop-at-preserved c = (
  omega (arith, c.loop-at.invariant.0, line_above _ _ _ _ c.loop-at-test.true c.read_line-l.ensures.value (c.next_of-at.ensures ∙ next_whatever _ c.read_line-l.result)),
  left_more _ _ _ _ _ _ _ _ _ _ _ _ _ _ _ c.loop-at-test.true c.read_line-l.ensures.value c.run_step-answer.ensures.number c.run_step-answer.ensures.here c.run_step-answer.ensures.value c.put_refusal.ensures.1 (c.next_of-at.ensures ∙ next_whatever _ c.read_line-l.result) c.loop-at.invariant.1,
  c.run_step-answer.auto.state ∙ c.loop-at.invariant.2,
  c.run_step-answer.auto.air ∙ c.loop-at.invariant.3,
  c.put_refusal.ensures.0 ∙ c.loop-at.invariant.4,
)

pub shape_of-state : goal.shape_of-state
shape_of-state c = c.loop-at.invariant.2

pub shape_of-air : goal.shape_of-air
shape_of-air c = c.loop-at.invariant.3

pub returns : goal.returns
returns c = let both = none_left _ _ _ _ _ _ _ _ _ c.loop-at-test.false c.loop-at.invariant.1 in record { air_after = both.0; printed = (c.loop-at.invariant.4, both.1.0); answer = both.1.1 }
