use mathlib.Core.Path.{◌∙◌}
use native.Mathlib.Omega.{arith}
use Rattle.lines.proofs.Laws.{next_whatever}
use Rattle.reader.proofs.LinesLaws.{line_above, judging_start, judging_next, judging_refused, judging_end, not_refused}
use Rattle.reader.proofs.judge_lines.Goals as goal

pub loop-at-init : goal.loop-at-init
loop-at-init c = (omega arith, judging_start _)

pub loop-at-smaller : goal.loop-at-smaller
loop-at-smaller c =
    let t = c.loop-at-test.true in
    omega (arith, line_above _ _ _ _ t c.read_line-l.ensures.value (c.next_of-at.ensures ∙ next_whatever _ c.read_line-l.result))

pub loop-at-preserved : goal.loop-at-preserved
loop-at-preserved c =
    let t = c.loop-at-test.true in
    let r = c.read_line-l.ensures.value in
    let n = c.next_of-at.ensures ∙ next_whatever _ c.read_line-l.result in
    let i = c.loop-at.invariant in
    (omega (arith, line_above _ _ _ _ t r n), judging_next _ _ _ _ _ i.1 t r (not_refused _ _ c.in_default.is) n)

pub returns-in-Err : goal.returns-in-Err
returns-in-Err c = judging_refused _ _ _ _ c.loop-at.invariant.1 c.loop-at-test.true c.in-Err.ensures.value

pub returns : goal.returns
returns c = judging_end _ _ _ c.loop-at.invariant.1 c.loop-at-test.false
