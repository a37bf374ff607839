use borrow.Author.Tests.{lt-ltb, le-ltb, eq-eqb, ne_eqb}
use Rattle.lines.specs.Lines.{step_line_refusal}
use Rattle.reader.proofs.line_forms.check_step.Goals as goal

pub returns-then-at-eq0 : goal.returns-then-at-eq0
unfolding step_line_refusal
returns-then-at-eq0 c = rw (c.if-not-of_form.false, eq-eqb _ 0 c.if-at-eq0.true)

pub returns-then-lane-gt-LAST_LANE : goal.returns-then-lane-gt-LAST_LANE
unfolding step_line_refusal
returns-then-lane-gt-LAST_LANE c =
    rw (c.if-not-of_form.false, ne_eqb _ 0 c.if-at-eq0.false, lt-ltb 7 _ c.if-lane-gt-LAST_LANE.true)

pub returns-then-word-gt65535 : goal.returns-then-word-gt65535
unfolding step_line_refusal
returns-then-word-gt65535 c =
    rw (c.if-not-of_form.false, ne_eqb _ 0 c.if-at-eq0.false, le-ltb 7 _ c.if-lane-gt-LAST_LANE.false, lt-ltb 65535 _ c.if-word-gt65535.true)

pub returns : goal.returns
unfolding step_line_refusal
returns c =
    rw (c.if-not-of_form.false, ne_eqb _ 0 c.if-at-eq0.false, le-ltb 7 _ c.if-lane-gt-LAST_LANE.false, le-ltb 65535 _ c.if-word-gt65535.false)
