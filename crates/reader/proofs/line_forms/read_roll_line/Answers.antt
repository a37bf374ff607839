use Rattle.lines.specs.Lines.{roll_line}
use Rattle.reader.proofs.Refused.{line_refused, line_passed}
use Rattle.reader.proofs.line_forms.read_roll_line.Goals as goal

pub returns-in_err-check_step : goal.returns-in_err-check_step
unfolding roll_line
returns-in_err-check_step c =
    rw (← c.read_roll-c.ensures) (line_refused c.read_roll-c.result.ok _ _ _ _ c.from_residual.ensures.1 c.in_err-check_step.ensures)

pub returns : goal.returns
unfolding roll_line
returns c = rw (← c.read_roll-c.ensures) (line_passed c.read_roll-c.result.ok _ _ c.in_ok-check_step.ensures)
