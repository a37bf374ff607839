use native.Mathlib.Omega.{arith}
use Rattle.lines.specs.Lines.{beacon_line}
use Rattle.reader.proofs.Refused.{line_refused, line_passed}
use Rattle.reader.proofs.LinesLaws.{step_small}
use Rattle.reader.proofs.line_forms.read_beacon_line.Goals as goal

pub returns-in_err-check_step : goal.returns-in_err-check_step
unfolding beacon_line
returns-in_err-check_step c =
    rw (← c.read_beacon-c.ensures) (line_refused c.read_beacon-c.result.ok _ _ _ _ c.from_residual.ensures.1 c.in_err-check_step.ensures)

pub overflow_cast-result : goal.overflow_cast-result
overflow_cast-result c = omega (arith, step_small c.read_beacon-c.result.ok _ _ _ c.in_ok-check_step.ensures)

pub returns : goal.returns
unfolding beacon_line
returns c = rw (← c.read_beacon-c.ensures) (line_passed c.read_beacon-c.result.ok _ _ c.in_ok-check_step.ensures)
