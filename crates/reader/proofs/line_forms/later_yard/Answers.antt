use Rattle.lines.specs.Lines.{yard_or}
use Rattle.reader.proofs.LinesLaws.{yard_late}
use Rattle.reader.proofs.line_forms.later_yard.Goals as goal

pub returns-then-read_yard : goal.returns-then-read_yard
unfolding yard_or
returns-then-read_yard c = rw (← c.read_yard.ensures, c.if-read_yard.true) (yard_late _ _ c.requires)

pub returns-else-read_yard : goal.returns-else-read_yard
unfolding yard_or
returns-else-read_yard c = rw (← c.read_yard.ensures, c.if-read_yard.false)
