use Rattle.std.proofs.lemmas.Bool.{not-true, not-false}
use Rattle.lines.specs.Lines.{yard_or}
use Rattle.reader.proofs.LinesLaws.{yard_yes, yard_no}
use Rattle.reader.proofs.line_forms.first_yard.Goals as goal

pub returns-then-not-y : goal.returns-then-not-y
unfolding yard_or
returns-then-not-y c = rw (← c.read_yard-y.ensures, not-true _ c.if-not-y.true)

pub returns-then-not-y-2 : goal.returns-then-not-y-2
unfolding yard_or
returns-then-not-y-2 c = rw (← c.read_yard-y.ensures, not-false _ c.if-not-y.false) (yard_no _ c.then-not-y-2.either)

pub returns : goal.returns
unfolding yard_or
returns c = rw (← c.read_yard-y.ensures, not-false _ c.if-not-y.false) (yard_yes _ c.if-not-y-2.false c.if-y-eq0.false)
