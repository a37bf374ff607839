use borrow.Author.Tests.{lt-ltb, le-ltb}
use Rattle.lines.specs.Lines.{judged}
use Rattle.reader.proofs.judge.Goals as goal

pub returns-then-s-gt-LONGEST : goal.returns-then-s-gt-LONGEST
unfolding judged
returns-then-s-gt-LONGEST c = rw (lt-ltb _ _ c.if-s-gt-LONGEST.true)

pub returns-then-is_empty : goal.returns-then-is_empty
unfolding judged
returns-then-is_empty c = rw (le-ltb _ _ c.if-s-gt-LONGEST.false, ← c.if-is_empty.ensures)

pub returns : goal.returns
unfolding judged
returns c = rw (le-ltb _ _ c.if-s-gt-LONGEST.false, ← c.if-is_empty.ensures) c.judge_lines.ensures
