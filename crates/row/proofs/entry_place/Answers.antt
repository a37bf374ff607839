use borrow.Author.Tests.{le-leb, lt-leb}
use Rattle.cells.specs.Tables.{entry_place}
use Rattle.row.proofs.entry_place.Goals as goal

pub returns-then-serial-gt-LAST_SERIAL : goal.returns-then-serial-gt-LAST_SERIAL
unfolding entry_place
returns-then-serial-gt-LAST_SERIAL c = rw (lt-leb _ 16 c.if-serial-gt-LAST_SERIAL.true)

pub returns : goal.returns
unfolding entry_place
returns c = rw (le-leb _ 16 c.if-serial-gt-LAST_SERIAL.false)
