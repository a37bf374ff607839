use Rattle.lines.specs.Forms.{post_added}
use Rattle.reader.proofs.forms.post_added.Goals as goal

pub returns-then-y : goal.returns-then-y
unfolding post_added
returns-then-y c = rw (c.role_bit.ensures, c.role_bit-2.ensures, c.bit_of-bit.ensures, c.if-y.true)

pub returns-else-y : goal.returns-else-y
unfolding post_added
returns-else-y c = rw (c.role_bit.ensures, c.role_bit-2.ensures, c.bit_of-bit.ensures, c.if-y.false)
