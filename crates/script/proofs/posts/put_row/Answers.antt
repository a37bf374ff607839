use mathlib.Core.Bool.{not}
use mathlib.Core.Path.{refl, ap}
use Rattle.script.proofs.PrintLaws.{row_none, row_printed}
use Rattle.row.specs.Rows.{post_in}
use Rattle.state.specs.States.{row_of}
use Rattle.state.proofs.StateLaws.{lent_is}
use Rattle.script.proofs.posts.put_row.Goals as goal

pub returns-then-not-has : goal.returns-then-not-has
returns-then-not-has c = (refl, row_none _ c.args.present c.args.lane (post_in (row_of c.args.state.now c.args.lane)) _ c.has.ensures (ap not c.if-not-has.true))

pub returns : goal.returns
returns c = (c.put_post.ensures.0, row_printed _ _ c.args.present c.args.lane (post_in (row_of c.args.state.now c.args.lane)) _ c.has.ensures (ap not c.if-not-has.false) (rw (lent_is c.args.state.now c.args.lane) at c.put_post.ensures.1))
