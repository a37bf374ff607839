use native.Mathlib.Omega.{arith}
use borrow.Author.Tests.{lt-ltb, le-ltb}
use Rattle.row.specs.Rows.{put_in}
use Rattle.row.proofs.put_in.Goals as goal

pub returns-then-i-n : goal.returns-then-i-n
unfolding put_in
returns-then-i-n c = rw (lt-ltb c.args.i c.args.n (omega arith)) c.put.ensures

pub returns-else-i-n : goal.returns-else-i-n
unfolding put_in
returns-else-i-n c = rw (le-ltb c.args.i c.args.n (omega arith))
