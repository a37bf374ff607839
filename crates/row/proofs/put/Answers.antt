use native.Mathlib.Omega.{arith}
use lib.Seq.{set_out}
use mathlib.Core.Path.{sym}
use Rattle.row.proofs.put.Goals as goal

pub returns-else-i-row : goal.returns-else-i-row
returns-else-i-row c = sym (set_out c.args.row.now c.args.i c.args.v (omega arith))
