use mathlib.Core.Path.{sym, ◌∙◌}
use native.Mathlib.Omega.{arith}
use Rattle.row.proofs.Laws.{part_get, part_out}
use Rattle.row.proofs.get_in.Goals as goal

pub returns-then-i-n : goal.returns-then-i-n
returns-then-i-n c = c.get.ensures ∙ sym (part_get c.args.row.now c.args.first c.args.n c.args.i (omega arith))

pub returns-else-i-n : goal.returns-else-i-n
returns-else-i-n c = sym (part_out c.args.row.now c.args.first c.args.n c.args.i (omega arith))
