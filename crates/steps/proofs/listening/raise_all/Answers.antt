use native.Mathlib.Omega.{arith}
use mathlib.Core.Path.{refl}
use lib.ListN.{length-take, length-drop}
use Rattle.row.specs.Rows.{part, post_in}
use Rattle.steps.proofs.HearWays.{raised_row}
use Rattle.steps.proofs.listening.raise_all.Goals as goal

pub raise_table-requires : goal.raise_table-requires
raise_table-requires c = simp (length-take, length-drop) (omega (arith, c.requires))

pub returns : goal.returns
unfolding post_in part
returns c = let both = raised_row c.args.row.now _ c.raise_table.new.table _ c.requires c.raise_table.auto.table refl c.raise_table.ensures in record { row_after = both.0; known = both.1.0; past = both.1.1 }
