use mathlib.Core.Path.{ap}
use Rattle.row.specs.declared.Numbers.{Numbers}
use Rattle.row.specs.Rows.{post_in, part}
use Rattle.row.proofs.LogCut.{log_cut}
use Rattle.row.proofs.log_of.Goals as goal

pub returns : goal.returns
unfolding post_in part
returns c = rw (← ap (λ (h : Numbers). h.logged) c.read_numbers-logged.ensures) (log_cut c.args.row.now _ _ _ _ c.min.ensures c.min-2.ensures c.min-3.ensures)
