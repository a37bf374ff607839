use Rattle.row.specs.declared.Numbers.{Numbers}
use mathlib.Core.Path.{◌∙◌, ap}
use native.Mathlib.Omega.{arith}
use Rattle.row.specs.Rows.{post_in}
use Rattle.newest.proofs.RowWays.{entries_whole}
use Rattle.steps.proofs.HearWays.{takes_frame}
use Rattle.steps.proofs.listening.take.Goals as goal

pub returns-clause-value : goal.returns-clause-value
returns-clause-value c = takes_frame (post_in c.args.row.now) (post_in c.keep_and_tick.new.row) c.args.f _ _ (ap (λ (h : Numbers). h.lane) c.read_numbers-sender.ensures) c.keep_and_tick.ensures.row_after (c.newest_entries.ensures ∙ entries_whole c.keep_and_tick.new.row (omega (arith, c.requires.0)))
