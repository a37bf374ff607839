use Rattle.commands.specs.Csv.{log_item_text}
use Rattle.csv_log.proofs.HandedLaws.{putting_next, putting_end}
use Rattle.commands.proofs.said.put_threes.Goals as goal

pub loop-left-preserved : goal.loop-left-preserved
loop-left-preserved c = (cc, putting_next log_item_text _ _ _ _ _ c.in-len3-up.len_at_least c.loop-left.invariant.1 c.put_three.ensures.1)

pub returns : goal.returns
returns c = (c.loop-left.invariant.0, putting_end log_item_text _ _ _ _ c.loop-left.invariant.1 c.in_default.len_below)
