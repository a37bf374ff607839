use Rattle.csv_log.specs.Text.{record_text}
use Rattle.csv_log.proofs.HandedLaws.{putting_next, putting_end}
use Rattle.csv_log.proofs.writing.put_records.Goals as goal

pub loop-left-preserved : goal.loop-left-preserved
loop-left-preserved c = (cc, putting_next record_text _ _ _ _ _ c.in-len3-up.len_at_least c.loop-left.invariant.1 c.put_record.ensures.1)

pub returns : goal.returns
returns c = (c.loop-left.invariant.0, putting_end record_text _ _ _ _ c.loop-left.invariant.1 c.in_default.len_below)
