-- The joint table. Assumes nothing.
use Rattle.script_table.specs.Joint.{Joint}
use Rattle.table.proofs.Table.{bench}
use Rattle.table.proofs.YardTable.{yard_bench}
use Rattle.table.proofs.RefusalTable.{refusal_bench}
use Rattle.csv_table.proofs.CsvWriteTable.{csv_write_bench}
use Rattle.csv_table.proofs.CsvReadTable.{csv_read_bench}
use Rattle.script_table.proofs.ScriptTable.{script_bench, more_script_bench}
use Rattle.script_table.proofs.BadScriptTable.{bad_script_bench}

pub joint : Joint
joint = record {
  posts = bench;
  yard = yard_bench;
  refusals = refusal_bench;
  scripts = script_bench;
  more_scripts = more_script_bench;
  bad_scripts = bad_script_bench;
  csv_writing = csv_write_bench;
  csv_reading = csv_read_bench;
}
