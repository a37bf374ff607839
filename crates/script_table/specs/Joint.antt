-- The yard bench of document 01, "proved, in one joint table": frames and posts run singly, the yard, its refusals, scripts;
-- and the cases of document 02, K1 and K2. Assumes nothing.
use Rattle.table.specs.Cases.{Bench}
use Rattle.table.specs.YardCases.{YardBench}
use Rattle.table.specs.RefusalCases.{RefusalBench}
use Rattle.csv_table.specs.CsvWriteCases.{CsvWriteBench}
use Rattle.csv_table.specs.CsvReadCases.{CsvReadBench}
use Rattle.script_table.specs.ScriptCases.{ScriptBench, MoreScriptBench}
use Rattle.script_table.specs.BadScriptCases.{BadScriptBench}

pub record Joint : Type 0 where
  pub posts : Bench
  pub yard : YardBench
  pub refusals : RefusalBench
  pub scripts : ScriptBench
  pub more_scripts : MoreScriptBench
  pub bad_scripts : BadScriptBench
  pub csv_writing : CsvWriteBench
  pub csv_reading : CsvReadBench
