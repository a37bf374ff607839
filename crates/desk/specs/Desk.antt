-- THE DESK GETS WHAT THE POST LOGGED, the statement: demand 3 carried to the bytes that the charging desk loads; document 02, K1.
-- Assumes nothing.
use Rattle.std.specs.Prelude.{ℕ, ◌<◌, ◌≤◌, ◌≡◌, ◌⊎◌, List, map, ◌++◌, length}
use Rattle.laws.specs.Lists.{Begins}
use Rattle.state.specs.Yards.{yard_refusal}
use Rattle.yard.specs.Worlds.{World}
use Rattle.roll.specs.Runs.{Step, run, Order}
use Rattle.roll.specs.Logs.{log_at}
use Rattle.agreement.specs.Demand3.{fresh_world}
use Rattle.csv_log.specs.declared.LogItem.{LogItem}
use Rattle.csv_log.specs.Log.{log_item, item_numbers}
use Rattle.csv_log.specs.Text.{records_text, log_text}
use Rattle.csv_log.specs.Writing.{csv_write_refusal}
use Rattle.files.specs.Exactly.{FileSays}

-- "A log here is its list of stamp, lane and word"
abbrev pub item_of : Order → LogItem
item_of o = log_item o.stamp o.lane o.word

-- the log of a lane as the desk has it, and its file
abbrev pub desk_log : World → ℕ → List LogItem
desk_log w lane = map item_of (log_at w lane)

abbrev pub desk_file : World → ℕ → List ℕ
desk_file w lane = log_text (desk_log w lane)

-- of a fresh world w, after every list of steps and of every lane
pub record DeskGets (w : World) : Type 0 where
  -- the log is written, never refused, into a buffer of 2,048 bytes
  pub written : (steps : List Step) (lane : ℕ) (buffer : List ℕ) → length buffer ≡ 2048
      → csv_write_refusal (item_numbers (desk_log (run w steps) lane)) buffer ≡ 0
  -- its file has at most 1,937 bytes
  pub short : (steps : List Step) (lane : ℕ) → length (desk_file (run w steps) lane) ≤ 1937
  -- and reads back as that log
  pub reads : (steps : List Step) (lane : ℕ) → FileSays (desk_file (run w steps) lane) (desk_log (run w steps) lane)
  -- of two files in one run, of one post or two, at one moment or two, one begins the other
  pub agree : (steps more : List Step) (a b : ℕ)
      → Begins (desk_file (run w steps) a) (desk_file (run w (steps ++ more)) b) ⊎ Begins (desk_file (run w (steps ++ more)) b) (desk_file (run w steps) a)
  -- and so do their records, without the header that all files begin with
  pub records : (steps more : List Step) (a b : ℕ)
      → Begins (records_text (desk_log (run w steps) a)) (records_text (desk_log (run w (steps ++ more)) b))
      ⊎ Begins (records_text (desk_log (run w (steps ++ more)) b)) (records_text (desk_log (run w steps) a))

-- for every fresh yard that is not refused, its sets being of eight bits, and every air, of any bytes and any length
abbrev pub Desk : Type 0
Desk = (present sources dests : ℕ) (air : List ℕ) → present < 256 → sources < 256 → dests < 256 → yard_refusal present sources dests ≡ 0
    → DeskGets (fresh_world present sources dests air)
