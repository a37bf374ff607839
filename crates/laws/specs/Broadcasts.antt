-- What is promised of a broadcast and of the entries in it: document 01, "Newest entries" and "Frames and the air". Assumes nothing.
use Rattle.std.specs.Prelude.{◌≡◌, List, ℕ, ◌<◌, ◌≤◌}
use Rattle.frame.specs.Layout.{no_entry}
use Rattle.frame.specs.Types.{Typed}
use Rattle.frame.specs.Refusals.{frame_refusal}
use Rattle.frame.specs.declared.Entry.{Entry}
use Rattle.frame.specs.declared.Frame.{Frame}
use Rattle.cells.specs.Tables.{stamp_under}

-- e is the newest entry of a lane, of the serials below n: "the (serial, stamp) with the highest stamp in the table, of equals the higher serial;
-- none if the lane has none"
pub record IsNewest (table : List ℕ) (lane n : ℕ) (e : Entry) : Type 0 where
  -- "the highest stamp in the table"
  pub highest : (serial : ℕ) → serial < n → stamp_under table lane serial ≤ e.stamp.0
  -- "of equals the higher serial"
  pub last : (serial : ℕ) → serial < n → 0 < stamp_under table lane serial → stamp_under table lane serial ≡ e.stamp.0 → serial ≤ e.serial.0
  -- it stands in the table
  pub found : 0 < e.stamp.0 → (e.serial.0 < n) × (stamp_under table lane e.serial.0 ≡ e.stamp.0)
  -- "none if the lane has none"
  pub none : e.stamp.0 ≡ 0 → e ≡ no_entry

-- f is a frame of its type that 7 to 11 do not turn down: it can be written, and the reader accepts it
pub record Sendable (f : Frame) : Type 0 where
  pub good : frame_refusal f ≡ 0
  pub fits : Typed f
