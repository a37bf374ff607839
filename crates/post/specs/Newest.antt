-- Newest entries, and the frames that carry them: document 01, "Newest entries", "Hear" part 1, "Beacon". Assumes nothing.
use Rattle.std.specs.Prelude.{ℕ, zero, suc, max, cond, ◌&&◌, List, map, ltb, leb, get_or}
use Rattle.frame.specs.Lanes.{lanes}
use Rattle.frame.specs.Layout.{no_entry}
use Rattle.frame.specs.declared.Entry.{Entry}
use Rattle.frame.specs.declared.Frame.{Frame}
use Rattle.cells.specs.Tables.{stamp_under, with_stamp}
use Rattle.post.specs.declared.Post.{Post}

-- "Each entry (lane i, serial, stamp) of the frame raises p's table at (i, serial) to the larger stamp."
unfoldable pub raised : List ℕ → ℕ → Entry → List ℕ
raised table i e = with_stamp table i e.serial.0 (max (stamp_under table i e.serial.0) e.stamp.0)

-- the entries of the lanes below n
unfoldable pub raised_below : List ℕ → List Entry → ℕ → List ℕ
raised_below table entries zero = table
raised_below table entries (suc i) = raised (raised_below table entries i) i (get_or entries i no_entry)

-- "the (serial, stamp) with the highest stamp in the table, of equals the higher serial": of what was newest below this serial, and of this
unfoldable pub newer : List ℕ → ℕ → ℕ → Entry → Entry
newer table lane serial best =
    let stamp = stamp_under table lane serial in
    cond (ltb 0 stamp && leb best.stamp.0 stamp) (record { serial = record { 0 = serial }; stamp = record { 0 = stamp } }) best

-- the newest entry of a lane, of the serials below n; "none if the lane has none"
unfoldable pub newest_below : List ℕ → ℕ → ℕ → Entry
newest_below table lane zero = no_entry
newest_below table lane (suc serial) = newer table lane serial (newest_below table lane serial)

-- of the serials 0 to 16
abbrev pub newest : List ℕ → ℕ → Entry
newest table lane = newest_below table lane 17

-- "for each lane"
unfoldable pub newest_entries : List ℕ → List Entry
newest_entries table = map (newest table) lanes

-- an order broadcast by p, "under its own lane as sender"
abbrev pub order_frame : Post → ℕ → ℕ → ℕ → ℕ → Frame
order_frame p lane serial stamp word = record {
  kind = 1;
  sender = p.lane;
  lane = lane;
  serial = record { 0 = serial };
  stamp = record { 0 = stamp };
  word = word;
  entries = newest_entries p.table;
}

-- "A beacon has bytes 2–7 zero."
abbrev pub beacon_frame : Post → Frame
beacon_frame p = record {
  kind = 2;
  sender = p.lane;
  lane = 0;
  serial = record { 0 = 0 };
  stamp = record { 0 = 0 };
  word = 0;
  entries = newest_entries p.table;
}
