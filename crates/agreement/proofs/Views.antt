-- The yard of document 01 read as the model's yard: arrays as functions, bytes as frames. A proof device; nobody has to believe it. Assumes nothing.
use mathlib.Core.Bool.{true, cond, not}
use mathlib.Core.List.{List}
use Prim.Native.Nat.{ℕ}
use lib.Dec.{ltb}
use lib.ListN.{get_or}
use Rattle.frame.specs.declared.Frame as frames
use Rattle.frame.specs.Layout.{entry_of}
use Rattle.cells.specs.Sets.{has_lane}
use Rattle.cells.specs.Tables.{stamp_under, order_place}
use Rattle.post.specs.declared.Post as posts
use Rattle.post.specs.Record.{last_of}
use Rattle.steps.specs.Refusals.{is_order}
use Rattle.state.specs.Yards.{post_at, beacons_at}
use Rattle.yard.specs.Singles.{frame_at}
use Rattle.yard.specs.Worlds.{World}
use Rattle.roll.specs.Logs.{orders_logged}
use Rattle.model.proofs.Model.{Post, Frame, Roles, Yard, no_order_lem}

-- the roles by three sets of lanes
abbrev pub roles_of : ℕ → ℕ → ℕ → Roles
roles_of present sources dests = record { source = has_lane sources; dest = has_lane dests; present = has_lane present }

-- the number kept at order (i, n)
abbrev pub places_view : List ℕ → ℕ → ℕ → ℕ
places_view numbers i n = get_or numbers (order_place i n) 0

abbrev pub post_view : posts.Post → Post
post_view p = record {
  clock = p.clock.0;
  own = p.serial.0;
  last = λ i. last_of p i;
  table = stamp_under p.table;
  stamps = places_view p.stamps;
  words = places_view p.words;
  log = orders_logged p;
}

abbrev pub frame_view : frames.Frame → Frame
frame_view f = record {
  beacon = not (is_order f);
  sender = f.sender;
  carried = record { lane = f.lane; serial = f.serial.0; stamp = f.stamp.0; word = f.word };
  entry_serial = λ i. (entry_of f i).serial.0;
  entry_stamp = λ i. (entry_of f i).stamp.0;
}

-- what stands past the last frame
abbrev pub no_frame_yet : Frame
no_frame_yet = record { beacon = true; sender = 0; carried = no_order_lem; entry_serial = λ i. 0; entry_stamp = λ i. 0 }

unfoldable pub air_view : List ℕ → ℕ → ℕ → Frame
air_view air frames k = cond (ltb k frames) (frame_view (frame_at air k)) no_frame_yet

abbrev pub yard_view : World → Yard
yard_view w = record {
  posts = λ i. post_view (post_at w.yard i);
  air = air_view w.air w.yard.frames;
  frames = w.yard.frames;
  beacons = beacons_at w.yard;
  first = places_view w.yard.first;
}
