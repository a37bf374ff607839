-- Every case of the joint table in a yard, by computing the definitions. Assumes nothing.
use mathlib.Core.Path.{refl}
use Rattle.frame.specs.Lanes.{any_below}
use Rattle.frame.specs.Layout.{frame_of, bytes_of}
use Rattle.frame.specs.Refusals.{bad_entries, frame_refusal, read_refusal}
use Rattle.air.specs.Air.{place_refusal, placed, frames_with}
use Rattle.cells.specs.Tables.{entry_place, stamp_under, with_stamp, order_place}
use Rattle.post.specs.Newest.{raised, raised_below, newer, newest_below, newest_entries}
use Rattle.post.specs.Taking.{kept, ticked, own_taken, raised_post, taken}
use Rattle.deliver.specs.Delivery.{all_below, is_logged, is_due, due_below, comes_before, insert_by, sort_by, due_places, due_log, delivered}
use Rattle.steps.specs.Refusals.{order_refusal, strange_entries, hear_refusal}
use Rattle.steps.specs.Steps.{order_sent, order_step, hear_taken, hear_other, hear_step, beacon_step}
use Rattle.state.specs.Yards.{fresh_yard}
use Rattle.yard.specs.Singles.{frames_after, post_orders, post_orders_air, first_after, yard_orders, yard_orders_air, post_hears, post_hears_air, yard_hears, yard_hears_air, post_beacons, post_beacons_air, yard_beacons, yard_beacons_air}
use Rattle.yard.specs.Worlds.{single, singles}
use Rattle.roll.specs.RollCall.{lane_hears, lanes_hears, posts_hear, beacons_sent, sources_below, beacons_heard, posts_hear_beacons, roll_steps, source_spent, roll_refusal, roll_call, roll_call_air}
use Rattle.roll.specs.Runs.{answer, step, run, order_sent_by, sent_by, sent}
use Rattle.roll.specs.Logs.{in_order}
use Rattle.table.specs.Scripts.{answers}
use Rattle.table.specs.YardCases.{YardBench}

pub yard_bench : YardBench
unfolding any_below frame_of bytes_of bad_entries frame_refusal read_refusal place_refusal placed frames_with entry_place stamp_under with_stamp order_place raised raised_below newer newest_below newest_entries kept ticked own_taken raised_post taken all_below is_logged is_due due_below comes_before insert_by sort_by due_places due_log delivered order_refusal strange_entries hear_refusal order_sent order_step hear_taken hear_other hear_step beacon_step fresh_yard frames_after post_orders post_orders_air first_after yard_orders yard_orders_air post_hears post_hears_air yard_hears yard_hears_air post_beacons post_beacons_air yard_beacons yard_beacons_air single singles lane_hears lanes_hears posts_hear beacons_sent sources_below beacons_heard posts_hear_beacons roll_steps source_spent roll_refusal roll_call roll_call_air answer step run order_sent_by sent_by sent in_order answers
yard_bench = record {
  P1-answers = refl;
  P1-printout = refl;
  P2-frame-4 = refl;
  P2-frames = refl;
  P3-answers = refl;
  P3-empty = refl;
  P3-only = refl;
  P4-answer = refl;
  P4-steps = refl;
  P4-posts = refl;
  P4-sent = refl;
  P4-all = refl;
  P5-answers = refl;
  P5-logs = refl;
  P5-roll = refl;
  P6-answers = refl;
  P6-logs = refl;
  P7-answers = refl;
  P7-before = refl;
  P7-after = refl;
  P7-unchanged = refl;
  P8-answers = refl;
  P8-early = refl;
  P8-dropped = refl;
  P8-taken = refl;
  P8-last = refl;
}
