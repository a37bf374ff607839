-- Every script of the joint table, by computing the definitions. Assumes nothing.
use mathlib.Core.Path.{refl}
use lib.Count.{ones}
use Rattle.frame.specs.Lanes.{any_below}
use Rattle.frame.specs.Layout.{frame_of, bytes_of}
use Rattle.frame.specs.Refusals.{bad_entries, frame_refusal, read_refusal}
use Rattle.air.specs.Air.{place_refusal, placed, frames_with}
use Rattle.cells.specs.Tables.{entry_place, stamp_under, with_stamp, order_place}
use Rattle.post.specs.Newest.{raised, raised_below, newer, newest_below, newest_entries}
use Rattle.post.specs.Taking.{kept, ticked, own_taken, raised_post, taken}
use Rattle.deliver.specs.Delivery.{all_below, is_logged, is_due, due_below, comes_before, insert_by, sort_by, due_places, due_log, delivered}
use Rattle.judge.specs.Judgement.{bad_orders, bad_log, bad_record}
use Rattle.steps.specs.Refusals.{order_refusal, strange_entries, hear_refusal}
use Rattle.steps.specs.Steps.{order_sent, order_step, hear_taken, hear_other, hear_step, beacon_step}
use Rattle.state.specs.Yards.{fresh_yard, yard_refusal, yard_made}
use Rattle.yard.specs.Singles.{frames_after, post_orders, post_orders_air, first_after, yard_orders, yard_orders_air, post_hears, post_hears_air, yard_hears, yard_hears_air, post_beacons, post_beacons_air, yard_beacons, yard_beacons_air}
use Rattle.yard.specs.Worlds.{single, singles}
use Rattle.roll.specs.RollCall.{lane_hears, lanes_hears, posts_hear, beacons_sent, sources_below, beacons_heard, posts_hear_beacons, roll_steps, source_spent, roll_refusal, roll_call, roll_call_air}
use Rattle.roll.specs.Runs.{answer, step, run}
use Rattle.text.specs.Decimal.{decimal}
use Rattle.scan.specs.Scan.{all_below as all_bytes, stands, digit_at, read_text, first_digit, next_digit, read_number}
use Rattle.lines.specs.Forms.{or_role, read_role, read_post, post_added, posts_read, read_yard}
use Rattle.lines.specs.Lines.{yard_line_refusal, yard_line, step_line_refusal, order_line, hear_line, beacon_line, roll_line, yard_or, roll_or, beacon_or, hear_or, line_at, lines_from, judged_lines, judged}
use Rattle.meaning.specs.Texts.{refused_text, item_text, items_text, post_text, posts_text}
use Rattle.meaning.specs.Script.{world_after, refused_lines, script_world, script_text, printout, air_after}
use Rattle.script_table.specs.ScriptCases.{ScriptBench, MoreScriptBench}

pub script_bench : ScriptBench
unfolding any_below frame_of bytes_of bad_entries frame_refusal read_refusal place_refusal placed frames_with entry_place stamp_under with_stamp order_place raised raised_below newer newest_below newest_entries kept ticked own_taken raised_post taken all_below is_logged is_due due_below comes_before insert_by sort_by due_places due_log delivered bad_orders bad_log bad_record order_refusal strange_entries hear_refusal order_sent order_step hear_taken hear_other hear_step beacon_step fresh_yard yard_refusal yard_made frames_after post_orders post_orders_air first_after yard_orders yard_orders_air post_hears post_hears_air yard_hears yard_hears_air post_beacons post_beacons_air yard_beacons yard_beacons_air single singles lane_hears lanes_hears posts_hear beacons_sent sources_below beacons_heard posts_hear_beacons roll_steps source_spent roll_refusal roll_call roll_call_air answer step run ones decimal all_bytes stands digit_at read_text first_digit next_digit read_number or_role read_role read_post post_added posts_read read_yard yard_line_refusal yard_line step_line_refusal order_line hear_line beacon_line roll_line yard_or roll_or beacon_or hear_or line_at lines_from judged_lines judged refused_text item_text items_text post_text posts_text world_after refused_lines script_world script_text printout air_after
script_bench = record {
  P1 = refl;
  P2 = refl;
  P3-empty = refl;
  P3-only = refl;
  P4 = refl;
  P5 = refl;
  P5-roll = refl;
  P6 = refl;
  P7-once = refl;
  P7-twice = refl;
  P8-early = refl;
  P8-taken = refl;
}

pub more_script_bench : MoreScriptBench
unfolding any_below frame_of bytes_of bad_entries frame_refusal read_refusal place_refusal placed frames_with entry_place stamp_under with_stamp order_place raised raised_below newer newest_below newest_entries kept ticked own_taken raised_post taken all_below is_logged is_due due_below comes_before insert_by sort_by due_places due_log delivered bad_orders bad_log bad_record order_refusal strange_entries hear_refusal order_sent order_step hear_taken hear_other hear_step beacon_step fresh_yard yard_refusal yard_made frames_after post_orders post_orders_air first_after yard_orders yard_orders_air post_hears post_hears_air yard_hears yard_hears_air post_beacons post_beacons_air yard_beacons yard_beacons_air single roll_refusal roll_call roll_call_air answer step run ones decimal all_bytes stands digit_at read_text first_digit next_digit read_number or_role read_role read_post post_added posts_read read_yard yard_line_refusal yard_line step_line_refusal order_line hear_line beacon_line roll_line yard_or roll_or beacon_or hear_or line_at lines_from judged_lines judged refused_text item_text items_text post_text posts_text world_after refused_lines script_world script_text printout
more_script_bench = record {
  order_16 = refl;
  order_17 = refl;
  lost = refl;
  beacon = refl;
  beacon_heard = refl;
  refused = refl;
  short_air = refl;
  long_air = refl;
  no_air = refl;
  yard_alone = refl;
  yard_of_eight = refl;
  largest = refl;
}
