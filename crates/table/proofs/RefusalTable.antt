-- Every refusal of the joint table, by computing the definitions; after many beacons by Beacons.antt. Assumes nothing.
use mathlib.Core.Path.{refl}
use Prim.Native.Nat.{ℕ}
use lib.ListN.{replicate, length-replicate}
use Rattle.frame.specs.Lanes.{any_below}
use Rattle.frame.specs.Layout.{frame_of, bytes_of}
use Rattle.frame.specs.Refusals.{bad_entries, frame_refusal, read_refusal}
use Rattle.air.specs.Air.{place_refusal, placed, frames_with}
use Rattle.cells.specs.Tables.{entry_place, stamp_under, with_stamp, order_place}
use Rattle.post.specs.Newest.{raised, raised_below, newer, newest_below, newest_entries}
use Rattle.post.specs.Taking.{kept, ticked, own_taken, raised_post, taken}
use Rattle.deliver.specs.Delivery.{all_below, is_logged, is_due, due_below, comes_before, insert_by, sort_by, due_places, due_log, delivered}
use Rattle.steps.specs.Refusals.{order_refusal, strange_entries, hear_refusal}
use Rattle.steps.specs.Steps.{order_sent, order_step, hear_taken, hear_step}
use Rattle.state.specs.Yards.{fresh_yard}
use Rattle.yard.specs.Singles.{frames_after, post_orders, post_orders_air, first_after, yard_orders, yard_orders_air, post_hears, post_hears_air, yard_hears, yard_hears_air, post_beacons, post_beacons_air, yard_beacons, yard_beacons_air}
use Rattle.yard.specs.Worlds.{single}
use Rattle.roll.specs.RollCall.{roll_refusal, roll_call, roll_call_air}
use Rattle.roll.specs.Runs.{answer, step, run}
use Rattle.table.specs.Scripts.{three, air_of, began, orders_sent_by0}
use Rattle.table.specs.RefusalCases.{RefusalBench}
use Rattle.table.proofs.BadInput.{order_lane, hear_lane, beacon_lane, order_word, order_short, order_long, hear_short, beacon_short, roll_short, order_nobody, hear_nobody}
use Rattle.table.proofs.Beacons.{beacon_128_passes, beacon_129_refused, lane_1_granted, roll_passes, roll_refused_lem, dest_spent, no_source_lem, roll_128_passes, roll_129_refused, beacon_refused_lem}

pub refusal_bench : RefusalBench
unfolding any_below frame_of bytes_of bad_entries frame_refusal read_refusal place_refusal placed frames_with entry_place stamp_under with_stamp order_place raised raised_below newer newest_below newest_entries kept ticked own_taken raised_post taken all_below is_logged is_due due_below comes_before insert_by sort_by due_places due_log delivered order_refusal strange_entries hear_refusal order_sent order_step hear_taken hear_step fresh_yard frames_after post_orders post_orders_air first_after yard_orders yard_orders_air post_hears post_hears_air yard_hears yard_hears_air post_beacons post_beacons_air yard_beacons yard_beacons_air single roll_refusal roll_call roll_call_air answer step run orders_sent_by0
refusal_bench = record {
  order_4 = order_lane (run three began) 1;
  hear_4 = hear_lane (run three began) 0;
  beacon_4 = beacon_lane (run three began);
  word_65535 = refl;
  order_5 = (refl, refl);
  order_13 = order_short (replicate 65535 0) (length-replicate {A = ℕ} 65535 0);
  order_13_long = order_long (replicate 65537 0) (length-replicate {A = ℕ} 65537 0);
  hear_13 = hear_short (replicate 65535 0) (length-replicate {A = ℕ} 65535 0);
  beacon_13 = beacon_short (replicate 65535 0) (length-replicate {A = ℕ} 65535 0);
  roll_13 = roll_short (replicate 65535 0) (length-replicate {A = ℕ} 65535 0);
  order_21 = (refl, refl);
  hear_21 = (refl, refl);
  beacon_21 = (refl, refl);
  order_22 = (refl, refl);
  order_16 = refl;
  order_23 = (refl, refl);
  hear_25 = (refl, refl);
  frame_0_heard = refl;
  hear_26 = (refl, refl);
  beacon_128 = beacon_128_passes;
  beacon_27 = beacon_129_refused;
  noisy_post = lane_1_granted 1;
  noisy_post_1024 = lane_1_granted 896;
  roll_1_left = roll_passes;
  roll_27 = roll_refused_lem;
  roll_dest_spent = dest_spent;
  roll_no_source = no_source_lem;
  roll_128 = roll_128_passes;
  roll_129 = roll_129_refused;
  beacon_after_rolls = beacon_refused_lem;
  order_4_wins = order_lane (air_of 65535) 65536;
  order_5_wins = order_word (replicate 65535 0);
  order_13_wins = order_nobody (replicate 65535 0) (length-replicate {A = ℕ} 65535 0);
  hear_13_wins = hear_nobody (replicate 65535 0) (length-replicate {A = ℕ} 65535 0);
  hear_21_wins = (refl, refl);
}
