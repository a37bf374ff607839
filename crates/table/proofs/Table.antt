-- Every case of the joint table, by computing the definitions. Assumes nothing.
use mathlib.Core.Path.{refl}
use Rattle.frame.specs.Lanes.{any_below}
use Rattle.frame.specs.Layout.{frame_of, bytes_of}
use Rattle.frame.specs.Refusals.{bad_entries, frame_refusal, read_refusal}
use Rattle.frame.specs.ReadWrite.{write_refusal, read_of, written}
use Rattle.cells.specs.Tables.{entry_place, stamp_under, with_stamp, order_place}
use Rattle.post.specs.Newest.{raised, raised_below, newer, newest_below, newest_entries}
use Rattle.post.specs.Taking.{kept, ticked, own_taken, raised_post, taken}
use Rattle.deliver.specs.Delivery.{all_below, is_logged, is_due, due_below, comes_before, insert_by, sort_by, due_places, due_log, delivered}
use Rattle.judge.specs.Judgement.{bad_orders, bad_log, bad_record}
use Rattle.steps.specs.Refusals.{order_refusal, strange_entries, hear_refusal}
use Rattle.steps.specs.Steps.{order_sent, hear_taken, hear_other, hear_step}
use Rattle.single.specs.Single.{order_refusal_singly, order_singly, order_buffer, hear_refusal_singly, hear_singly, hear_buffer}
use Rattle.table.specs.Posts.{orders_sent}
use Rattle.table.specs.Cases.{Bench}

pub bench : Bench
unfolding any_below frame_of bytes_of bad_entries frame_refusal read_refusal write_refusal read_of written entry_place stamp_under with_stamp order_place raised raised_below newer newest_below newest_entries kept ticked own_taken raised_post taken all_below is_logged is_due due_below comes_before insert_by sort_by due_places due_log delivered bad_orders bad_log bad_record order_refusal strange_entries hear_refusal order_sent hear_taken hear_other hear_step order_refusal_singly order_singly order_buffer hear_refusal_singly hear_singly hear_buffer orders_sent
bench = record {
  P2-written = refl;
  P2-read = refl;
  P9-passes = refl;
  P9-refused = refl;
  serial_17_refused = refl;
  serial_17_unheard = refl;
  serial_17_waits = refl;
  bytes_31 = refl;
  bytes_33 = refl;
  buffer_31 = refl;
  buffer_33 = refl;
  P1-taken-at-1 = refl;
  P1-clock-1 = refl;
  P1-clock-0 = refl;
  P1-log-0 = refl;
  P1-log-1 = refl;
  P1-log-2 = refl;
  P2-broadcast = refl;
  P3-empty = refl;
  P3-only = refl;
  P5-order = refl;
  P7-again = refl;
  P7-clock-before = refl;
  P7-clock-after = refl;
  P7-buffer = refl;
  P8-early = refl;
  P8-taken = refl;
  order_16 = refl;
  order_17 = refl;
  clock_left = refl;
  clock_spent = refl;
  clock_spent_hearing = refl;
}
