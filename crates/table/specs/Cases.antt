-- The yard bench of document 01, of frames and posts run singly: inputs and what each case says, a part of the joint table
-- of the crate `script_table`. Assumes nothing.
use Rattle.std.specs.Prelude.{ℕ, ◌≡◌, List, [], ◌∷◌, ◌++◌, replicate, take, set}
use Rattle.frame.specs.Layout.{no_entry, frame_of}
use Rattle.frame.specs.Refusals.{read_refusal}
use Rattle.frame.specs.ReadWrite.{write_refusal, read_of, written}
use Rattle.frame.specs.declared.Entry.{Entry}
use Rattle.frame.specs.declared.Frame.{Frame}
use Rattle.cells.specs.Tables.{stamp_under}
use Rattle.post.specs.Record.{fresh_post}
use Rattle.steps.specs.Answers.{order_number, hear_number}
use Rattle.steps.specs.Steps.{hear_step}
use Rattle.steps.specs.HearAnswer.{Taken, Again, Early}
use Rattle.single.specs.Single.{order_singly}
use Rattle.table.specs.Posts.{fresh, blank, after, frame_of_order, hearing, frame_of_hearing, items, frame0, post1, frame1, frame2, post0, post2, serial17, orders_sent, clock_at}

-- P2: "01 00 01 01 00 03 00 5A 01 00 04 01 00 03, then eighteen 00"
abbrev pub frame4_bytes : List ℕ
frame4_bytes = 0x01 ∷ 0x00 ∷ 0x01 ∷ 0x01 ∷ 0x00 ∷ 0x03 ∷ 0x00 ∷ 0x5a ∷ 0x01 ∷ 0x00 ∷ 0x04 ∷ 0x01 ∷ 0x00 ∷ 0x03 ∷ replicate 18 0x00

abbrev pub entry : ℕ → ℕ → Entry
entry serial stamp = record { serial = record { 0 = serial }; stamp = record { 0 = stamp } }

-- order 1 of lane 1, stamp 3, word 90, broadcast by lane 0, which knows stamp 4 of lane 0 and stamp 3 of lane 1
abbrev pub frame4 : Frame
frame4 = record {
  kind = 1;
  sender = 0;
  lane = 1;
  serial = record { 0 = 1 };
  stamp = record { 0 = 3 };
  word = 90;
  entries = entry 1 4 ∷ entry 1 3 ∷ replicate 6 no_entry;
}

-- frame 4 with another entry of lane 7
abbrev pub lane7 : ℕ → ℕ → List ℕ
lane7 serial stamp = set (set frame4_bytes 29 serial) 31 stamp

pub record Bench : Type 0 where
  pub P2-written : written (replicate 32 0xff) frame4 ≡ frame4_bytes
  pub P2-read : read_of frame4_bytes ≡ record { refusal = 0; frame = frame4 }
  -- P9: "entry serial 0 stamp 1 passes; serial 1 stamp 0 gives 11"
  pub P9-passes : read_refusal (lane7 0 1) ≡ 0
  pub P9-refused : read_refusal (lane7 1 0) ≡ 11
  -- 11: "An entry with serial over 16". To hear it would raise no other lane's entry: lane 1 "never spoke", and order 417 waits
  pub serial_17_refused : read_refusal serial17 ≡ 11
  pub serial_17_unheard : stamp_under (hear_step post2 (frame_of serial17)).post.table 1 0 ≡ 0
  pub serial_17_waits : items (hear_step post2 (frame_of serial17)).post ≡ []
  -- "31 and 33 bytes: 6"
  pub bytes_31 : read_refusal (take 31 frame4_bytes) ≡ 6
  pub bytes_33 : read_refusal (frame4_bytes ++ (0 ∷ [])) ≡ 6
  pub buffer_31 : write_refusal (replicate 31 0) frame4 ≡ 6
  pub buffer_33 : write_refusal (replicate 33 0) frame4 ≡ 6
  -- P1's story as far as posts run singly tell it: "clock 4", "clock 3", and the three logs
  pub P1-taken-at-1 : (hearing (fresh 1) frame0).answer ≡ Taken 0
  pub P1-clock-1 : (after post1 90).clock.0 ≡ 3
  pub P1-clock-0 : (hearing post0 frame2).post.clock.0 ≡ 4
  pub P1-log-0 : items (hearing post0 frame2).post ≡ (1 ∷ 0 ∷ 417 ∷ []) ∷ (3 ∷ 1 ∷ 90 ∷ []) ∷ []
  pub P1-log-1 : items (after post1 90) ≡ []
  pub P1-log-2 : items (hearing (fresh 2) frame1).post ≡ (1 ∷ 0 ∷ 417 ∷ []) ∷ []
  -- P2 once more: frame 4 is what post 0 broadcasts when it hears frame 2
  pub P2-broadcast : frame_of_hearing post0 frame2 ≡ frame4_bytes
  -- P3: "then `(hear 2 2)`: log of 2 empty; then `(hear 2 0)`: (1 0 417) only"
  pub P3-empty : items (hearing (fresh 2) frame2).post ≡ []
  pub P3-only : items (hearing (hearing (fresh 2) frame2).post frame0).post ≡ (1 ∷ 0 ∷ 417 ∷ []) ∷ []
  -- P5, its order: "`(order 0 5)` logs (1 0 5)"
  pub P5-order : items (after (fresh_post 0 1 1 1) 5) ≡ (1 ∷ 0 ∷ 5 ∷ []) ∷ []
  -- P7: "a frame heard twice: again, clock unchanged"
  pub P7-again : (hearing post1 frame0).answer ≡ Again 0
  pub P7-clock-before : post1.clock.0 ≡ 2
  pub P7-clock-after : (hearing post1 frame0).post.clock.0 ≡ 2
  pub P7-buffer : frame_of_hearing post1 frame0 ≡ blank
  -- P8: "serial 2 heard before serial 1: early, then serial 1 is taken"
  pub P8-early : (hearing (fresh 1) (frame_of_order post0 418)).answer ≡ Early 0
  pub P8-taken : (hearing (hearing (fresh 1) (frame_of_order post0 418)).post frame0).answer ≡ Taken 0
  -- "Sixteenth order passes, seventeenth: 23."
  pub order_16 : order_number (order_singly (orders_sent 15) 15 blank).answer ≡ 0
  pub order_17 : order_number (order_singly (orders_sent 16) 16 blank).answer ≡ 23
  -- 24: the clock at 65,534 has one reading left, at 65,535 none
  pub clock_left : (after (clock_at 0 65534) 1).clock.0 ≡ 65535
  pub clock_spent : order_number (order_singly (clock_at 0 65535) 1 blank).answer ≡ 24
  pub clock_spent_hearing : hear_number (hearing (clock_at 1 65535) frame0).answer ≡ 24
