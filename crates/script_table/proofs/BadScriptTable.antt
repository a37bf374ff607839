-- Every bad script of the joint table, by computing the definitions. Assumes nothing.
use Prim.Native.Nat.{ℕ, ◌<◌}
use mathlib.Core.Path.{refl}
use mathlib.Core.List.{List}
use native.Mathlib.Omega.{arith}
use lib.ListN.{length}
use borrow.Author.Tests.{lt-ltb}
use Rattle.text.specs.Bytes.{bytes}
use Rattle.text.specs.Decimal.{decimal}
use Rattle.scan.specs.Scan.{all_below, stands, digit_at, read_text, first_digit, next_digit, read_number}
use Rattle.lines.specs.Forms.{or_role, read_role, read_post, post_added, posts_read, read_yard}
use Rattle.lines.specs.Lines.{yard_line_refusal, yard_line, step_line_refusal, order_line, hear_line, beacon_line, roll_line, yard_or, roll_or, beacon_or, hear_or, line_at, lines_from, judged_lines, judged}
use Rattle.meaning.specs.Texts.{bad_text}
use Rattle.meaning.specs.Script.{printout, air_after}
use Rattle.script_table.specs.BadScriptCases.{Bad, BadScriptBench}

-- a script that is too long is not read
too_long : (script : List ℕ) → 48000 < length script → Bad script (bytes "(bad 0 1)\n")
unfolding judged bad_text decimal printout air_after
too_long script over air = rw (lt-ltb 48000 (length script) (omega arith)) (refl, refl)

pub bad_script_bench : BadScriptBench
unfolding decimal all_below stands digit_at read_text first_digit next_digit read_number or_role read_role read_post post_added posts_read read_yard yard_line_refusal yard_line step_line_refusal order_line hear_line beacon_line roll_line yard_or roll_or beacon_or hear_or line_at lines_from judged_lines judged bad_text printout air_after
bad_script_bench = record {
  over_48000 = too_long;
  exactly_48000 = λ (air : List ℕ). (refl, refl);
  empty = λ (air : List ℕ). (refl, refl);
  blank_line_1 = λ (air : List ℕ). (refl, refl);
  no_form = λ (air : List ℕ). (refl, refl);
  yard_space = λ (air : List ℕ). (refl, refl);
  yard_end_space = λ (air : List ℕ). (refl, refl);
  yard_role = λ (air : List ℕ). (refl, refl);
  yard_capitals = λ (air : List ℕ). (refl, refl);
  yard_zeros = λ (air : List ℕ). (refl, refl);
  yard_six_digits = λ (air : List ℕ). (refl, refl);
  yard_joined = λ (air : List ℕ). (refl, refl);
  yard_no_line_feed = λ (air : List ℕ). (refl, refl);
  order_first = λ (air : List ℕ). (refl, refl);
  hear_first = λ (air : List ℕ). (refl, refl);
  beacon_first = λ (air : List ℕ). (refl, refl);
  roll_first = λ (air : List ℕ). (refl, refl);
  no_posts = λ (air : List ℕ). (refl, refl);
  lane_8 = λ (air : List ℕ). (refl, refl);
  lane_99999 = λ (air : List ℕ). (refl, refl);
  equal_lanes = λ (air : List ℕ). (refl, refl);
  falling_lanes = λ (air : List ℕ). (refl, refl);
  yard_again = λ (air : List ℕ). (refl, refl);
  yard_again_no_posts = λ (air : List ℕ). (refl, refl);
  yard_again_malformed = λ (air : List ℕ). (refl, refl);
  zeros = λ (air : List ℕ). (refl, refl);
  zero_one = λ (air : List ℕ). (refl, refl);
  lane_zero_one = λ (air : List ℕ). (refl, refl);
  six_digits = λ (air : List ℕ). (refl, refl);
  frame_six_digits = λ (air : List ℕ). (refl, refl);
  lane_six_digits = λ (air : List ℕ). (refl, refl);
  order_lane = λ (air : List ℕ). (refl, refl);
  hear_lane = λ (air : List ℕ). (refl, refl);
  beacon_lane = λ (air : List ℕ). (refl, refl);
  word = λ (air : List ℕ). (refl, refl);
  carriage_return = λ (air : List ℕ). (refl, refl);
  tab = λ (air : List ℕ). (refl, refl);
  blank_line = λ (air : List ℕ). (refl, refl);
  two_spaces = λ (air : List ℕ). (refl, refl);
  space_before = λ (air : List ℕ). (refl, refl);
  space_after = λ (air : List ℕ). (refl, refl);
  capitals = λ (air : List ℕ). (refl, refl);
  two_forms = λ (air : List ℕ). (refl, refl);
  item_missing = λ (air : List ℕ). (refl, refl);
  item_more = λ (air : List ℕ). (refl, refl);
  nul = λ (air : List ℕ). (refl, refl);
  byte_200 = λ (air : List ℕ). (refl, refl);
  no_line_feed = λ (air : List ℕ). (refl, refl);
  earlier_first = λ (air : List ℕ). (refl, refl);
  later_after = λ (air : List ℕ). (refl, refl);
}
