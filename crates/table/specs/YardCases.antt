-- The yard bench of document 01 in a yard: what each case answers and leaves. Assumes nothing.
use Rattle.std.specs.Prelude.{◌≡◌, [], ◌∷◌, ◌++◌}
use Rattle.air.specs.Air.{stretch_at}
use Rattle.post.specs.Record.{last_of}
use Rattle.state.specs.Yards.{post_at}
use Rattle.yard.specs.Worlds.{order, hear, beacon}
use Rattle.roll.specs.RollCall.{roll_steps}
use Rattle.roll.specs.Runs.{one, roll, answer, run, sent}
use Rattle.roll.specs.Logs.{log_at, in_order}
use Rattle.table.specs.Cases.{frame4_bytes}
use Rattle.table.specs.Scripts.{answers, line_of, post_lines, line, the_order, sends, takes, hears_again, hears_early, calls, hear_refused, three, alone, two, began, two_orders, to_line4, to_line6, to_line7, order417, order90}

pub record YardBench : Type 0 where
  -- P1: "(refused 7 25)", then clocks 4, 3 and 0, own serials 1, 1 and 0, and the three logs
  pub P1-answers : answers three to_line7 ≡ sends 1 1 0 ∷ takes 0 ∷ sends 1 3 0 ∷ takes 1 ∷ takes 2 ∷ hear_refused 25 ∷ []
  pub P1-printout : post_lines (run three to_line7) (0 ∷ 1 ∷ 2 ∷ []) ≡
      line 4 1 (order417 ∷ order90 ∷ []) ∷ line 3 1 [] ∷ line 0 0 (order417 ∷ []) ∷ []
  -- P2: "frame 4 of it", of five frames
  pub P2-frame-4 : stretch_at (run three to_line7).air 4 ≡ frame4_bytes
  pub P2-frames : (run three to_line7).yard.frames ≡ 5
  -- P3: "its first four lines, then `(hear 2 2)`: log of 2 empty; then `(hear 2 0)`: (1 0 417) only"
  pub P3-answers : answers (run three to_line4) (one (hear 2 2) ∷ one (hear 2 0) ∷ []) ≡ takes 0 ∷ takes 1 ∷ []
  pub P3-empty : line_of (run three (to_line4 ++ (one (hear 2 2) ∷ []))) 2 ≡ line 0 0 []
  pub P3-only : line_of (run three (to_line4 ++ (one (hear 2 2) ∷ one (hear 2 0) ∷ []))) 2 ≡ line 0 0 (order417 ∷ [])
  -- P4: "its first six lines, then `(roll)`: 10 steps; posts 0 and 2 log both orders"
  pub P4-answer : answer (run three to_line6) roll ≡ calls 10
  pub P4-steps : roll_steps (run three to_line6) ≡
      hear 0 2 ∷ hear 1 0 ∷ hear 2 0 ∷ hear 2 2 ∷ beacon 0 ∷ beacon 1 ∷ hear 0 7 ∷ hear 1 6 ∷ hear 2 6 ∷ hear 2 7 ∷ []
  pub P4-posts : post_lines (run three (to_line6 ++ (roll ∷ []))) (0 ∷ 1 ∷ 2 ∷ []) ≡
      line 4 1 (order417 ∷ order90 ∷ []) ∷ line 3 1 [] ∷ line 0 0 (order417 ∷ order90 ∷ []) ∷ []
  pub P4-sent : sent three (to_line6 ++ (roll ∷ [])) ≡ order417 ∷ order90 ∷ []
  pub P4-all : log_at (run three (to_line6 ++ (roll ∷ []))) 2 ≡ in_order (sent three to_line6)
  -- P5: "one post, both: `(order 0 5)` logs (1 0 5); a roll makes 1 step"
  pub P5-answers : answers alone (one (order 0 5) ∷ roll ∷ []) ≡ sends 1 1 1 ∷ calls 1 ∷ []
  pub P5-logs : line_of (run alone (one (order 0 5) ∷ [])) 0 ≡ line 1 1 (the_order 0 1 1 5 ∷ [])
  pub P5-roll : line_of (run alone (one (order 0 5) ∷ roll ∷ [])) 0 ≡ line 1 1 (the_order 0 1 1 5 ∷ [])
  -- P6: "posts 0 and 1 both, orders 7 and 8, roll: 6 steps, logs (1 0 7) (1 1 8)"
  pub P6-answers : answers two (one (order 0 7) ∷ one (order 1 8) ∷ roll ∷ []) ≡ sends 1 1 0 ∷ sends 1 1 0 ∷ calls 6 ∷ []
  pub P6-logs : post_lines (run two (one (order 0 7) ∷ one (order 1 8) ∷ roll ∷ [])) (0 ∷ 1 ∷ []) ≡
      line 2 1 (the_order 0 1 1 7 ∷ the_order 1 1 1 8 ∷ []) ∷ line 2 1 (the_order 0 1 1 7 ∷ the_order 1 1 1 8 ∷ []) ∷ []
  -- P7: "a frame heard twice: again, clock unchanged", and so is all else
  pub P7-answers : answers (run three began) (one (hear 1 0) ∷ one (hear 1 0) ∷ []) ≡ takes 0 ∷ hears_again 0 ∷ []
  pub P7-before : line_of (run three (began ++ (one (hear 1 0) ∷ []))) 1 ≡ line 2 0 []
  pub P7-after : line_of (run three (began ++ (one (hear 1 0) ∷ one (hear 1 0) ∷ []))) 1 ≡ line 2 0 []
  pub P7-unchanged : run three (began ++ (one (hear 1 0) ∷ one (hear 1 0) ∷ [])) ≡ run three (began ++ (one (hear 1 0) ∷ []))
  -- P8: "serial 2 heard before serial 1: early, then serial 1 is taken"; the early one is dropped
  pub P8-answers : answers (run three two_orders) (one (hear 1 1) ∷ one (hear 1 0) ∷ []) ≡ hears_early 0 ∷ takes 0 ∷ []
  pub P8-early : line_of (run three (two_orders ++ (one (hear 1 1) ∷ []))) 1 ≡ line 0 0 []
  pub P8-dropped : last_of (post_at (run three (two_orders ++ (one (hear 1 1) ∷ []))).yard 1) 0 ≡ 0
  pub P8-taken : line_of (run three (two_orders ++ (one (hear 1 1) ∷ one (hear 1 0) ∷ []))) 1 ≡ line 2 0 []
  pub P8-last : last_of (post_at (run three (two_orders ++ (one (hear 1 1) ∷ one (hear 1 0) ∷ []))).yard 1) 0 ≡ 1
