-- The yard bench of document 01, continued, and K2's cases: each refusal of a step in a yard, its neighbour that passes, and which number
-- wins. Assumes nothing.
use Rattle.std.specs.Prelude.{◌≡◌}
use Rattle.yard.specs.Worlds.{order, hear, beacon}
use Rattle.roll.specs.Runs.{one, roll, answer, run}
use Rattle.table.specs.Scripts.{Refuses, sends, takes, beacon_sent, calls, order_refused, hear_refused, beacon_refused, call_refused, three, alone, relay_alone, air_of, began, orders_sent_by0, repeated}

-- every refused step leaves the yard and the air as they were
pub record RefusalBench : Type 0 where
  -- "A step's lane over 7": 4
  pub order_4 : Refuses (run three began) (one (order 8 1)) (order_refused 4)
  pub hear_4 : Refuses (run three began) (one (hear 8 0)) (hear_refused 4)
  pub beacon_4 : Refuses (run three began) (one (beacon 8)) (beacon_refused 4)
  -- "A word over 65,535": 5
  pub word_65535 : answer three (one (order 0 65535)) ≡ sends 1 1 0
  pub order_5 : Refuses (run three began) (one (order 0 65536)) (order_refused 5)
  -- "Air not 65,536 bytes": 13
  pub order_13 : Refuses (air_of 65535) (one (order 0 1)) (order_refused 13)
  pub order_13_long : Refuses (air_of 65537) (one (order 0 1)) (order_refused 13)
  pub hear_13 : Refuses (air_of 65535) (one (hear 0 0)) (hear_refused 13)
  pub beacon_13 : Refuses (air_of 65535) (one (beacon 0)) (beacon_refused 13)
  pub roll_13 : Refuses (air_of 65535) roll (call_refused 13)
  -- "Post not in the yard": 21
  pub order_21 : Refuses (run three began) (one (order 3 1)) (order_refused 21)
  pub hear_21 : Refuses (run three began) (one (hear 3 0)) (hear_refused 21)
  pub beacon_21 : Refuses (run three began) (one (beacon 3)) (beacon_refused 21)
  -- "Order at a post that is no source": 22
  pub order_22 : Refuses (run three began) (one (order 2 1)) (order_refused 22)
  -- "Sixteenth order passes, seventeenth: 23."
  pub order_16 : answer (run alone (orders_sent_by0 15)) (one (order 0 16)) ≡ sends 16 16 1
  pub order_23 : Refuses (run alone (orders_sent_by0 16)) (one (order 0 17)) (order_refused 23)
  -- "Frame k not on the air": 25, of one frame on it
  pub hear_25 : Refuses (run three began) (one (hear 2 1)) (hear_refused 25)
  pub frame_0_heard : answer (run three began) (one (hear 2 0)) ≡ takes 0
  -- "The post's own broadcast": 26
  pub hear_26 : Refuses (run three began) (one (hear 0 0)) (hear_refused 26)
  -- K2, "The bench case at 1,024 becomes 128 and 129."
  pub beacon_128 : answer (run three (repeated 127 (one (beacon 0)))) (one (beacon 0)) ≡ beacon_sent
  pub beacon_27 : Refuses (run three (repeated 128 (one (beacon 0)))) (one (beacon 0)) (beacon_refused 27)
  -- K2, "A noisy post at one end used up the yard's 1,024 beacons, and the others could send none": after its 128 and a 129th, which is
  -- refused, lane 1 is granted one, and so it is after 1,024
  pub noisy_post : answer (run three (repeated 129 (one (beacon 0)))) (one (beacon 1)) ≡ beacon_sent
  pub noisy_post_1024 : answer (run three (repeated 1024 (one (beacon 0)))) (one (beacon 1)) ≡ beacon_sent
  -- K2, "A roll call is refused with 27 when some source has none left": lane 0 has one left, or none
  pub roll_1_left : answer (run three (repeated 127 (one (beacon 0)))) roll ≡ calls 6
  pub roll_27 : Refuses (run three (repeated 128 (one (beacon 0)))) roll (call_refused 27)
  -- a *dest* that has none left does not hinder it, and where there is no source nobody does
  pub roll_dest_spent : answer (run three (repeated 128 (one (beacon 2)))) roll ≡ calls 6
  pub roll_no_source : answer (run relay_alone (repeated 128 (one (beacon 0)))) roll ≡ calls 0
  -- K2, "a roll call, which takes one from every source": the 128th passes, and then neither another nor a beacon does
  pub roll_128 : answer (run alone (repeated 127 roll)) roll ≡ calls 1
  pub roll_129 : Refuses (run alone (repeated 128 roll)) roll (call_refused 27)
  pub beacon_after_rolls : Refuses (run alone (repeated 128 roll)) (one (beacon 0)) (beacon_refused 27)
  -- "Input comes before state, and within each the lowest number wins."
  pub order_4_wins : Refuses (air_of 65535) (one (order 8 65536)) (order_refused 4)
  pub order_5_wins : Refuses (air_of 65535) (one (order 0 65536)) (order_refused 5)
  pub order_13_wins : Refuses (air_of 65535) (one (order 3 1)) (order_refused 13)
  pub hear_13_wins : Refuses (air_of 65535) (one (hear 3 9)) (hear_refused 13)
  pub hear_21_wins : Refuses (run three began) (one (hear 3 9)) (hear_refused 21)
