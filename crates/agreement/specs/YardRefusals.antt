-- Which refusals a yard can meet, each tied to its condition: document 01, "Turned down because of the input" and "of the state". Assumes nothing.
-- These are the numbers that the theorem promises; the steps themselves also judge 6 to 11, 24 and 28 to 30, which never arise.
use Rattle.std.specs.Prelude.{ℕ, cond, not, ltb, leb, eqb}
use Rattle.air.specs.Air.{bad_air}
use Rattle.cells.specs.Sets.{has_lane}
use Rattle.state.specs.Yards.{post_at, beacons_at, spent}
use Rattle.yard.specs.Singles.{frame_at}
use Rattle.yard.specs.Worlds.{World, order, hear, beacon}
use Rattle.roll.specs.RollCall.{roll_refusal}
use Rattle.roll.specs.Runs.{Step, one, roll}

-- order: 4, 5, 13, 21, 22, 23 ("That lane has sent 16")
unfoldable pub order_yard_refusal : World → ℕ → ℕ → ℕ
order_yard_refusal w lane word =
    cond (ltb 7 lane) 4
    (cond (ltb 65535 word) 5
    (cond (bad_air w.air) 13
    (cond (not (has_lane w.yard.present lane)) 21
    (cond (not (has_lane w.yard.sources lane)) 22
    (cond (leb 16 (post_at w.yard lane).serial.0) 23
    0)))))

-- hear: 4, 13, 21, 25 ("Frame k not on the air"), 26 ("The post's own broadcast")
unfoldable pub hear_yard_refusal : World → ℕ → ℕ → ℕ
hear_yard_refusal w lane k =
    cond (ltb 7 lane) 4
    (cond (bad_air w.air) 13
    (cond (not (has_lane w.yard.present lane)) 21
    (cond (leb w.yard.frames k) 25
    (cond (eqb (frame_at w.air k).sender lane) 26
    0))))

-- beacon: 4, 13, 21, 27 (K2, "Refusal 27 for a beacon now looks at that post only.")
unfoldable pub beacon_yard_refusal : World → ℕ → ℕ
beacon_yard_refusal w lane =
    cond (ltb 7 lane) 4
    (cond (bad_air w.air) 13
    (cond (not (has_lane w.yard.present lane)) 21
    (cond (spent (beacons_at w.yard lane)) 27
    0)))

-- roll call: 13, 27 (K2, "when some source has none left")
abbrev pub step_refusal : World → Step → ℕ
step_refusal w (one (order lane word)) = order_yard_refusal w lane word
step_refusal w (one (hear lane k)) = hear_yard_refusal w lane k
step_refusal w (one (beacon lane)) = beacon_yard_refusal w lane
step_refusal w roll = roll_refusal w
