-- The number and the values that each step on a state answers, of the arguments alone. Assumes nothing.
use Rattle.std.specs.Prelude.{ℕ, ◌+◌, cond, List, [], ltb, eqb, get_or}
use Rattle.air.specs.Air.{bad_air}
use Rattle.steps.specs.Refusals.{order_refusal, hear_refusal}
use Rattle.steps.specs.Knowing.{order_count_by, hear_count_by}
use Rattle.state.specs.Yards.{post_at, beacons_at}
use Rattle.yard.specs.Singles.{stops_hearing, frame_at, stops_beacon}
use Rattle.state.specs.States.{Held, whole, other}

-- the number that an order answers, or 0: 4, 5, 12, 13, then 21 to 24
unfoldable pub order_refusal_in : Held → List ℕ → ℕ → ℕ → ℕ
order_refusal_in (other cells) air lane word =
    cond (ltb 7 lane) 4
    (cond (ltb 65535 word) 5
    12)
order_refusal_in (whole y knowns) air lane word =
    cond (ltb 7 lane) 4
    (cond (ltb 65535 word) 5
    (cond (bad_air air) 13
    (order_refusal (post_at y lane))))

-- "An order answers with its serial, its stamp and the count delivered": the post's next serial and clock, and how many orders
-- then join its log; 0 where it is refused
unfoldable pub order_serial_in : Held → List ℕ → ℕ → ℕ → ℕ
order_serial_in (other cells) air lane word = 0
order_serial_in (whole y knowns) air lane word = cond (eqb (order_refusal_in (whole y knowns) air lane word) 0) ((post_at y lane).serial.0 + 1) 0

unfoldable pub order_stamp_in : Held → List ℕ → ℕ → ℕ → ℕ
order_stamp_in (other cells) air lane word = 0
order_stamp_in (whole y knowns) air lane word = cond (eqb (order_refusal_in (whole y knowns) air lane word) 0) ((post_at y lane).clock.0 + 1) 0

unfoldable pub order_count_in : Held → List ℕ → ℕ → ℕ → ℕ
order_count_in (other cells) air lane word = 0
order_count_in (whole y knowns) air lane word =
    cond (eqb (order_refusal_in (whole y knowns) air lane word) 0) (order_count_by (get_or knowns lane []) (post_at y lane) word) 0

-- the number that a hearing answers, or 0: 4, 12, what stops it, then what the post's own step refuses
unfoldable pub hear_refusal_in : Held → List ℕ → ℕ → ℕ → ℕ
hear_refusal_in (other cells) air lane k = cond (ltb 7 lane) 4 12
hear_refusal_in (whole y knowns) air lane k =
    let p = post_at y lane in
    let stops = stops_hearing air p y.frames k in
    cond (ltb 7 lane) 4 (cond (eqb stops 0) (hear_refusal p (frame_at air k)) stops)

-- "each carrying the count delivered": how many orders join the log; 0 where it is refused
unfoldable pub hear_count_in : Held → List ℕ → ℕ → ℕ → ℕ
hear_count_in (other cells) air lane k = 0
hear_count_in (whole y knowns) air lane k =
    cond (eqb (hear_refusal_in (whole y knowns) air lane k) 0) (hear_count_by (get_or knowns lane []) (post_at y lane) (frame_at air k)) 0

-- the number that a beacon answers, or 0: 4, 12, 13, 21, 27
unfoldable pub beacon_refusal_in : Held → List ℕ → ℕ → ℕ
beacon_refusal_in (other cells) air lane = cond (ltb 7 lane) 4 12
beacon_refusal_in (whole y knowns) air lane = cond (ltb 7 lane) 4 (stops_beacon air (post_at y lane) (beacons_at y lane))
