-- A post run singly, as a host runs it: every input judged, the broadcast in a lent buffer. Assumes nothing.
use Rattle.std.specs.Prelude.{ℕ, ◌+◌, cond, ◌&&◌, List, eqb}
use Rattle.frame.specs.Layout.{frame_of, bytes_of}
use Rattle.frame.specs.Refusals.{bad_length, read_refusal}
use Rattle.post.specs.declared.Post.{Post}
use Rattle.post.specs.Record.{last_of, fresh_post}
use Rattle.post.specs.Newest.{beacon_frame}
use Rattle.post.specs.Taking.{own_taken, raised_post, taken}
use Rattle.deliver.specs.Delivery.{delivered}
use Rattle.judge.specs.Judgement.{bad_record}
use Rattle.steps.specs.Refusals.{not_in_yard, is_next, order_refusal, hear_refusal, beacon_refusal}
use Rattle.steps.specs.Steps.{order_sent, hear_taken, hear_step}
use Rattle.steps.specs.OrderAnswer as orders
use Rattle.steps.specs.HearAnswer as hearings
use Rattle.steps.specs.BeaconAnswer as beacons
use Rattle.single.specs.Outcomes.{FreshPost, Ordered, Heard}

-- "Making a fresh post singly is judged as its record would be, by 12 and then 21."
unfoldable pub fresh_refusal : ℕ → ℕ → ℕ → ℕ → ℕ
fresh_refusal lane posts sources dests =
    cond (bad_record (fresh_post lane posts sources dests)) 12
    (cond (not_in_yard posts lane) 21
    0)

-- the fresh post, or the refusal beside a record of zeros
unfoldable pub fresh_singly : ℕ → ℕ → ℕ → ℕ → FreshPost
fresh_singly lane posts sources dests =
    cond (eqb (fresh_refusal lane posts sources dests) 0) (record { refusal = 0; post = fresh_post lane posts sources dests })
    (record { refusal = fresh_refusal lane posts sources dests; post = fresh_post 0 0 0 0 })

-- order: 6, 12, then 21 to 24
unfoldable pub order_refusal_singly : Post → List ℕ → ℕ
order_refusal_singly p buffer =
    cond (bad_length buffer) 6
    (cond (bad_record p) 12
    (order_refusal p))

unfoldable pub order_singly : Post → ℕ → List ℕ → Ordered
order_singly p word buffer =
    cond (eqb (order_refusal_singly p buffer) 0) (record { answer = (order_sent p word).answer; post = (order_sent p word).post })
    (record { answer = orders.Refused (order_refusal_singly p buffer); post = p })

-- "An order answers with its serial, its stamp and the count delivered": the post's next serial and clock, and how many orders
-- then join the log; 0 where it is refused
unfoldable pub order_serial_singly : Post → List ℕ → ℕ
order_serial_singly p buffer = cond (eqb (order_refusal_singly p buffer) 0) (p.serial.0 + 1) 0

unfoldable pub order_stamp_singly : Post → List ℕ → ℕ
order_stamp_singly p buffer = cond (eqb (order_refusal_singly p buffer) 0) (p.clock.0 + 1) 0

unfoldable pub order_count_singly : Post → ℕ → List ℕ → ℕ
order_count_singly p word buffer = cond (eqb (order_refusal_singly p buffer) 0) (delivered (own_taken p word)).count 0

-- "A post run singly puts its broadcast into a lent 32-byte buffer"; a refusal leaves it
unfoldable pub order_buffer : Post → ℕ → List ℕ → List ℕ
order_buffer p word buffer = cond (eqb (order_refusal_singly p buffer) 0) (bytes_of (order_sent p word).frame) buffer

-- hear: 6 of the buffer, 6 to 11 of the frame, 12, then 21, 24, 26 and 28 to 30
unfoldable pub hear_refusal_singly : Post → List ℕ → List ℕ → ℕ
hear_refusal_singly p bytes buffer =
    cond (bad_length buffer) 6
    (cond (eqb (read_refusal bytes) 0)
    (cond (bad_record p) 12 (hear_refusal p (frame_of bytes)))
    (read_refusal bytes))

unfoldable pub hear_singly : Post → List ℕ → List ℕ → Heard
hear_singly p bytes buffer =
    let f = frame_of bytes in
    cond (eqb (hear_refusal_singly p bytes buffer) 0) (record { answer = (hear_step p f).answer; post = (hear_step p f).post })
    (record { answer = hearings.Refused (hear_refusal_singly p bytes buffer); post = p })

-- "each carrying the count delivered": how many orders join the log once the order is taken, or the entries alone; 0 where it is refused
unfoldable pub hear_count_singly : Post → List ℕ → List ℕ → ℕ
hear_count_singly p bytes buffer =
    let f = frame_of bytes in
    cond (eqb (hear_refusal_singly p bytes buffer) 0)
    (cond (is_next f (last_of p f.lane)) (delivered (taken p f)).count (delivered (raised_post p f)).count)
    0

-- "with no broadcast the buffer keeps its bytes": there is one where an order is taken
unfoldable pub hear_buffer : Post → List ℕ → List ℕ → List ℕ
hear_buffer p bytes buffer =
    let f = frame_of bytes in
    cond (eqb (hear_refusal_singly p bytes buffer) 0 && is_next f (last_of p f.lane)) (bytes_of (hear_taken p f).frame) buffer

-- beacon: 6, 12, 21
unfoldable pub beacon_refusal_singly : Post → List ℕ → ℕ
beacon_refusal_singly p buffer =
    cond (bad_length buffer) 6
    (cond (bad_record p) 12
    (beacon_refusal p))

unfoldable pub beacon_singly : Post → List ℕ → beacons.BeaconAnswer
beacon_singly p buffer =
    cond (eqb (beacon_refusal_singly p buffer) 0) beacons.Sent (beacons.Refused (beacon_refusal_singly p buffer))

unfoldable pub beacon_buffer : Post → List ℕ → List ℕ
beacon_buffer p buffer = cond (eqb (beacon_refusal_singly p buffer) 0) (bytes_of (beacon_frame p)) buffer
