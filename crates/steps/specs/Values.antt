-- Document 01's values for each answer, and those that a step's answer has: serial, stamp and the count delivered; 0 where it is a refusal.
-- Assumes nothing.
use Rattle.std.specs.Prelude.{ℕ, ◌+◌, cond, eqb}
use Rattle.frame.specs.declared.Frame.{Frame}
use Rattle.post.specs.declared.Post.{Post}
use Rattle.post.specs.Record.{last_of}
use Rattle.post.specs.Taking.{own_taken, raised_post, taken}
use Rattle.deliver.specs.Delivery.{delivered}
use Rattle.steps.specs.Refusals.{order_refusal, is_next, hear_refusal}
use Rattle.steps.specs.OrderAnswer as orders
use Rattle.steps.specs.HearAnswer as hearings

-- "An order answers with its serial, its stamp and the count delivered"
abbrev pub order_serial : orders.OrderAnswer → ℕ
order_serial (orders.Sent serial stamp count) = serial.0
order_serial (orders.Refused number) = 0

abbrev pub order_stamp : orders.OrderAnswer → ℕ
order_stamp (orders.Sent serial stamp count) = stamp.0
order_stamp (orders.Refused number) = 0

-- "for all four answers (taken, again, early, beacon), each carrying the count delivered"
abbrev pub order_count : orders.OrderAnswer → ℕ
order_count (orders.Sent serial stamp count) = count
order_count (orders.Refused number) = 0

abbrev pub hear_count : hearings.HearAnswer → ℕ
hear_count (hearings.Taken count) = count
hear_count (hearings.Again count) = count
hear_count (hearings.Early count) = count
hear_count (hearings.Beacon count) = count
hear_count (hearings.Refused number) = 0

-- an order's values: the post's next serial and clock, and how many orders then join the log; 0 where it is refused
unfoldable pub order_step_serial : Post → ℕ
order_step_serial p = cond (eqb (order_refusal p) 0) (p.serial.0 + 1) 0

unfoldable pub order_step_stamp : Post → ℕ
order_step_stamp p = cond (eqb (order_refusal p) 0) (p.clock.0 + 1) 0

unfoldable pub order_step_count : Post → ℕ → ℕ
order_step_count p word = cond (eqb (order_refusal p) 0) (delivered (own_taken p word)).count 0

-- a hearing's: how many orders join the log once the order is taken, or the entries alone; 0 where it is refused
unfoldable pub hear_step_count : Post → Frame → ℕ
hear_step_count p f =
    cond (eqb (hear_refusal p f) 0)
    (cond (is_next f (last_of p f.lane)) (delivered (taken p f)).count (delivered (raised_post p f)).count)
    0
