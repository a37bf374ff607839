-- The steps of a post: document 01, "The four steps". Each is total. Assumes nothing.
use Rattle.std.specs.Prelude.{ℕ, cond, leb, eqb}
use Rattle.frame.specs.Layout.{no_frame}
use Rattle.frame.specs.declared.Frame.{Frame}
use Rattle.post.specs.declared.Post.{Post}
use Rattle.post.specs.Record.{last_of}
use Rattle.post.specs.Newest.{order_frame, beacon_frame}
use Rattle.post.specs.Taking.{own_taken, raised_post, taken}
use Rattle.deliver.specs.Delivery.{delivered}
use Rattle.steps.specs.Refusals.{order_refusal, is_order, is_next, hear_refusal, beacon_refusal}
use Rattle.steps.specs.OrderAnswer as orders
use Rattle.steps.specs.HearAnswer as hearings
use Rattle.steps.specs.BeaconAnswer as beacons

-- what an order leaves: the answer, the post, and the broadcast, which is no frame (kind 0) where there is none
pub record Ordered : Type 0 where
  pub answer : orders.OrderAnswer
  pub post : Post
  pub frame : Frame

-- what a hearing leaves
pub record Heard : Type 0 where
  pub answer : hearings.HearAnswer
  pub post : Post
  pub frame : Frame

-- what a beacon leaves, beside the post, which stays
pub record Beaconed : Type 0 where
  pub answer : beacons.BeaconAnswer
  pub frame : Frame

-- "It broadcasts an order frame, then delivers." "An order answers with its serial, its stamp and the count delivered"
unfoldable pub order_sent : Post → ℕ → Ordered
order_sent p word =
    let q = own_taken p word in
    record {
      answer = orders.Sent q.serial q.clock (delivered q).count;
      post = (delivered q).post;
      frame = order_frame q p.lane q.serial.0 q.clock.0 word;
    }

-- a refused step leaves the post, and there is no broadcast
unfoldable pub order_step : Post → ℕ → Ordered
order_step p word =
    cond (eqb (order_refusal p) 0) (order_sent p word)
    (record { answer = orders.Refused (order_refusal p); post = p; frame = no_frame })

-- "Then p broadcasts the order under its own lane as sender", and delivers
unfoldable pub hear_taken : Post → Frame → Heard
hear_taken p f =
    let q = taken p f in
    record {
      answer = hearings.Taken (delivered q).count;
      post = (delivered q).post;
      frame = order_frame q f.lane f.serial.0 f.stamp.0 f.word;
    }

-- "n at most last taken is *again*; a larger n is *early* and the order is dropped. A beacon frame skips parts 2 and 3."
abbrev pub other_answer : Frame → ℕ → ℕ → hearings.HearAnswer
other_answer f last count =
    cond (is_order f) (cond (leb f.serial.0 last) (hearings.Again count) (hearings.Early count))
    (hearings.Beacon count)

-- parts 1 and 4 alone
unfoldable pub hear_other : Post → Frame → Heard
hear_other p f =
    let q = raised_post p f in
    record { answer = other_answer f (last_of p f.lane) (delivered q).count; post = (delivered q).post; frame = no_frame }

unfoldable pub hear_step : Post → Frame → Heard
hear_step p f =
    cond (eqb (hear_refusal p f) 0) (cond (is_next f (last_of p f.lane)) (hear_taken p f) (hear_other p f))
    (record { answer = hearings.Refused (hear_refusal p f); post = p; frame = no_frame })

-- "broadcasts a beacon frame", and answers "with no more than sent"; the post stays
unfoldable pub beacon_step : Post → Beaconed
beacon_step p =
    cond (eqb (beacon_refusal p) 0) (record { answer = beacons.Sent; frame = beacon_frame p })
    (record { answer = beacons.Refused (beacon_refusal p); frame = no_frame })
