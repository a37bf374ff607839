-- What the steps of a valid record broadcast is a frame of its type, and neither writer nor reader refuses it. Assumes nothing.
use mathlib.Core.Path.{◌≡◌}
use mathlib.Core.Bool.{true}
use Prim.Native.Nat.{ℕ, ◌+◌, ◌<◌}
use native.Mathlib.Omega.{arith}
use Rattle.frame.specs.declared.Frame.{Frame}
use Rattle.frame.specs.Types.{Typed}
use Rattle.frame.specs.Refusals.{frame_refusal}
use Rattle.post.specs.declared.Post.{Post}
use Rattle.post.specs.Record.{last_of}
use Rattle.post.specs.Newest.{order_frame, beacon_frame}
use Rattle.post.specs.Taking.{kept, ticked, own_taken, taken}
use Rattle.steps.specs.Refusals.{is_next, order_refusal, hear_refusal, beacon_refusal}
use Rattle.steps.specs.Steps.{order_sent, order_step, hear_taken, hear_step, beacon_step}
use Rattle.steps.proofs.Ways.{can_rise}
pub use Rattle.laws.specs.Broadcasts.{Sendable}
use Rattle.laws.proofs.NewestLaws.{beacon_accepted, order_accepted, beacon_fits, order_fits}
use Rattle.laws.proofs.Valid.{Shaped, Valid}
use Rattle.laws.proofs.ValidSteps.{ordered_shaped, ordered_valid, taken_shaped, taken_valid}
use Rattle.laws.proofs.Accepted.{accepted}
use Rattle.laws.proofs.Hearable.{next_is}

-- the frame of an order that is not refused is that of the post that took it
pub order_frame_lem : (p : Post) (word : ℕ) → order_refusal p ≡ 0
    → (order_step p word).frame ≡ order_frame (own_taken p word) p.lane (p.serial.0 + 1) (p.clock.0 + 1) word
unfolding order_step order_sent own_taken kept ticked
order_frame_lem p word z = rw z

-- and can be sent
pub order_sendable : (p : Post) (word : ℕ) → word < 65536 → order_refusal p ≡ 0 → Shaped p → Valid p → Sendable (order_step p word).frame
order_sendable p word b z s v =
    let room = can_rise p z in
    rw (order_frame_lem p word z)
    (record {
      good = order_accepted (own_taken p word) p.lane (p.serial.0 + 1) (p.clock.0 + 1) word
          (ordered_valid p word z s v).lane v.lane (omega arith) (omega (arith, room.1)) (omega arith);
      fits = order_fits (own_taken p word) p.lane (p.serial.0 + 1) (p.clock.0 + 1) word
          (ordered_shaped p word z b s).table_values (omega (arith, room.0)) b;
    })

-- the frame of a hearing that takes an order is the order, under the post's own lane as sender
pub hear_frame : (p : Post) (f : Frame) → hear_refusal p f ≡ 0 → is_next f (last_of p f.lane) ≡ true
    → (hear_step p f).frame ≡ order_frame (taken p f) f.lane f.serial.0 f.stamp.0 f.word
unfolding hear_step hear_taken
hear_frame p f z n = rw (z, n)

-- and can be sent
pub hear_sendable : (p : Post) (f : Frame) → frame_refusal f ≡ 0 → Typed f → hear_refusal p f ≡ 0 → is_next f (last_of p f.lane) ≡ true
    → Shaped p → Valid p
    → Sendable (hear_step p f).frame
hear_sendable p f a t z n s v =
    let order = (accepted f a).order (next_is f (last_of p f.lane) n).0 in
    rw (hear_frame p f z n)
    (record {
      good = order_accepted (taken p f) f.lane f.serial.0 f.stamp.0 f.word
          (taken_valid p f a z n s v).lane order.lane order.some order.serial order.stamp;
      fits = order_fits (taken p f) f.lane f.serial.0 f.stamp.0 f.word (taken_shaped p f t z n s).table_values t.stamp t.word;
    })

-- the frame of a beacon that is not refused
pub beacon_frame_lem : (p : Post) → beacon_refusal p ≡ 0 → (beacon_step p).frame ≡ beacon_frame p
unfolding beacon_step
beacon_frame_lem p z = rw z

-- and can be sent
pub beacon_sendable : (p : Post) → beacon_refusal p ≡ 0 → Shaped p → Valid p → Sendable (beacon_step p).frame
beacon_sendable p z s v =
    rw (beacon_frame_lem p z) (record { good = beacon_accepted p v.lane; fits = beacon_fits p s.table_values })
