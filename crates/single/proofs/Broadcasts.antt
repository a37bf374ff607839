-- A broadcast is a frame that the writer accepts. Assumes nothing.
use mathlib.Core.Path.{◌≡◌}
use mathlib.Core.Bool.{true, false, not}
use Prim.Native.Nat.{ℕ, ◌+◌, ◌<◌}
use native.Mathlib.Omega.{arith}
use lib.Dec.{ltb}
use borrow.Author.Tests.{ltb-true, leb-false, not-false}
use Rattle.frame.specs.declared.Frame.{Frame}
use Rattle.frame.specs.Refusals.{frame_refusal}
use Rattle.frame.proofs.Laws.{passed}
use Rattle.cells.specs.Sets.{has_lane}
use Rattle.post.specs.declared.Post.{Post}
use Rattle.post.specs.Record.{last_of}
use Rattle.post.specs.Newest.{beacon_frame}
use Rattle.post.specs.Taking.{own_taken, kept, ticked, taken}
use Rattle.steps.specs.Refusals.{not_in_yard, is_next, order_refusal, hear_refusal, beacon_refusal}
use Rattle.steps.specs.Steps.{order_sent, hear_taken}
use Rattle.steps.proofs.Passed.{order_passed, hear_passed}
use Rattle.steps.proofs.HearWays.{taken_lane}
use Rattle.laws.proofs.TestLaws.{and_parts}
use Rattle.laws.proofs.NewestLaws.{order_accepted, beacon_accepted}
use Rattle.laws.proofs.Accepted.{accepted}
use Rattle.laws.proofs.Hearable.{next_is}

-- a lane of a set is one of the eight
pub lane_below_lem : (lanes lane : ℕ) → not (has_lane lanes lane) ≡ false → lane < 8
lane_below_lem lanes lane e = ltb-true lane 8 (and_parts (ltb lane 8) _ (not-false (has_lane lanes lane) e)).0

pub sent_accepted : (p : Post) (word : ℕ) → order_refusal p ≡ 0 → frame_refusal (order_sent p word).frame ≡ 0
unfolding order_sent own_taken kept ticked
sent_accepted p word z =
    let a = order_passed p z in
    let l : p.lane < 8 = lane_below_lem p.posts p.lane a.0 in
    order_accepted (own_taken p word) p.lane (p.serial.0 + 1) (p.clock.0 + 1) word l l (omega arith)
    (omega (arith, leb-false 16 p.serial.0 a.2)) (omega arith)

pub beacon_sendable : (p : Post) → beacon_refusal p ≡ 0 → frame_refusal (beacon_frame p) ≡ 0
beacon_sendable p z = beacon_accepted p (lane_below_lem p.posts p.lane (passed (not_in_yard p.posts p.lane) 21 0 (omega arith) z).0)

-- an order that is taken came in a frame that was accepted
pub taken_accepted : (p : Post) (f : Frame) → hear_refusal p f ≡ 0 → is_next f (last_of p f.lane) ≡ true → frame_refusal f ≡ 0
    → frame_refusal (hear_taken p f).frame ≡ 0
unfolding hear_taken
taken_accepted p f z t a =
    let h = hear_passed p f z in
    let l : p.lane < 8 = lane_below_lem p.posts p.lane h.0 in
    let o = (accepted f a).order (next_is f (last_of p f.lane) t).0 in
    order_accepted (taken p f) f.lane f.serial.0 f.stamp.0 f.word (rw (taken_lane p f) l) o.lane o.some o.serial o.stamp
