use mathlib.Core.Path.{refl}
use native.Mathlib.Omega.{arith}
use Rattle.yard.proofs.OrderWays.{order_over_7, order_large, order_short, order_no_air, order_stops, order_runs}
use Rattle.yard.proofs.AnswerLaws.{order_promised, order_handed}
use Rattle.yard.proofs.order.Goals as goal

pub returns-then-lane-ge-LANES : goal.returns-then-lane-ge-LANES
returns-then-lane-ge-LANES c =
    order_promised c.args.state.now c.args.air.now _ _ c.args.lane c.args.word 4 _ refl (order_over_7 c.args.state.now c.args.air.now c.args.lane c.args.word (omega arith))

pub returns-in_default : goal.returns-in_default
returns-in_default c =
    order_promised c.args.state.now c.args.air.now _ _ c.args.lane c.args.word 5 _ refl
    (order_large c.args.state.now c.args.air.now c.args.lane c.args.word (omega arith) (omega (arith, c.in_default.ensures)))

pub returns-then-state-ne-LENGTH : goal.returns-then-state-ne-LENGTH
returns-then-state-ne-LENGTH c =
    order_promised c.args.state.now c.args.air.now _ _ c.args.lane c.args.word 12 _ refl
    (order_short c.args.state.now c.args.air.now c.args.lane c.args.word (omega arith) (omega (arith, c.in-Ok.ensures.0)) c.if-state-ne-LENGTH.true)

pub returns-then-air-ne-LENGTH : goal.returns-then-air-ne-LENGTH
returns-then-air-ne-LENGTH c =
    order_promised c.args.state.now c.args.air.now _ _ c.args.lane c.args.word 13 _ refl
    (order_no_air c.args.state.now c.args.air.now c.args.lane c.args.word (omega arith) (omega (arith, c.in-Ok.ensures.0)) c.if-state-ne-LENGTH.false c.if-air-ne-LENGTH.true)

pub returns-in_err-sent : goal.returns-in_err-sent
returns-in_err-sent c =
    order_handed c.args.state.now c.args.air.now _ _ c.args.lane c.args.word c.from_residual.result _ c.from_residual.ensures.1
    (order_stops c.args.state.now c.order.new.row c.args.air.now c.args.lane c.args.word _ c.if-lane-ge-LANES.false (omega (arith, c.in-Ok.ensures.0)) c.if-state-ne-LENGTH.false
    c.if-air-ne-LENGTH.false c.order.auto.row (rw c.in-Ok.ensures.1 at c.in_err-sent.ensures.frame_after))

pub broadcast-requires : goal.broadcast-requires
broadcast-requires c = c.if-air-ne-LENGTH.false

pub returns : goal.returns
returns c =
    order_promised c.args.state.now c.args.air.now _ _ c.args.lane c.args.word 0 _ refl
    (order_runs c.args.state.now c.order.new.row c.broadcast.new.state _ c.args.air.now _ c.args.lane c.args.word _ _ _ c.if-lane-ge-LANES.false (omega (arith, c.in-Ok.ensures.0))
    c.if-state-ne-LENGTH.false c.if-air-ne-LENGTH.false c.order.auto.row c.get-frames.ensures (rw c.in-Ok.ensures.1 at c.in_ok-sent.ensures.frame_after)
    (c.broadcast.ensures.state_after, c.broadcast.ensures.bytes) c.note_first.ensures)
