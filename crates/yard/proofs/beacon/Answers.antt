use mathlib.Core.Path.{refl}
use Rattle.refusal.proofs.Refused.{never_0}
use Rattle.yard.proofs.PartWays.{placed}
use Rattle.yard.proofs.BeaconWays.{beacon_misplaced, beacon_stopped, beacon_runs}
use Rattle.yard.proofs.AnswerLaws.{beacon_promised, beacon_handed}
use Rattle.yard.proofs.beacon.Goals as goal

pub returns-in_err-check : goal.returns-in_err-check
returns-in_err-check c =
    let w = c.in_err-check.ensures in
    beacon_handed c.args.state.now c.args.air.now _ _ c.args.lane c.from_residual.result _ c.from_residual.ensures.1
    (beacon_misplaced c.args.state.now c.args.air.now c.args.lane _ w (never_0 _))

pub returns-in_err-check_beacon : goal.returns-in_err-check_beacon
returns-in_err-check_beacon c =
    let at = placed c.args.state.now c.args.lane c.in_ok-check.ensures in
    beacon_handed c.args.state.now c.args.air.now _ _ c.args.lane c.from_residual-in_err-check_beacon.result _ c.from_residual-in_err-check_beacon.ensures.1
    (beacon_stopped c.args.state.now c.args.air.now c.args.lane _ _ at.0 at.1 c.get_in-sent.ensures c.in_err-check_beacon.ensures (never_0 _))

pub returns : goal.returns
returns c =
    let at = placed c.args.state.now c.args.lane c.in_ok-check.ensures in
    beacon_promised c.args.state.now c.args.air.now _ _ c.args.lane 0 _ refl
    (beacon_runs c.args.state.now c.put_in.new.row _ c.args.air.now _ c.args.lane _ 0 _ at.0 at.1 c.get_in-sent.ensures c.in_ok-check_beacon.ensures refl
    c.in_ok-frame.ensures.value c.put_in.ensures (c.broadcast.ensures.state_after, c.broadcast.ensures.bytes))
