use mathlib.Core.Path.{refl, sym}
use Rattle.refusal.proofs.Refused.{never_0}
use Rattle.row.specs.Rows.{post_in}
use Rattle.state.proofs.StateLaws.{lent_row}
use Rattle.yard.proofs.PartWays.{placed, air_there, none_sent_lem}
use Rattle.yard.proofs.HearWays.{hear_misplaced, hear_stopped, hear_runs}
use Rattle.yard.proofs.AnswerLaws.{hear_promised, hear_handed}
use Rattle.yard.proofs.hear.Goals as goal

pub returns-in_err-check : goal.returns-in_err-check
returns-in_err-check c =
    let w = c.in_err-check.ensures in
    hear_handed c.args.state.now c.args.air.now _ _ c.args.lane c.args.k c.from_residual.result _ c.from_residual.ensures.1
    (hear_misplaced c.args.state.now c.args.air.now c.args.lane c.args.k _ w (never_0 _))

pub returns-in_err-heard : goal.returns-in_err-heard
returns-in_err-heard c =
    let at = placed c.args.state.now c.args.lane c.in_ok-check.ensures in
    hear_handed c.args.state.now c.args.air.now _ _ c.args.lane c.args.k c.from_residual-in_err-heard.result _ c.from_residual-in_err-heard.ensures.1
    (hear_stopped c.args.state.now c.args.air.now c.args.lane c.args.k _ _ at.0 at.1 c.get-frames.ensures c.in_err-heard.ensures.refusal_value (never_0 _))

pub returns-in_err-hearing : goal.returns-in_err-hearing
returns-in_err-hearing c =
    let at = placed c.args.state.now c.args.lane c.in_ok-check.ensures in
    hear_handed c.args.state.now c.args.air.now _ _ c.args.lane c.args.k c.from_residual-in_err-hearing.result _ c.from_residual-in_err-hearing.ensures.1
    (hear_runs c.args.state.now c.hear.new.row _ c.args.air.now _ c.args.lane c.args.k _ _ _ _ _ at.0 at.1 c.hear.auto.row c.get-frames.ensures c.in_ok-heard.ensures.refusal_value refl
    (λ _. c.in_ok-heard.ensures.frame) c.in_err-hearing.ensures.frame_after (none_sent_lem _ _ _ refl))

pub broadcast-requires : goal.broadcast-requires
broadcast-requires c = air_there c.args.air.now (post_in (lent_row c.args.state.now c.args.lane)) c.get-frames.result c.args.k (sym c.in_ok-heard.ensures.refusal_value)

pub returns-in-Some : goal.returns-in-Some
returns-in-Some c =
    let at = placed c.args.state.now c.args.lane c.in_ok-check.ensures in
    hear_promised c.args.state.now c.args.air.now _ _ c.args.lane c.args.k _
    (hear_runs c.args.state.now c.hear.new.row _ c.args.air.now _ c.args.lane c.args.k _ _ _ _ _ at.0 at.1 c.hear.auto.row c.get-frames.ensures c.in_ok-heard.ensures.refusal_value refl
    (λ _. c.in_ok-heard.ensures.frame) c.in_ok-hearing.ensures.frame_after (rw c.in-Some.is (c.broadcast.ensures.state_after, c.broadcast.ensures.bytes)))

pub returns-in_default : goal.returns-in_default
returns-in_default c =
    let at = placed c.args.state.now c.args.lane c.in_ok-check.ensures in
    hear_promised c.args.state.now c.args.air.now _ _ c.args.lane c.args.k _
    (hear_runs c.args.state.now c.hear.new.row _ c.args.air.now _ c.args.lane c.args.k _ _ _ _ _ at.0 at.1 c.hear.auto.row c.get-frames.ensures c.in_ok-heard.ensures.refusal_value refl
    (λ _. c.in_ok-heard.ensures.frame) c.in_ok-hearing.ensures.frame_after (rw c.in_default.is (none_sent_lem _ _ _ refl)))
