use mathlib.Core.Bool.{not}
use native.Mathlib.Omega.{arith}
use mathlib.Core.Path.{refl, sym, ap, ◌∙◌}
use Prim.Native.Nat.{◌≤◌}
use lib.Seq.{length-take-le}
use Rattle.refusal.proofs.Refused.{never_0}
use Rattle.state.proofs.StateLaws.{lent_row, lent_is}
use Rattle.commands.proofs.LogNumbers.{few_numbers}
use Rattle.commands.proofs.LaneFiles.{lane_none, lane_made_lem, lane_refused, handed_refusal}
use Rattle.commands.proofs.lane_log.put_lane.Goals as goal

pub returns-then-not-has : goal.returns-then-not-has
returns-then-not-has c = let both = lane_none _ _ _ _ _ c.get-present.ensures c.has.ensures (ap not c.if-not-has.true) in record { value = both.0; bytes = both.1 }

pub slice_bounds-numbers-end : goal.slice_bounds-numbers-end
slice_bounds-numbers-end c = omega (arith, c.log_numbers-n.array_long, c.log_numbers-n.ensures.value, few_numbers (lent_row c.args.state.now c.args.lane))

pub slice_bounds-write-end : goal.slice_bounds-write-end
slice_bounds-write-end c =
    sym (length-take-le _ _ (omega (arith, c.log_numbers-n.array_long, c.log_numbers-n.ensures.value, few_numbers (lent_row c.args.state.now c.args.lane))))

pub returns-in_err-length : goal.returns-in_err-length
returns-in_err-length c =
    let w = c.in_err-length.ensures in
    let few : c.log_numbers-n.result ≤ 384 = omega (arith, c.log_numbers-n.ensures.value, few_numbers (lent_row c.args.state.now c.args.lane)) in
    let both = lane_refused c.args.state.now _ _ _ _ _ _ _ _ _ _ c.requires refl few c.get-present.ensures c.has.ensures (ap not c.if-not-has.false)
    (lent_is c.args.state.now c.args.lane) (c.log_numbers-n.ensures.value, c.log_numbers-n.ensures.numbers) (w.refusal, never_0 _, w.bytes) in
    record { value = handed_refusal _ _ c.from_residual.ensures.1 ∙ both.0; bytes = both.1 }

pub returns : goal.returns
returns c =
    let w = c.in_ok-length.ensures in
    let few : c.log_numbers-n.result ≤ 384 = omega (arith, c.log_numbers-n.ensures.value, few_numbers (lent_row c.args.state.now c.args.lane)) in
    let both = lane_made_lem c.args.state.now _ _ _ _ _ _ _ _ _ _ c.requires refl few c.get-present.ensures c.has.ensures (ap not c.if-not-has.false)
    (lent_is c.args.state.now c.args.lane) (c.log_numbers-n.ensures.value, c.log_numbers-n.ensures.numbers) (w.refusal, w.length, w.bytes) in
    record { value = both.0; bytes = both.1 }
