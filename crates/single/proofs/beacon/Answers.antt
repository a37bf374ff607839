use mathlib.Core.Path.{refl}
use Rattle.single.specs.Single.{beacon_refusal_singly}
use Rattle.single.proofs.BeaconWays.{beacon_refused, beacon_sends, beacon_done}
use Rattle.single.proofs.Chains.{short, bad, good}
use Rattle.single.proofs.beacon.Goals as goal

pub returns-in_err-check_length : goal.returns-in_err-check_length
unfolding beacon_refusal_singly
returns-in_err-check_length c =
    let r = beacon_refused c.args.p c.args.buffer.now c.from_residual.result _ c.from_residual.ensures.1 (short c.args.p _ _ _ c.in_err-check_length.ensures) in
    record { value = r.value; buffer = r.buffer; number = r.number }

pub returns-in_err-put_judged : goal.returns-in_err-put_judged
unfolding beacon_refusal_singly
returns-in_err-put_judged c =
    let r = beacon_refused c.args.p c.args.buffer.now c.from_residual-in_err-put_judged.result _ c.from_residual-in_err-put_judged.ensures.1
    (bad c.args.p _ _ _ c.in_ok-check_length.ensures c.in_err-put_judged.ensures.number) in
    record { value = r.value; buffer = r.buffer; number = r.number }

pub returns-in_err-beacon : goal.returns-in_err-beacon
unfolding beacon_refusal_singly
returns-in_err-beacon c =
    let j = (c.in_ok-put_judged.ensures.row refl) in
    let r = beacon_refused c.args.p c.args.buffer.now c.from_residual-in_err-beacon.result _ c.from_residual-in_err-beacon.ensures.1
    (good c.args.p _ _ _ c.in_ok-check_length.ensures j.good (rw j.post at c.in_err-beacon.ensures.number)) in
    record { value = r.value; buffer = r.buffer; number = r.number }

pub returns : goal.returns
returns c =
    let j = (c.in_ok-put_judged.ensures.row refl) in
    let s = beacon_sends c.args.p _ _ j c.in_ok-beacon.ensures.number c.in_ok-beacon.ensures.value in
    let r = beacon_done c.args.p c.args.buffer.now _ _ c.write.result c.write.new.bytes c.in_ok-check_length.ensures j s c.write.ensures.number c.write.ensures.bytes in
    record { value = r.value; buffer = r.buffer; number = r.number }
