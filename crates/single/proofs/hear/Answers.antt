use native.Mathlib.Omega.{arith}
use Rattle.frame.specs.Types.{AreBytes}
use mathlib.Core.Path.{◌≡◌, refl, ◌∙◌}
use Rattle.air.specs.Air.{frames_with}
use Rattle.steps.specs.Outcomes.{frame_or_none}
use Rattle.single.proofs.hear.Goals.{in-Some+in_ok-write, in_default}
use Rattle.refusal.proofs.Refused.{never_0}
use Rattle.single.proofs.Chains.{takes}
use Rattle.single.proofs.HearWays.{passed_good, Reads, Takes, hear_refused, hear_short, hear_unread, reads, hear_bad, hear_decides, hear_takes, hear_done, broadcast, no_broadcast}
use Rattle.single.proofs.hear.Goals as goal

pub returns-in_err-check_length : goal.returns-in_err-check_length
returns-in_err-check_length c =
    let r = hear_refused c.args.p c.args.bytes.now c.args.buffer.now c.from_residual.result _ c.from_residual.ensures.1
    (hear_short c.args.p _ _ _ c.in_err-check_length.ensures) in
    record { value = r.value; buffer = r.buffer; number = r.number; count = r.count }

pub returns-in_err-f : goal.returns-in_err-f
returns-in_err-f c =
    let r = hear_refused c.args.p c.args.bytes.now c.args.buffer.now c.from_residual-in_err-f.result _ c.from_residual-in_err-f.ensures.1
    (hear_unread c.args.p _ _ _ c.in_ok-check_length.ensures c.in_err-f.ensures.value) in
    record { value = r.value; buffer = r.buffer; number = r.number; count = r.count }

pub returns-in_err-put_judged : goal.returns-in_err-put_judged
returns-in_err-put_judged c =
    let r = hear_refused c.args.p c.args.bytes.now c.args.buffer.now c.from_residual-in_err-put_judged.result _ c.from_residual-in_err-put_judged.ensures.1
    (hear_bad c.args.p _ _ _ _ c.in_ok-check_length.ensures (reads _ _ c.in_ok-f.ensures.value) c.in_err-put_judged.ensures.number) in
    record { value = r.value; buffer = r.buffer; number = r.number; count = r.count }

pub returns-in_err-hearing : goal.returns-in_err-hearing
returns-in_err-hearing c =
    let r = hear_refused c.args.p c.args.bytes.now c.args.buffer.now c.from_residual-in_err-hearing.result _ c.from_residual-in_err-hearing.ensures.1
    (hear_decides c.args.p _ _ _ _ _ c.in_ok-check_length.ensures (reads _ _ c.in_ok-f.ensures.value) (c.in_ok-put_judged.ensures.row refl) c.in_err-hearing.ensures.number) in
    record { value = r.value; buffer = r.buffer; number = r.number; count = r.count }

pub returns-in_err-write : goal.returns-in_err-write
returns-in_err-write c =
    let are : AreBytes c.args.bytes.now = λ i. (c.type_inv.bytes i).fits in
    let j = (c.in_ok-put_judged.ensures.row refl) in
    let d = c.in_ok-hearing.field-0 in
    let read : Reads c.args.bytes.now c.in_ok-f.f = reads c.args.bytes.now c.in_ok-f.f c.in_ok-f.ensures.value in
    let s : Takes c.args.p c.args.bytes.now c.hear.new.row d
    = hear_takes c.args.p c.args.bytes.now c.put_judged.new.row c.hear.new.row c.in_ok-f.f d are read j c.in_ok-hearing.ensures.number c.in_ok-hearing.ensures.frame_after
    in
    let good = passed_good c.args.p c.args.bytes.now c.put_judged.new.row c.hear.new.row c.in_ok-f.f c.in-Some.passed_on d read j s c.in_ok-hearing.ensures.broadcast c.in-Some.is in
    absurd (never_0 _ (c.in_err-write.ensures.number ∙ takes c.args.buffer.now _ c.in_ok-check_length.ensures good))

pub returns : goal.returns
returns c =
    let are : AreBytes c.args.bytes.now = λ i. (c.type_inv.bytes i).fits in
    let j = (c.in_ok-put_judged.ensures.row refl) in
    let d = c.in_ok-hearing.field-0 in
    let read : Reads c.args.bytes.now c.in_ok-f.f = reads c.args.bytes.now c.in_ok-f.f c.in_ok-f.ensures.value in
    let s : Takes c.args.p c.args.bytes.now c.hear.new.row d
    = hear_takes c.args.p c.args.bytes.now c.put_judged.new.row c.hear.new.row c.in_ok-f.f d are read j c.in_ok-hearing.ensures.number c.in_ok-hearing.ensures.frame_after
    in
    let written : c.match-frame.buffer ≡ frames_with c.args.buffer.now 0 (frame_or_none d.frame)
    = elim c.match-frame.branch [
      | in-Some+in_ok-write w ↦ w.buffer-is ∙ broadcast _ _ _ _ w.in-Some.is w.write.ensures.bytes
      | in_default w ↦ w.buffer-is ∙ no_broadcast _ _ w.in_default.is
    ]
    in
    let r = hear_done c.args.p c.args.bytes.now c.args.buffer.now c.put_judged.new.row c.hear.new.row c.in_ok-f.f d c.store-post.result c.match-frame.buffer
    c.in_ok-check_length.ensures read j s (omega (arith, j.whole, c.hear.auto.row)) written c.store-post.ensures in
    record { value = r.value; buffer = r.buffer; number = r.number; count = r.count }
