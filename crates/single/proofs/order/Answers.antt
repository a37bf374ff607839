use native.Mathlib.Omega.{arith}
use mathlib.Core.Path.{refl, ◌∙◌}
use Rattle.refusal.proofs.Refused.{never_0}
use Rattle.single.specs.Single.{order_refusal_singly}
use Rattle.single.proofs.OrderWays.{order_refused, order_sends, order_done}
use Rattle.single.proofs.Chains.{short, bad, good, takes}
use Rattle.single.proofs.order.Goals as goal

pub returns-in_err-check_length : goal.returns-in_err-check_length
unfolding order_refusal_singly
returns-in_err-check_length c =
    let r = order_refused c.args.p c.args.word c.args.buffer.now c.from_residual.result _ c.from_residual.ensures.1 (short c.args.p _ _ _ c.in_err-check_length.ensures) in
    record { value = r.value; buffer = r.buffer; number = r.number; serial = r.serial; stamp = r.stamp; count = r.count }

pub returns-in_err-put_judged : goal.returns-in_err-put_judged
unfolding order_refusal_singly
returns-in_err-put_judged c =
    let r = order_refused c.args.p c.args.word c.args.buffer.now c.from_residual-in_err-put_judged.result _ c.from_residual-in_err-put_judged.ensures.1
    (bad c.args.p _ _ _ c.in_ok-check_length.ensures c.in_err-put_judged.ensures.number) in
    record { value = r.value; buffer = r.buffer; number = r.number; serial = r.serial; stamp = r.stamp; count = r.count }

pub returns-in_err-sent : goal.returns-in_err-sent
unfolding order_refusal_singly
returns-in_err-sent c =
    let j = (c.in_ok-put_judged.ensures.row refl) in
    let r = order_refused c.args.p c.args.word c.args.buffer.now c.from_residual-in_err-sent.result _ c.from_residual-in_err-sent.ensures.1
    (good c.args.p _ _ _ c.in_ok-check_length.ensures j.good (rw j.post at c.in_err-sent.ensures.number)) in
    record { value = r.value; buffer = r.buffer; number = r.number; serial = r.serial; stamp = r.stamp; count = r.count }

pub returns-in_err-write : goal.returns-in_err-write
returns-in_err-write c =
    let s = order_sends c.args.p c.args.word _ c.order.new.row _ (omega (arith, c.well_formed.1)) (c.in_ok-put_judged.ensures.row refl) c.in_ok-sent.ensures.number c.in_ok-sent.ensures.frame_after in
    absurd (never_0 _ (c.in_err-write.ensures.number ∙ takes c.args.buffer.now _ c.in_ok-check_length.ensures s.frame))

pub returns : goal.returns
returns c =
    let j = (c.in_ok-put_judged.ensures.row refl) in
    let s = order_sends c.args.p c.args.word _ c.order.new.row _ (omega (arith, c.well_formed.1)) j c.in_ok-sent.ensures.number c.in_ok-sent.ensures.frame_after in
    let r = order_done c.args.p c.args.word c.args.buffer.now _ c.order.new.row _ _ _ c.in_ok-check_length.ensures j s (omega (arith, j.whole, c.order.auto.row)) c.write.ensures.bytes c.store-post.ensures in
    record { value = r.value; buffer = r.buffer; number = r.number; serial = r.serial; stamp = r.stamp; count = r.count }
