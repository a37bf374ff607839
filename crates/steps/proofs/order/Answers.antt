use native.Mathlib.Omega.{arith}
use Prim.Native.Nat.{◌≤◌}
use lib.ListN.{length}
use mathlib.Core.Path.{refl, ◌∙◌}
use Rattle.std.proofs.lemmas.Result.{err_from_is_err_and}
use Rattle.steps.proofs.Ways.{can_send, orders_are, order_stays}
use Rattle.steps.proofs.order.Goals as goal

pub returns-in_err-check : goal.returns-in_err-check
returns-in_err-check c =
    let r = err_from_is_err_and c.from_residual.result c.from_residual.ensures.1 in
    let done = order_stays c.args.row.now c.args.word c.from_residual.result r.0 r.1 (rw r.2 c.in_err-check.ensures) in record {
      frame_after = done.0;
      past = refl;
      number = rw (r.1, r.2) c.in_err-check.ensures;
      serial = done.1.1.0;
      stamp = done.1.1.1.0;
      count = done.1.1.1.1;
    }

pub send-frame-requires : goal.send-frame-requires
send-frame-requires c = can_send c.args.row.now c.in_ok-check.ensures

pub returns : goal.returns
returns c =
    let whole : 543 ≤ length c.send-frame.new.row = omega (arith, (can_send c.args.row.now c.in_ok-check.ensures).0) in
    let done = orders_are c.args.row.now c.send-frame.new.row c.deliver-count.new.row c.args.word c.deliver-count.result c.send-frame.result
    c.in_ok-check.ensures c.send-frame.ensures.value c.send-frame.ensures.post c.send-frame.ensures.known whole c.deliver-count.ensures.fact in record {
      frame_after = done.0;
      past = c.deliver-count.ensures.past ∙ c.send-frame.ensures.past;
      number = c.in_ok-check.ensures;
      serial = done.1.1.0;
      stamp = done.1.1.1.0;
      count = done.1.1.1.1;
    }
