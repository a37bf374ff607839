use native.Mathlib.Omega.{arith}
use Prim.Native.Nat.{◌≤◌}
use lib.ListN.{length}
use mathlib.Core.Path.{refl, sym, ◌∙◌}
use Rattle.std.proofs.lemmas.Result.{err_from_is_err_and}
use Rattle.steps.proofs.HearWays.{whole_row, can_take, hear_takes, hear_raises, hear_stays}
use Rattle.steps.proofs.hear.Goals as goal

pub returns-in_err-check : goal.returns-in_err-check
returns-in_err-check c =
    let r = err_from_is_err_and c.from_residual.result c.from_residual.ensures.1 in
    let done = hear_stays c.args.row.now c.args.f c.from_residual.result r.0 r.1 (rw r.2 c.in_err-check.ensures) in
    record { frame_after = done.0; past = refl; number = rw (r.1, r.2) c.in_err-check.ensures; count = done.1; broadcast = rw r.1 tt }

pub raise_all-requires : goal.raise_all-requires
raise_all-requires c = (whole_row c.args.row.now c.args.f (sym c.in_ok-check.ensures)).0

pub take-frame-requires : goal.take-frame-requires
take-frame-requires c =
    let whole : 543 ≤ length c.raise_all.new.row = omega (arith, (whole_row c.args.row.now c.args.f (sym c.in_ok-check.ensures)).0) in
    can_take c.args.row.now c.raise_all.new.row c.args.f _ _ c.in_ok-check.ensures c.last_taken-last.ensures c.is_next-next.ensures c.if-next.true c.raise_all.ensures.row_after whole

pub returns-then-next : goal.returns-then-next
returns-then-next c =
    let whole : 543 ≤ length c.take-frame.new.row = omega (arith, (whole_row c.args.row.now c.args.f (sym c.in_ok-check.ensures)).0) in
    let done = hear_takes c.args.row.now c.raise_all.new.row c.take-frame.new.row c.deliver-count.new.row c.args.f _ _ _ _ c.in_ok-check.ensures c.last_taken-last.ensures c.is_next-next.ensures c.if-next.true
    c.raise_all.ensures.row_after c.raise_all.ensures.known c.take-frame.ensures.value c.take-frame.ensures.post c.take-frame.ensures.known whole c.deliver-count.ensures.fact in
    record { frame_after = done.0; past = c.deliver-count.ensures.past ∙ c.take-frame.ensures.past ∙ c.raise_all.ensures.past; number = c.in_ok-check.ensures; count = done.1; broadcast = cc (c.last_taken-last.ensures, c.is_next-next.ensures, c.if-next.true) }

pub returns : goal.returns
returns c =
    let whole : 543 ≤ length c.raise_all.new.row = omega (arith, (whole_row c.args.row.now c.args.f (sym c.in_ok-check.ensures)).0) in
    let done = hear_raises c.args.row.now c.raise_all.new.row c.deliver-count-2.new.row c.args.f _ _ _ _ c.in_ok-check.ensures c.last_taken-last.ensures c.is_next-next.ensures c.if-next.false
    c.raise_all.ensures.row_after c.raise_all.ensures.known whole c.deliver-count-2.ensures.fact c.other.ensures in
    record { frame_after = done.0; past = c.deliver-count-2.ensures.past ∙ c.raise_all.ensures.past; number = c.in_ok-check.ensures; count = done.1; broadcast = cc (c.last_taken-last.ensures, c.is_next-next.ensures, c.if-next.false) }
