use mathlib.Core.Path.{◌≡◌, ◌∙◌}
use native.Mathlib.Omega.{arith}
use borrow.Author.Tests.{lt-ltb, le-ltb}
use Rattle.std.proofs.lemmas.Grind.{common_steps}
use Rattle.std.proofs.lemmas.Result.{IfOk-from_err}
use Rattle.refusal.proofs.Refused.{handed_on}
use Rattle.csv_log.proofs.ReadLaws.{at_field, fields_start, fields_next, fields_off, take_no, end_off, take_yes}
use Rattle.csv_log.proofs.reading.take_record.Goals as goal

pub loop-k-init : goal.loop-k-init
loop-k-init c = fields_start _ _ _ c.start_at-c.ensures

pub returns-then-not-c : goal.returns-then-not-c
unfolding at_field
returns-then-not-c c =
    let d : c.if-k-gt0.c ≡ at_field c.args.file.now c.loop-k.k c.loop-k.c = grind (arith, common_steps, lt-ltb, le-ltb) in
    let all = take_no c.args.file.now _ c.args.found.now c.args.at (fields_off _ _ _ _ _ _ c.loop-k.invariant c.loop-k-test.true d c.if-not-c.true) in
    record { value = all.0; next = tt; seen = all.1; found = all.2 }

pub loop-k-preserved : goal.loop-k-preserved
unfolding at_field
loop-k-preserved c =
    let d : c.if-k-gt0.c ≡ at_field c.args.file.now c.loop-k.k c.loop-k.c = grind (arith, common_steps, lt-ltb, le-ltb) in
    fields_next _ _ _ _ _ _ _ c.loop-k.invariant c.loop-k-test.true d c.read_field-c.ensures

pub returns-then-not-c-2 : goal.returns-then-not-c-2
returns-then-not-c-2 c =
    let off = end_off _ _ _ _ _ _ c.loop-k.invariant c.loop-k-test.false c.read_end-c.ensures c.if-not-c-2.true in
    let all = take_no c.args.file.now _ c.args.found.now c.args.at off in
    record { value = all.0; next = tt; seen = all.1; found = all.2 }

pub returns-in_err-join : goal.returns-in_err-join
returns-in_err-join c =
    let r = take_yes _ _ _ _ _ _ c.loop-k.invariant c.loop-k-test.false c.read_end-c.ensures c.if-not-c-2.false in
    let e = c.in_err-join.ensures in
    rw r.0 (record { value = handed_on _ _ c.from_residual.ensures.1 ∙ e.value; next = IfOk-from_err _ _ c.from_residual.ensures.0; seen = e.seen; found = e.found })

pub returns : goal.returns
returns c =
    let r = take_yes _ _ _ _ _ _ c.loop-k.invariant c.loop-k-test.false c.read_end-c.ensures c.if-not-c-2.false in
    let e = c.in_ok-join.ensures in
    rw r.0 (record { value = e.value; next = r.1; seen = e.seen; found = e.found })
