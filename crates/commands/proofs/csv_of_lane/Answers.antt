use native.Mathlib.Omega.{arith}
use mathlib.Core.Path.{refl, sym, ap, ◌∙◌}
use Rattle.lines.specs.Judged.{Judged}
use Rattle.refusal.proofs.Refused.{never_0}
use Rattle.commands.proofs.LaneFiles.{made_bad, made_4, made_6, made_lane, handed_line, handed_lane}
use Rattle.commands.proofs.csv_of_lane.Goals as goal

pub returns-in_err-judge : goal.returns-in_err-judge
returns-in_err-judge c =
    let made = made_bad c.args.script.now c.args.buffer.now c.args.lane _ c.in_err-judge.ensures (never_0 _) in
    record { value = handed_line _ _ c.from_residual.ensures.1 ∙ made.0; bytes = made.1 }

pub returns-then-lane-from : goal.returns-then-lane-from
returns-then-lane-from c =
    let made = made_4 c.args.script.now c.args.buffer.now c.args.lane _ c.in_ok-judge.ensures refl (omega arith) in
    record { value = rw c.from-then-lane-from.ensures made.0; bytes = made.1 }

pub returns-then-buffer-ne-BUFFER : goal.returns-then-buffer-ne-BUFFER
returns-then-buffer-ne-BUFFER c =
    let made = made_6 c.args.script.now c.args.buffer.now c.args.lane _ c.in_ok-judge.ensures refl (omega arith) c.if-buffer-ne-BUFFER.true in
    record { value = rw c.from-then-buffer-ne-BUFFER.ensures made.0; bytes = made.1 }

pub returns-in_err-length : goal.returns-in_err-length
returns-in_err-length c =
    let both = made_lane _ _ _ c.args.lane _ _ _ c.in_ok-judge.ensures refl (omega arith) c.if-buffer-ne-BUFFER.false c.run.ensures (c.in_err-length.ensures.value, c.in_err-length.ensures.bytes) in
    record { value = handed_lane _ _ c.from_residual-in_err-length.ensures.1 ∙ both.0; bytes = both.1 }

pub returns : goal.returns
returns c =
    let both = made_lane _ _ _ c.args.lane _ _ _ c.in_ok-judge.ensures refl (omega arith) c.if-buffer-ne-BUFFER.false c.run.ensures (c.in_ok-length.ensures.value, c.in_ok-length.ensures.bytes) in
    record { value = both.0; bytes = both.1 }

pub run-requires : goal.run-requires
run-requires c = sym (ap (λ (j : Judged). j.number) c.in_ok-judge.ensures)

pub put_lane-requires : goal.put_lane-requires
put_lane-requires c = omega arith
