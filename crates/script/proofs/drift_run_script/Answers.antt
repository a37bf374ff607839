use Rattle.script.proofs.ScriptWays.{passed, passed_good, other_length, good_printed, bad_printed}
use native.Mathlib.Omega.{arith}
use Rattle.std.proofs.Common.{rules}
use Rattle.refusal.proofs.Refused.{never_0}
use Rattle.script.proofs.drift_run_script.Goals as goal

pub returns-then-output-ne-OUTPUT : goal.returns-then-output-ne-OUTPUT
returns-then-output-ne-OUTPUT c =
    let both = other_length c.args.script.now c.args.air.now c.args.output.now (λ e. omega (arith, c.if-output-ne-OUTPUT.true)) in
    record { value = both.0; printed = both.1.0; bytes = both.1.1 }

pub returns-in-Err : goal.returns-in-Err
returns-in-Err c =
    let both = bad_printed _ _ _ _ _ _ (omega (arith, c.if-output-ne-OUTPUT.false)) c.in-Err.ensures (never_0 _) (search (rules, rw (c.from.ensures, c.new-printed.ensures.held) at c.put_bad.ensures.1)) in
    record { value = both.0; printed = both.1.0; bytes = both.1.1 }

pub print_good-requires : goal.print_good-requires
print_good-requires c = passed_good _ _ _ c.judge.ensures c.in_default.is

pub returns : goal.returns
returns c =
    let both = good_printed _ _ _ _ _ _ _ (omega (arith, c.if-output-ne-OUTPUT.false)) c.judge.ensures (passed _ _ c.in_default.is) c.print_good.ensures.result_after c.print_good.ensures.bytes in
    record { value = both.0; printed = both.1.0; bytes = both.1.1 }
