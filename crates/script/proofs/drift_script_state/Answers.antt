use Rattle.script.proofs.ScriptWays.{passed, passed_good, other_state, bad_told, good_told}
use Rattle.refusal.proofs.Refused.{never_0}
use Rattle.script.proofs.drift_script_state.Goals as goal

pub returns-in_default : goal.returns-in_default
returns-in_default c =
    let both = other_state c.args.script.now c.args.air.now c.args.state.now c.told.result c.in_default.ensures.cases c.told.ensures.value in
    record { value = both.0; held = both.1.0; bytes = both.1.1 }

pub returns-in-Err : goal.returns-in-Err
returns-in-Err c =
    let at = c.in-Some.ensures.cases in
    let both = bad_told c.args.script.now c.args.air.now c.args.state.now _ _ at.long c.in-Err.ensures (never_0 _) (rw c.from.ensures at c.told-in-Err.ensures.value) in
    record { value = both.0; held = rw at.same both.1.0; bytes = both.1.1 }

pub run_good-requires : goal.run_good-requires
run_good-requires c = passed_good _ _ _ c.judge.ensures c.in_default-judge.is

pub returns : goal.returns
returns c =
    let at = c.in-Some.ensures.cases in
    let both = good_told _ _ c.args.state.now _ _ _ _ at.long c.judge.ensures (passed _ _ c.in_default-judge.is) c.run_good.ensures.air_after c.run_good.ensures.answer in
    record { value = both.0; held = both.1.0; bytes = both.1.1 }
