use Rattle.roll.proofs.Ways.{call_12, call_13, call_27, call_runs}
use Rattle.roll.proofs.call.Goals as goal

pub returns-in_default : goal.returns-in_default
returns-in_default c = let both = call_12 _ _ c.in_default.ensures.cases in record { air_after = both.0; number = both.1.0; count = both.1.1 }

pub returns-then-air-ne-LENGTH : goal.returns-then-air-ne-LENGTH
returns-then-air-ne-LENGTH c =
    let at = c.in-Some.ensures.cases in
    let both = call_13 c.args.state.now c.args.air.now at.long c.if-air-ne-LENGTH.true in
    record { air_after = rw at.same both.0; number = both.1.0; count = both.1.1 }

pub returns-then-source_spent : goal.returns-then-source_spent
returns-then-source_spent c =
    let at = c.in-Some.ensures.cases in
    let both = call_27 c.args.state.now c.args.air.now _ at.long c.if-air-ne-LENGTH.false (rw at.same at c.source_spent.ensures) c.if-source_spent.true in
    record { air_after = rw at.same both.0; number = both.1.0; count = both.1.1 }

pub returns : goal.returns
returns c =
    let at = c.in-Some.ensures.cases in
    let both = call_runs c.args.state.now c.args.air.now _ at.long c.if-air-ne-LENGTH.false (rw at.same at c.source_spent.ensures) _ _ _ c.if-source_spent.false (rw at.same at c.run_steps.ensures) in
    record { air_after = both.0; number = both.1.0; count = both.1.1 }
