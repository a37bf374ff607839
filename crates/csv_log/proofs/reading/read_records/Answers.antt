use native.Mathlib.Omega.{arith}
use mathlib.Core.Path.{refl}
use Rattle.refusal.proofs.Refused.{never_0}
use Rattle.csv_log.proofs.ReadLaws.{after_above}
use Rattle.csv_log.proofs.Finding.{finding_start, finding_next, finding_bad, finding_end}
use Rattle.csv_log.proofs.reading.read_records.Goals as goal

pub loop-at-init : goal.loop-at-init
loop-at-init c = rw c.new-seen.ensures (finding_start _ _ _)

pub loop-at-smaller : goal.loop-at-smaller
loop-at-smaller c = omega (arith, after_above c.args.file.now c.loop-at.at c.loop-at-test.true, c.in-Ok.ensures.next)

pub loop-at-preserved : goal.loop-at-preserved
loop-at-preserved c =
    let r = c.in-Ok.ensures in
    finding_next _ _ _ _ _ _ _ _ _ _ c.loop-at.invariant c.loop-at-test.true r.value refl r.next r.seen r.found

pub overflow_add-result : goal.overflow_add-result
overflow_add-result c =
    omega (arith, (finding_bad _ _ _ _ _ _ _ _ c.loop-at.invariant c.loop-at-test.true c.in-Err.ensures.value (never_0 c.in-Err.refusal) c.in-Err.ensures.seen).1)

pub returns-in-Err-clause-value : goal.returns-in-Err-clause-value
returns-in-Err-clause-value c =
    (finding_bad _ _ _ _ _ _ _ _ c.loop-at.invariant c.loop-at-test.true c.in-Err.ensures.value (never_0 c.in-Err.refusal) c.in-Err.ensures.seen).0

pub returns-clause-value : goal.returns-clause-value
returns-clause-value c = (finding_end _ _ _ _ _ _ c.loop-at.invariant c.loop-at-test.false).0

pub returns-clause-found : goal.returns-clause-found
returns-clause-found c = (finding_end _ _ _ _ _ _ c.loop-at.invariant c.loop-at-test.false).1
