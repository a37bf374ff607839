use native.Mathlib.Omega.{arith}
use mathlib.Core.Logic.{inl, inr}
use Rattle.scan.proofs.NumberLaws.{reading_start, reading_small, reading_next, reading_end}
use Rattle.scan.proofs.more_digits.Goals as goal

pub loop-init : goal.loop-init
loop-init c = reading_start _ _ c.requires.ok c.requires.above c.requires.below

pub overflow_mul-n : goal.overflow_mul-n
overflow_mul-n c = omega (arith, reading_small _ _ _ _ c.loop.invariant c.loop-test.true)

pub overflow_add-n-in-loop : goal.overflow_add-n-in-loop
overflow_add-n-in-loop c = omega (arith, reading_small _ _ _ _ c.loop.invariant c.loop-test.true)

pub loop-preserved : goal.loop-preserved
loop-preserved c = reading_next _ _ _ _ _ c.loop.invariant c.loop-test.true c.in-Some.ensures.value c.in-Some.ensures.within.1

pub returns-after-loop : goal.returns-after-loop
returns-after-loop c = reading_end _ _ _ _ c.loop.invariant (inl (omega arith))

pub returns-in_default : goal.returns-in_default
returns-in_default c = reading_end _ _ _ _ c.loop.invariant (inr c.in_default.ensures.value)
