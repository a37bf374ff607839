use Prim.Native.Nat.{◌-◌}
use Rattle.scan.proofs.NumberLaws.{Reading}
use Rattle.scan.proofs.more_digits.Given as goal

abbrev pub invariant-loop : goal.invariant-loop
invariant-loop l = Reading l.s l.fn.c (4 - l.counter) l.n
