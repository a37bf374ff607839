use lib.ListN.{take}
use Rattle.text.specs.Writing.{Wrote}
use Rattle.text.proofs.Writer.put_text.Given as goal

abbrev pub invariant-loop-x : goal.invariant-loop-x
invariant-loop-x l = Wrote l.initial.self l.self (take l.x-index l.t)
