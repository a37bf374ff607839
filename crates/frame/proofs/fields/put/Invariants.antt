use mathlib.Core.Path.{◌≡◌}
use lib.ListN.{length}
use Rattle.frame.proofs.FieldLaws.{fields_put_below}
use Rattle.frame.proofs.fields.put.Given as goal

abbrev pub invariant-loop-lane : goal.invariant-loop-lane
invariant-loop-lane l = (length l.fields ≡ 22) × (l.fields ≡ fields_put_below l.fn.f l.initial.fields l.lane)
