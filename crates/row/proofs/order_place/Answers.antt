use Rattle.std.proofs.Common.{sym, arith, inl, inr}
use Rattle.cells.proofs.Places.{order_place_lem, order_none}
use Rattle.row.proofs.order_place.Goals as goal

pub returns-then-serial-eq0 : goal.returns-then-serial-eq0
returns-then-serial-eq0 c = sym (order_none c.args.lane c.args.serial.0 (λ h. elim c.then-serial-eq0.either [ inl e ↦ omega arith | inr e ↦ omega arith ]))

pub returns : goal.returns
returns c = sym (order_place_lem c.args.lane c.args.serial.0 (omega arith) (omega arith))
