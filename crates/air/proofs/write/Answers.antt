use native.Mathlib.Omega.{arith}
use mathlib.Core.Path.{◌≡◌, refl}
use Prim.Native.Nat.{◌+◌, ◌*◌, ◌-◌}
use native.Mathlib.Nat.{add-sub_cancel_left}
use Rattle.air.proofs.Laws.{write_no_place, write_part}
use Rattle.air.proofs.write.Goals as goal

pub returns-then-k-bytes : goal.returns-then-k-bytes
returns-then-k-bytes c = let w = write_no_place c.args.bytes.now c.args.k c.args.f (omega arith) in record { number = w.0; bytes = w.1 }

pub returns : goal.returns
returns c =
    let width : 32 * c.args.k + 32 - 32 * c.args.k ≡ 32 = add-sub_cancel_left (32 * c.args.k) 32 in
    let w = write_part c.args.bytes.now _ c.write.new.buffer c.args.k _ c.args.f (rw width refl) c.write.ensures.number c.write.ensures.bytes in
    record { number = w.0; bytes = rw width w.1 }
