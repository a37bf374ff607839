use lib.ListN.{get_or, take, length-take}
use mathlib.Core.Path.{◌≡◌}
use native.Mathlib.Omega.{arith}
use Rattle.std.proofs.lemmas.List.{get_or-take}
use Rattle.deliver.proofs.Turns.{marks_more}
use Rattle.judge.proofs.Laws.{used_more, known_next}
use Rattle.judge.proofs.log.bad_used.Goals as goal

pub loop-place-preserved : goal.loop-place-preserved
loop-place-preserved c =
    let k = c.loop-place.place-index in
    let place : get_or (take c.args.n c.args.log.now) k 0 ≡ get_or c.args.log.now k 0 = get_or-take c.args.n c.args.log.now k 0 (omega (arith, length-take c.args.n c.args.log.now)) in
    let b = c.bad_place-bad.ensures in (
      known_next c.args.known.now c.args.log.now c.loop-place.known c.bad_place-bad.new.known k c.loop-place.invariant.0 (rw place at b.known),
      marks_more c.args.log.now k c.loop-place.marks c.bad_place-bad.new.marks _ c.loop-place.invariant.1 place b.marks,
      used_more c.args.last.now c.args.log.now k c.loop-place.bad c.bad_place-bad.result c.loop-place.marks c.loop-place.invariant.2 c.loop-place.invariant.1 (rw place at b.value),
    )
