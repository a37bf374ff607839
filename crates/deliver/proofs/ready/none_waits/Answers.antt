use Rattle.std.proofs.Common.{◌≡◌, ◌-◌, refl, arith, rules, take, drop, length-append}
use Rattle.std.specs.Slice.Iter.{iter_rest}
use Rattle.std.specs.Iterator.Adapters.{zip_first, zip_second}
use Rattle.std.proofs.lemmas.Slice.Zip.{zip_turn}
use Rattle.deliver.specs.Delivery.{all_below}
use Rattle.deliver.proofs.RowWays.{same_more, known_length}
use Rattle.deliver.proofs.ready.none_waits.Goals as goal

pub loop-known-init : goal.loop-known-init
unfolding all_below
loop-known-init c = refl

pub loop-known-preserved : goal.loop-known-preserved
loop-known-preserved c =
    let first : iter_rest (zip_first c.into_iter-known-iterator.result) ≡ take (22 - 14) (drop 14 c.args.row.now) = search rules in
    let second : iter_rest (zip_second c.into_iter-known-iterator.result) ≡ take (14 - 6) (drop 6 c.args.row.now) = search rules in
    let z = zip_turn (take (22 - 14) (drop 14 c.args.row.now)) (take (14 - 6) (drop 6 c.args.row.now)) c.loop-known.yielded c.into_iter-known-iterator.result c.loop-known.known-iterator c.next.new.self c.next.result first second c.loop-known.yielded_by (c.in-Some.known, c.in-Some.last) c.in-Some.is c.next.ensures.steps in
    same_more _ _ _ _ _ _ (length-append c.loop-known.yielded _) (omega (arith, z.0, known_length c.args.row.now)) (z.2 0) (z.3 0) c.loop-known.invariant
