use mathlib.Core.Path.{◌≡◌}
use native.Mathlib.Omega.{arith}
use Rattle.judge.proofs.Laws.{all_serials}
use Rattle.judge.proofs.orders.bad_orders.Goals as goal

pub returns : goal.returns
returns c = let e : c.loop-k.k ≡ 16 = omega arith in all_serials c.args.last.now c.args.stamps.now c.args.words.now c.loop-k.bad (rw e at c.loop-k.invariant.1)
