use Rattle.std.proofs.Common.{arith, ◌+◌, get_or}
use Rattle.row.specs.Rows.{known_in}
use Rattle.deliver.proofs.Waiting.{ready_first, ready_more, ready_rest}
use Rattle.deliver.proofs.RowWays.{waiting_at}
use Rattle.deliver.proofs.ready.ready_in.Goals as goal

pub loop-stamp-init : goal.loop-stamp-init
loop-stamp-init c = ready_first _ _ _ _ _ _ (omega arith)

pub loop-stamp-preserved : goal.loop-stamp-preserved
loop-stamp-preserved c =
    let w = c.waiting-stamp-items.ensures in
    ready_more _ _ _ _ _ (get_or (known_in c.args.row.now) c.args.lane 0 + c.loop-stamp.stamp-index) _ _ _ _ (omega arith) (omega arith) (omega (arith, w.count)) c.loop-stamp.invariant (waiting_at _ _ _ _ _ _ w.stamps (omega (arith, w.count)) (omega arith)) c.up_to-ready.ensures

pub returns : goal.returns
returns c = ready_rest _ _ _ _ _ _ _ (omega (arith, c.waiting-stamp-items.ensures.count)) c.loop-stamp.invariant
