use Rattle.row.specs.Rows.{post_in}
use Rattle.commands.proofs.LogNumbers.{order_put}
use Rattle.commands.proofs.lane_log.put_order.Goals as goal

pub returns : goal.returns
unfolding post_in
returns c = order_put _ _ (post_in c.args.row.now) _ _ _ c.stamp_at.ensures c.get_in.ensures
