use mathlib.Core.Path as path
use native.Mathlib.Omega.{arith}
use Rattle.state.proofs.FreshWays.{rows_more}
use Rattle.state.proofs.making.Roles.lay_rows.Goals as goal

pub loop-lane-preserved : goal.loop-lane-preserved
loop-lane-preserved c = rows_more c.args.state.now c.loop-lane.state c.lay_row.new.row _ _ _ _ c.loop-lane.lane (omega arith) (omega arith) c.lay_row.auto.row c.loop-lane.invariant c.lay_row.ensures.row_after c.lay_row.ensures.known path.refl
