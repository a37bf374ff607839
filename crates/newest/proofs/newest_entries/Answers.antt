use Rattle.std.proofs.Common.{◌≡◌, refl, ◌∙◌, arith}
use Rattle.row.specs.Rows.{part, post_in}
use Rattle.newest.proofs.NewestLaws.{entries_first, entries_more, entries_all, lane_newest}
use Rattle.newest.proofs.RowWays.{entries_short, entries_long}
use Rattle.newest.proofs.newest_entries.Goals as goal

pub returns-then-row-lt-LENGTH : goal.returns-then-row-lt-LENGTH
returns-then-row-lt-LENGTH c = entries_short _ _ (omega arith) refl

pub loop-lane-init : goal.loop-lane-init
loop-lane-init c = entries_first _ _ refl

pub loop-lane-preserved : goal.loop-lane-preserved
loop-lane-preserved c = entries_more _ _ _ _ _ c.loop-lane.invariant (c.newest_of.ensures ∙ lane_newest _ _ c.loop-lane.lane 17 (omega arith) (omega arith)) refl

pub returns : goal.returns
unfolding post_in part
returns c =
    let e : c.loop-lane.lane ≡ 8 = omega arith in
    entries_long c.args.row.now _ (omega arith) ((rw e at c.loop-lane.invariant) ∙ entries_all _)
