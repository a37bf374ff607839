use Rattle.state.proofs.FreshWays.{row_fresh}
use Rattle.state.proofs.making.Roles.lay_row.Goals as goal

pub returns-clause-row_after : goal.returns-clause-row_after
returns-clause-row_after c = (row_fresh c.args.row.now _ c.args.lane _ _ _ c.requires (c.fill.ensures.after (λ y h. h))).0

pub returns-clause-known : goal.returns-clause-known
returns-clause-known c = (row_fresh c.args.row.now _ c.args.lane _ _ _ c.requires (c.fill.ensures.after (λ y h. h))).1
