use Rattle.state.proofs.FreshWays.{front_fresh}
use Rattle.state.proofs.making.Roles.lay_front.Goals as goal

pub returns : goal.returns
returns c = front_fresh c.args.state.now c.fill.new.self _ _ c.told-state (c.fill.ensures.after (λ y h. h))
