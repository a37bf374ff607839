use Rattle.state.specs.Making.{FreshBelow, SameFront}
use Rattle.state.proofs.making.Roles.lay_rows.Given as goal

abbrev pub invariant-loop-lane : goal.invariant-loop-lane
invariant-loop-lane l = FreshBelow l.state l.self.present l.self.sources l.self.dests l.lane × SameFront l.initial.state l.state
