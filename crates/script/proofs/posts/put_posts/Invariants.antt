use Prim.Native.Nat.{◌≤◌, ◌-◌}
use Rattle.text.specs.Writing.{Wrote}
use Rattle.meaning.specs.Texts.{posts_text}
use Rattle.state.specs.States.{yard_in}
use Rattle.script.proofs.posts.put_posts.Given as goal

abbrev pub invariant-loop-lane : goal.invariant-loop-lane
invariant-loop-lane l = (l.lane ≤ 8) × Wrote l.initial.output l.output (posts_text (yard_in l.state) l.lane)

abbrev pub decreases-loop-lane : goal.decreases-loop-lane
decreases-loop-lane l = 8 - l.lane
