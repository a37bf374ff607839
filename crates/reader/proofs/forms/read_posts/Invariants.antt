use Prim.Native.Nat.{◌-◌}
use lib.ListN.{length}
use Rattle.reader.proofs.FormsLaws.{PostsLeft}
use Rattle.reader.proofs.forms.read_posts.Given as goal

abbrev pub invariant-loop-z : goal.invariant-loop-z
invariant-loop-z l = PostsLeft l.s l.initial.z l.z

abbrev pub decreases-loop-z : goal.decreases-loop-z
decreases-loop-z l = length l.s - l.z.at
