use native.Mathlib.Omega.{arith}
use mathlib.Core.Path.{refl, sym}
use lib.Seq.{length-take-le}
use Rattle.std.proofs.Common.{rules}
use Rattle.refusal.proofs.Refused.{never_0}
use Rattle.commands.proofs.FilesSaid.{said_bad, said_few, said_good}
use Rattle.commands.proofs.said.put_said.Goals.{in-Ok, in-Err}
use Rattle.commands.proofs.said.put_said.Goals as goal

pub slice_bounds-numbers-end : goal.slice_bounds-numbers-end
slice_bounds-numbers-end c = omega (arith, c.read.array_long, said_few c.args.file.now _ c.in-Ok.ensures.value)

pub slice_bounds-put_threes-end : goal.slice_bounds-put_threes-end
slice_bounds-put_threes-end c = sym (length-take-le _ _ (omega (arith, c.read.array_long, said_few c.args.file.now _ c.in-Ok.ensures.value)))

pub returns : goal.returns
returns c = elim c.match-read.branch [
  | in-Ok w ↦ search (rules, w.said-is, said_good _ _ _ _ c.args.file.now _ _ _ refl w.in-Ok.ensures.value w.in-Ok.ensures.numbers (rw c.new-said.ensures.held at w.put_text.ensures.1) w.put_threes.ensures.1 w.put_text-in-Ok.ensures.1)
  | in-Err w ↦ search (rules, w.said-is, said_bad _ _ _ _ _ w.in-Err.ensures.value (never_0 _) (rw (w.from.ensures, c.new-said.ensures.held) at w.put_bad.ensures.1))
]
