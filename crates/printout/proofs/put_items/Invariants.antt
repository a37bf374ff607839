use lib.ListN.{take}
use Rattle.row.specs.Rows.{post_in}
use Rattle.text.specs.Writing.{Wrote}
use Rattle.printout.specs.Items.{items_at}
use Rattle.printout.proofs.put_items.Given as goal

abbrev pub invariant-loop-place : goal.invariant-loop-place
invariant-loop-place l = Wrote l.initial.output l.output (items_at (post_in l.row) (take l.place-index l.place-items))
