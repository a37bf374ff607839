use Rattle.row.specs.declared.Numbers.{Numbers}
use mathlib.Core.Path.{ap}
use Rattle.text.proofs.Laws.{next}
use Rattle.row.specs.Rows.{post_in}
use Rattle.meaning.specs.Texts.{post_text}
use Rattle.printout.specs.Items.{items_of}
use Rattle.printout.proofs.put_post.Goals as goal

pub returns : goal.returns
unfolding post_text
returns c =
    let p = post_in c.args.row.now in
    let read = c.read_numbers-numbers.ensures in
    (cc, rw (← ap (λ (h : Numbers). h.clock.0) read, ← ap (λ (h : Numbers). h.serial.0) read) (next _ _ _ (next _ _ (items_of p p.logged) c.put_head.ensures.1 c.put_items.ensures.1) c.put_text.ensures.1))
