use Rattle.printout.proofs.Laws.{three_wrote}
use Rattle.printout.proofs.put_three.Goals as goal

pub returns : goal.returns
returns c = (cc, three_wrote _ _ _ _ _ _ _ _ c.put_labelled.ensures.1 c.put_labelled-2.ensures.1 c.put_labelled-3.ensures.1 c.put_text.ensures.1)
