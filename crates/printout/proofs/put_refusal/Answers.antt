use Rattle.text.specs.Bytes.{bytes}
use Rattle.text.proofs.Laws.{next}
use Rattle.printout.proofs.Laws.{labelled}
use Rattle.printout.proofs.put_refusal.Goals as goal

pub returns : goal.returns
returns c =
    (cc, next _ _ _ (labelled _ _ (bytes " ") _ c.put_labelled.ensures.1 c.put_labelled-2.ensures.1) c.put_text.ensures.1)
