use Rattle.text.specs.Bytes.{bytes}
use Rattle.text.proofs.Laws.{next}
use Rattle.printout.proofs.Laws.{labelled}
use Rattle.printout.proofs.put_head.Goals as goal

pub returns : goal.returns
returns c =
    let clock = labelled _ _ (bytes " (clock ") _ c.put_labelled.ensures.1 c.put_labelled-2.ensures.1 in
    (cc, next _ _ _ (labelled _ _ (bytes ") (sent ") _ clock c.put_labelled-3.ensures.1) c.put_text.ensures.1)
