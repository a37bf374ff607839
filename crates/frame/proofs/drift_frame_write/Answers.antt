use mathlib.Core.Path.{◌∙◌, ap}
use Rattle.frame.specs.Fields.{frame_from}
use Rattle.frame.proofs.FieldLaws.{fields_write_short, fields_write_judged}
use Rattle.frame.proofs.drift_frame_write.Goals as goal

pub returns-in_default : goal.returns-in_default
returns-in_default c =
    let both = fields_write_short c.args.fields.now c.args.buffer.now c.in_default.ensures.cases in
    record { number = c.from.ensures ∙ both.0; bytes = both.1 }

pub returns : goal.returns
returns c =
    let whole = c.in-Some.ensures.cases in
    let both = fields_write_judged c.args.fields.now _ _ _ _ whole.long (c.frame_from.ensures ∙ ap frame_from whole.same) c.write.ensures.number c.write.ensures.bytes in
    record { number = c.number_of.ensures ∙ both.0; bytes = both.1 }
