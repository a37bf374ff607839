use mathlib.Core.Path.{◌∙◌}
use Rattle.frame.proofs.FieldLaws.{fields_read_short, fields_read_refused, fields_read_accepted}
use Rattle.frame.proofs.Laws.{read_number}
use Rattle.refusal.proofs.Refused.{never_0}
use Rattle.frame.proofs.drift_frame_read.Goals as goal

pub returns-in_default : goal.returns-in_default
returns-in_default c =
    let both = fields_read_short c.args.bytes.now c.args.fields.now c.in_default.ensures.cases in
    record { number = c.from.ensures ∙ both.0; fields = both.1 }

pub returns-in-Err : goal.returns-in-Err
returns-in-Err c =
    let whole = c.in-Some.ensures.cases in
    let both = fields_read_refused c.args.bytes.now c.args.fields.now _ whole.long (read_number _ _ c.in-Err.ensures.value) (never_0 _) in
    record { number = c.from-in-Err.ensures ∙ both.0; fields = whole.same ∙ both.1 }

pub returns-in-Ok : goal.returns-in-Ok
returns-in-Ok c =
    let both = fields_read_accepted _ _ _ _ c.in-Some.ensures.cases.long c.in-Ok.ensures.value c.put.ensures in
    record { number = both.0; fields = both.1 }
