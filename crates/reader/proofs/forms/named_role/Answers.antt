use Rattle.reader.proofs.FormsLaws.{role_yes, role_no}
use Rattle.reader.proofs.forms.named_role.Goals as goal

pub returns-then-r : goal.returns-then-r
returns-then-r c = role_yes _ _ _ _ _ _ c.read_text-r.ensures c.if-r.true (rw c.if-r.true)

pub returns-else-r : goal.returns-else-r
returns-else-r c = role_no _ _ _ _ _ _ c.read_text-r.ensures c.if-r.false c.fail.ensures
