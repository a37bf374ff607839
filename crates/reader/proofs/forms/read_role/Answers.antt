use mathlib.Core.Path.{sym, ◌∙◌}
use native.Mathlib.Omega.{arith}
use Rattle.reader.proofs.LetterLaws.{role_source, role_dest, role_both, role_relay, role_none}
use Rattle.reader.proofs.forms.read_role.Goals as goal

pub returns-in-115 : goal.returns-in-115
returns-in-115 c = role_source _ _ _ (sym c.byte_at.ensures ∙ c.in-115.is) c.named_role.ensures

pub returns-in-100 : goal.returns-in-100
returns-in-100 c = role_dest _ _ _ (sym c.byte_at.ensures ∙ c.in-100.is) c.named_role-in-100.ensures

pub returns-in-98 : goal.returns-in-98
returns-in-98 c = role_both _ _ _ (sym c.byte_at.ensures ∙ c.in-98.is) c.named_role-in-98.ensures

pub returns-in-114 : goal.returns-in-114
returns-in-114 c = role_relay _ _ _ (sym c.byte_at.ensures ∙ c.in-114.is) c.named_role-in-114.ensures

pub returns-in_default : goal.returns-in_default
returns-in_default c = role_none _ _ _ (λ z. omega arith) (λ z. omega arith) (λ z. omega arith) (λ z. omega arith) c.fail.ensures
