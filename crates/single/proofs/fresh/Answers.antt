use mathlib.Core.Path.{refl, ◌∙◌}
use Rattle.refusal.specs.declared.Refusal.TheVariants.{NotInYard}
use Rattle.std.specs.Prelude.{Err}
use Rattle.single.proofs.FreshWays.{fresh_refused, fresh_bad, fresh_lane, fresh_made}
use Rattle.single.proofs.fresh.Goals as goal

pub returns-in_err-put_judged : goal.returns-in_err-put_judged
returns-in_err-put_judged c =
    fresh_refused _ _ _ _ c.from_residual.result _ c.from_residual.ensures.1 (fresh_bad _ _ _ _ c.new-post.result _ c.new-post.ensures c.in_err-put_judged.ensures.number)

pub returns-then-not-has : goal.returns-then-not-has
returns-then-not-has c =
    fresh_refused _ _ _ _ (Err NotInYard) NotInYard refl
    (fresh_lane _ _ _ _ c.new-post.result _ c.new-post.ensures c.in_ok-put_judged.ensures.number c.has.ensures ∙ rw c.if-not-has.true)

pub returns : goal.returns
returns c =
    fresh_made _ _ _ _ _ c.new-post.ensures
    (fresh_lane _ _ _ _ c.new-post.result _ c.new-post.ensures c.in_ok-put_judged.ensures.number c.has.ensures ∙ rw c.if-not-has.false)
