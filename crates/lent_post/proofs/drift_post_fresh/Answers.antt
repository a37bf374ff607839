use mathlib.Core.Path.{ap}
use Rattle.lent_post.specs.Lent.{Made}
use Rattle.lent_post.proofs.Ways.{fresh_ok, fresh_err}
use Rattle.lent_post.proofs.drift_post_fresh.Goals as goal

pub returns-in-Ok : goal.returns-in-Ok
returns-in-Ok c = let e = fresh_ok c.args.p.now c.in-Ok.post _ _ _ _ c.in-Ok.ensures in (ap (λ (m : Made). m.refusal) e, ap (λ (m : Made). m.post) e)

pub returns-in-Err : goal.returns-in-Err
returns-in-Err c =
    let e = fresh_err c.args.p.now _ _ _ _ c.in-Err.refusal c.in-Err.ensures in
    rw c.from.ensures (ap (λ (m : Made). m.refusal) e, ap (λ (m : Made). m.post) e)
