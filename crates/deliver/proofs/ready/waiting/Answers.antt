use Rattle.std.proofs.Common.{ℕ, refl, ap, ◌∙◌, min}
use Rattle.deliver.proofs.RowWays.{waits}
use Rattle.deliver.proofs.ready.waiting.Goals as goal

pub returns : goal.returns
returns c =
    let w = waits c.args.row.now c.args.lane c.known_at.result.0 c.min.result c.get.result _ _ c.told-row c.known_at.ensures (c.min.ensures ∙ ap (λ (n : ℕ). min n 16) c.last_of.ensures) c.get.ensures.lookup.0 refl c.unwrap_or.ensures in
    record { stamps = w.0; count = w.1 }
