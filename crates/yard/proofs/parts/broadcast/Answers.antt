use mathlib.Core.Path.{sym, ◌∙◌}
use borrow.Author.Rules.{rules}
use Rattle.refusal.proofs.Refused.{ok_number, number_ok}
use Rattle.yard.proofs.PartWays.{has_room, one_sent, not_sent}
use Rattle.yard.proofs.parts.broadcast.Goals as goal

pub overflow_add-frames : goal.overflow_add-frames
overflow_add-frames c = let h = has_room _ _ _ _ c.requires c.write.ensures.number (ok_number _ (sym c.if-is_ok.ensures.value)) in search rules

pub returns-then-is_ok-clause-state_after : goal.returns-then-is_ok-clause-state_after
returns-then-is_ok-clause-state_after c =
    (one_sent c.args.state.now _ c.args.air.now _ _ _ _ c.get-frames.ensures c.write.ensures.number c.write.ensures.bytes (ok_number _ (sym c.if-is_ok.ensures.value)) c.put.ensures).0

pub returns-else-is_ok-clause-state_after : goal.returns-else-is_ok-clause-state_after
returns-else-is_ok-clause-state_after c =
    let h = c.if-is_ok.ensures.value in
    (not_sent c.args.state.now c.args.air.now _ _ _ _ c.get-frames.ensures c.write.ensures.number c.write.ensures.bytes (λ z. let e = h ∙ number_ok c.write.result z in absurd (cc))).0
