use Prim.Native.Nat.{ℕ, ◌+◌, ◌*◌}
use borrow.Author.Rules.{rules}
use Rattle.frame.specs.Layout.{entry_at, frame_of, no_entry}
use Rattle.frame.proofs.Lanes.{made}
use Rattle.frame.proofs.Laws.{same_frame}
use Rattle.frame.proofs.layout.frame_of.Goals as goal

pub returns : goal.returns
unfolding frame_of
returns c =
    let bytes = c.args.bytes.now in
    let entries = made _ (λ (lane : ℕ). entry_at bytes (8 + 3 * lane)) _ c.from_fn.result 8 no_entry (λ j y q k. search rules) c.from_fn.ensures.items in
    same_frame c.pair_at.ensures c.pair_at-2.ensures entries
