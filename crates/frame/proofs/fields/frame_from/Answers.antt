use Prim.Native.Nat.{ℕ, ◌+◌, ◌*◌}
use borrow.Author.Rules.{rules}
use Rattle.frame.specs.Fields.{entry_from, frame_from}
use Rattle.frame.specs.Layout.{no_entry}
use Rattle.frame.proofs.Lanes.{made}
use Rattle.frame.proofs.fields.frame_from.Goals as goal

pub returns : goal.returns
unfolding frame_from
returns c =
    let fields = c.args.fields.now in
    let entries = made _ (λ (lane : ℕ). entry_from fields (6 + 2 * lane)) _ c.from_fn.result 8 no_entry (λ j y q k. search rules) c.from_fn.ensures.items in
    rw (c.byte_of.ensures, c.byte_of-2.ensures, c.byte_of-3.ensures, c.byte_of-4.ensures, entries)
