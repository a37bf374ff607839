use mathlib.Core.Path.{refl, ◌∙◌}
use Prim.Native.Nat.{◌+◌, ◌*◌}
use borrow.Author.Rules.{rules}
use borrow.Author.Tests.{tests}
use Rattle.std.specs.List.{range_with_len}
use Rattle.std.proofs.lemmas.Iterator.{YieldsList-from_range}
use Rattle.std.proofs.lemmas.Iterator.Search.{any_from_yields_List}
use Rattle.frame.specs.Lanes.{any_below}
use Rattle.frame.specs.Layout.{entry_at}
use Rattle.frame.specs.Refusals.{bad_entry}
use Rattle.frame.proofs.Lanes.{any_listed}
use Rattle.frame.proofs.Laws.{entries_in_lem}
use Rattle.frame.proofs.refusals.bad_entries_in.Goals as goal

pub returns : goal.returns
unfolding any_below
returns c =
    let bytes = c.args.bytes.now in
    let bad = λ (lane : _). bad_entry (entry_at bytes (8 + 3 * lane)) in
    any_from_yields_List bad _ _ c.any.result c.any.ensures.ran (YieldsList-from_range 0 8 8 refl refl) (λ x b q k. search (rules, tests))
    ∙ any_listed bad 0 (range_with_len 0 8) ∙ entries_in_lem bytes
