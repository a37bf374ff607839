use mathlib.Core.Path.{◌≡◌, ◌∙◌, ap}
use borrow.Author.Rules.{rules}
use borrow.Author.Tests.{tests}
use lib.ListN.{length}
use Rattle.std.proofs.lemmas.Iterator.{YieldsList-from_slice}
use Rattle.std.proofs.lemmas.Iterator.Search.{any_from_yields_List}
use Rattle.frame.specs.Lanes.{any_below}
use Rattle.frame.specs.Layout.{no_entry}
use Rattle.frame.specs.Refusals.{bad_entry, bad_entries}
use Rattle.frame.proofs.Lanes.{any_listed}
use Rattle.frame.proofs.refusals.bad_entries.Goals as goal

pub returns : goal.returns
unfolding bad_entries
returns c =
    let entries = c.args.f.entries in
    let eight : length entries ≡ 8 = search rules in
    any_from_yields_List bad_entry _ _ c.any.result c.any.ensures.ran (YieldsList-from_slice entries cc) (λ x b q k. search (rules, tests))
    ∙ any_listed bad_entry no_entry entries ∙ ap (any_below _) eight
