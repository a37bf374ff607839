use Rattle.std.proofs.Common.{◌≡◌, ℕ, not, ◌&&◌, length, ◌∙◌, rules, tests}
use Rattle.std.proofs.lemmas.Iterator.{YieldsList-from_slice}
use Rattle.std.proofs.lemmas.Iterator.Consumers.{YieldsList-from_enumerate}
use Rattle.std.proofs.lemmas.Iterator.Search.{any_from_yields_List}
use Rattle.frame.specs.declared.Entry.{Entry}
use Rattle.cells.specs.Sets.{has_lane}
use Rattle.steps.specs.Refusals.{has_stamp}
use Rattle.steps.proofs.HearWays.{strange_of}
use Rattle.steps.proofs.listening.strange_entries.Goals as goal

pub returns : goal.returns
returns c =
    let eight : length c.args.f.entries ≡ 8 = search rules in
    let test = λ (p : ℕ × Entry). has_stamp p.1 && not (has_lane c.args.sources p.0) in
    any_from_yields_List test _ _ c.any.result c.any.ensures.ran (YieldsList-from_enumerate (YieldsList-from_slice c.args.f.entries cc) cc) (λ x b q k. search (rules, tests))
    ∙ strange_of c.args.f c.args.sources eight
