use borrow.Author.Rules.{rules}
use mathlib.Core.Path.{refl, sym, ◌∙◌}
use Rattle.frame.specs.Types.{Typed}
use Rattle.frame.proofs.Laws.{write_short, write_refused, write_accepted}
use Rattle.refusal.proofs.Refused.{never_0, ok_number, handed_on}
use Rattle.frame.proofs.Theorems.{reads_back}
use Rattle.frame.proofs.Values.{stamps_fit}
use Rattle.frame.proofs.Frame.write.Goals as goal

pub returns-in_default : goal.returns-in_default
returns-in_default c =
    let w = write_short c.args.buffer.now c.args.self c.in_default.ensures.cases in
    record { number = w.0; bytes = w.1; reads_back = λ z. absurd (cc) }

pub returns-in_err-check : goal.returns-in_err-check
returns-in_err-check c =
    let whole = c.in-Some.ensures.cases in
    let w = write_refused c.args.buffer.now c.args.self _ whole.long c.in_err-check.ensures (never_0 _) in
    let n = handed_on _ _ c.from_residual.ensures.1 in
    record { number = n ∙ w.0; bytes = whole.same ∙ w.1; reads_back = λ z. absurd (never_0 _ (sym n ∙ ok_number _ z)) }

pub returns : goal.returns
returns c =
    let self = c.args.self in
    let buffer = c.args.buffer.now in
    let entries = c.well_formed.0.1.1.1.1.1.1.1.1.0 in
    let fits : Typed self = record {
      stamp = search rules;
      word = search rules;
      count = entries.1.0.1;
      stamps = stamps_fit self.entries entries.0 entries.1.1;
    } in
    let w = write_accepted buffer _ _ 0 c.in-Some.ensures.cases.long c.in_ok-check.ensures refl c.put.ensures in
    record { number = w.0; bytes = w.1; reads_back = λ z. rw w.1 (reads_back _ _ fits (sym w.0)) }
