use mathlib.Core.Path.{◌∙◌}
use Rattle.lines.proofs.Laws.{next_whatever}
use Rattle.script.proofs.ScriptWays.{second_line, first_here, good_ran}
use Rattle.script.proofs.run_good.Goals as goal

pub run_lines-requires : goal.run_lines-requires
run_lines-requires c = second_line _ _ _ c.requires c.read_line-first_line.ensures.value (c.next_of-from.ensures ∙ next_whatever _ c.read_line-first_line.result)

pub returns : goal.returns
returns c = let both = good_ran _ _ _ _ _ _ _ _ _ c.read_line-first_line.ensures.value (c.next_of-from.ensures ∙ next_whatever _ c.read_line-first_line.result) (first_here _ _ c.args.state.now _ _ _ _ c.requires c.told-state c.read_line-first_line.ensures.value c.sets_of-s.ensures c.fresh.ensures) (c.run_lines.ensures.air_after, (c.run_lines.ensures.printed.1, c.run_lines.ensures.answer)) in record { air_after = both.0; printed = (c.run_lines.ensures.printed.0, both.1.0); answer = both.1.1 }
