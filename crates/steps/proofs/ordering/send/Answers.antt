use Rattle.row.specs.declared.Numbers.{Numbers}
use mathlib.Core.Path.{◌∙◌, ap}
use Rattle.row.specs.Rows.{post_in}
use Rattle.row.proofs.Laws.{tick_post, tick_known, tick_past}
use Rattle.newest.proofs.RowWays.{entries_whole}
use Rattle.steps.proofs.Ways.{sends}
use native.Mathlib.Omega.{arith}
use Rattle.steps.proofs.ordering.send.Goals as goal

pub overflow_cast-lane : goal.overflow_cast-lane
overflow_cast-lane c = record { fits = omega (arith, ap (λ (h : Numbers). h.lane) c.read_numbers-numbers.ensures, c.requires) }

pub overflow_add-serial : goal.overflow_add-serial
overflow_add-serial c = record { fits = omega (arith, ap (λ (h : Numbers). h.serial.0) c.read_numbers-numbers.ensures, c.requires) }

pub overflow_cast-serial : goal.overflow_cast-serial
overflow_cast-serial c = record { fits = omega (arith, ap (λ (h : Numbers). h.serial.0) c.read_numbers-numbers.ensures, c.requires) }

pub overflow_add-stamp : goal.overflow_add-stamp
overflow_add-stamp c = record { fits = omega (arith, ap (λ (h : Numbers). h.clock.0) c.read_numbers-numbers.ensures, c.requires) }

pub returns : goal.returns
returns c = let h = sends (post_in c.args.row.now) (post_in c.tick.new.row) (post_in c.keep.new.row) c.args.word _ _ _ _ (ap (λ (h : Numbers). h.lane) c.read_numbers-numbers.ensures) (ap (λ (h : Numbers). h.serial.0) c.read_numbers-numbers.ensures) (ap (λ (h : Numbers). h.clock.0) c.read_numbers-numbers.ensures) (tick_post _ _ _ _ c.requires.0 c.tick.ensures) c.keep.ensures.row_after (c.newest_entries.ensures ∙ entries_whole c.keep.new.row (omega (arith, c.requires.0))) in record { value = h.0; post = h.1; known = c.keep.ensures.known ∙ tick_known _ _ _ _ c.tick.ensures; past = c.keep.ensures.past ∙ tick_past _ _ _ _ c.tick.ensures }
