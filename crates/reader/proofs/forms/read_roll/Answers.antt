use mathlib.Core.Path.{ap, ◌∙◌}
use Rattle.scan.specs.Scan.{read_text}
use Rattle.reader.proofs.forms.read_roll.Goals as goal

pub returns : goal.returns
returns c = c.read_text.ensures ∙ ap (read_text _ _) c.start_at.ensures
