use mathlib.Core.Path.{ap, ◌∙◌}
use Rattle.scan.specs.Scan.{read_text, read_number}
use Rattle.reader.proofs.forms.read_two.Goals as goal

pub returns : goal.returns
returns c =
    c.read_text.ensures ∙ ap (read_text _ _) (c.read_number-n-2.ensures ∙ ap (read_number _) (c.read_text-n-2.ensures ∙ ap (read_text _ _)
    (c.read_number-n.ensures ∙ ap (read_number _) (c.read_text-n.ensures ∙ ap (read_text _ _) c.start_at.ensures))))
