use mathlib.Core.Path.{ap, ◌∙◌}
use Rattle.scan.specs.Scan.{read_text, read_number}
use Rattle.lines.specs.Forms.{read_role, read_post}
use Rattle.reader.proofs.forms.read_post.Goals as goal

pub returns : goal.returns
unfolding read_post
returns c =
    c.read_text.ensures ∙ ap (read_text _ _) (c.read_role-n.ensures ∙ ap (read_role _) (c.read_text-n-2.ensures ∙ ap (read_text _ _)
    (c.read_number-n.ensures ∙ ap (read_number _) (c.read_text-n.ensures ∙ ap (read_text _ _) c.start_at.ensures))))
