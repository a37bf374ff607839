use mathlib.Core.Path.{refl}
use Rattle.lines.specs.Forms.{read_yard}
use Rattle.reader.proofs.forms.read_yard.Goals as goal

pub returns : goal.returns
unfolding read_yard
returns c =
    rw (c.end_yard.ensures, c.read_text.ensures, c.scan_of.ensures, c.yard_posts-y.ensures) refl
