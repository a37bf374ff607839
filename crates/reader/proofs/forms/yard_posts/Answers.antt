use mathlib.Core.Path.{refl}
use Rattle.reader.proofs.forms.yard_posts.Goals as goal

pub returns : goal.returns
returns c =
    rw (c.read_posts.ensures, c.no_posts.ensures, c.read_text-c.ensures, c.start_at.ensures) refl
