-- The posts printed from their rows, lane by lane. Assumes nothing.
use mathlib.Core.Path.{◌≡◌, refl, sym, ◌∙◌}
use mathlib.Core.Bool.{Bool, true, false, cond, not}
use mathlib.Core.List.{List, []}
use Prim.Native.Nat.{ℕ, ◌+◌, ◌<◌}
use native.Mathlib.Numerals.{add-one}
use lib.ListN.{get_or}
use borrow.Author.Tests.{not-false}
use Rattle.text.specs.Writing.{Out, wrote}
use Rattle.text.proofs.Laws.{next}
use Rattle.cells.specs.Sets.{has_lane}
use Rattle.post.specs.declared.Post.{Post}
use Rattle.row.specs.Rows.{post_in}
use Rattle.state.specs.States.{row_of, yard_in}
use Rattle.state.proofs.StateLaws.{at_yard}
use Rattle.meaning.specs.Texts.{post_text, posts_text}

not-true : (b : Bool) → not b ≡ true → b ≡ false
not-true true e = sym e
not-true false e = refl

-- a lane without a post prints nothing
pub row_none : (o : Out) (present lane : ℕ) (p : Post) (b : Bool) → b ≡ has_lane present lane → not b ≡ true
    → o ≡ wrote o (cond (has_lane present lane) (post_text lane p) [])
unfolding wrote
row_none o present lane p b e t = rw (sym e ∙ not-true b t)

-- one with a post prints its line
pub row_printed : (o q : Out) (present lane : ℕ) (p : Post) (b : Bool) → b ≡ has_lane present lane → not b ≡ false
    → q ≡ wrote o (post_text lane p) → q ≡ wrote o (cond (has_lane present lane) (post_text lane p) [])
row_printed o q present lane p b e t h = rw (sym e ∙ not-false b t) h

-- after the lines of the lanes below it
present_is : (state : List ℕ) → (yard_in state).present ≡ get_or state 0 0
unfolding yard_in
present_is state = refl

pub posts_more : (o p q : Out) (state : List ℕ) (present lane : ℕ) → lane < 8 → present ≡ get_or state 0 0 → p ≡ wrote o (posts_text (yard_in state) lane)
    → q ≡ wrote p (cond (has_lane present lane) (post_text lane (post_in (row_of state lane))) [])
    → q ≡ wrote o (posts_text (yard_in state) (lane + 1))
unfolding posts_text
posts_more o p q state present lane low e f g = rw (add-one lane, at_yard state lane low) (next o _ _ f (rw (e ∙ sym (present_is state)) at g))
