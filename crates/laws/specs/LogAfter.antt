-- The log after a step of one post, for `order_log`, `hear_log` and `places_rise`: document 01, "Deliver". Assumes nothing.
use Rattle.std.specs.Prelude.{◌≡◌, true, cond, List, [], ◌∷◌, ◌++◌, ℕ, ◌<◌, take}
use Rattle.frame.specs.declared.Frame.{Frame}
use Rattle.post.specs.declared.Post.{Post}
use Rattle.post.specs.Record.{is_dest, last_of}
use Rattle.post.specs.Taking.{raised_post, taken}
use Rattle.deliver.specs.Delivery.{is_taken, due_places}
use Rattle.steps.specs.Refusals.{is_next}
use Rattle.laws.specs.Lists.{Mem, Begins}

module _ {A : Type 0} where
  -- nothing stands in a list twice
  abbrev pub NoRepeat : List A → Type 0
  NoRepeat [] = Unit {0}
  NoRepeat (x ∷ l) = (Mem x l → ⊥) × NoRepeat l

-- the places of the log in turn
abbrev pub log_of : Post → List ℕ
log_of p = take p.logged p.log

-- "Ready orders join the log": those due at a destination, none elsewhere
abbrev pub joining : Post → List ℕ
joining p = cond (is_dest p p.lane) (due_places p) []

-- the post that has heard f, just before it delivers
unfoldable pub heard_post : Post → Frame → Post
heard_post p f = cond (is_next f (last_of p f.lane)) (taken p f) (raised_post p f)

-- of p before a step, q just before delivery and r after the step: the log is the old one and then what joins it, every order in it was taken,
-- and none stands there twice
pub record LogAfter (p q r : Post) : Type 0 where
  pub log : log_of r ≡ log_of p ++ joining q
  pub begins : Begins (log_of p) (log_of r)
  pub taken : (place : ℕ) → Mem place (log_of r) → (place < 128) × (is_taken r place ≡ true)
  pub once : NoRepeat (log_of r)
