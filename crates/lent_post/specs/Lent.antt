-- A post's record lent by the host, who finds it brought up to date: the steps of a post run singly, with the answer as one
-- number. Assumes nothing.
use Rattle.std.specs.Prelude.{ℕ, cond, List, eqb}
use Rattle.post.specs.declared.Post.{Post}
use Rattle.post.specs.Record.{fresh_post}
use Rattle.single.specs.Single.{fresh_refusal, order_singly, hear_singly}
use Rattle.told.specs.Told.{order_told, hear_told}

-- the record after a fresh post was asked for: a refusal (12, 21) leaves it
unfoldable pub fresh_kept : Post → ℕ → ℕ → ℕ → ℕ → Post
fresh_kept p lane posts sources dests = cond (eqb (fresh_refusal lane posts sources dests) 0) (fresh_post lane posts sources dests) p

-- what a fresh post and a step by value hand to the functions that store the record
pub record Made : Type 0 where
  pub refusal : ℕ
  pub post : Post

pub record Stepped : Type 0 where
  pub answer : ℕ
  pub post : Post

abbrev pub lent_fresh : Post → ℕ → ℕ → ℕ → ℕ → Made
lent_fresh p lane posts sources dests = record { refusal = fresh_refusal lane posts sources dests; post = fresh_kept p lane posts sources dests }

abbrev pub lent_order : Post → ℕ → List ℕ → Stepped
lent_order p word buffer = record { answer = order_told (order_singly p word buffer).answer; post = (order_singly p word buffer).post }

abbrev pub lent_hear : Post → List ℕ → List ℕ → Stepped
lent_hear p frame buffer = record { answer = hear_told (hear_singly p frame buffer).answer; post = (hear_singly p frame buffer).post }
