-- What the entries of a post run singly give, as an answer beside the post that it leaves. Assumes nothing.
use Rattle.std.specs.Prelude.{ℕ, Result, Ok, Err}
use Rattle.refusal.specs.declared.Refusal.{Refusal}
use Rattle.refusal.specs.Numbers.{refusal_number}
use Rattle.post.specs.declared.Post.{Post}
use Rattle.post.specs.Record.{fresh_post}
use Rattle.steps.specs.OrderAnswer.{OrderAnswer, order_answer}
use Rattle.steps.specs.HearAnswer.{HearAnswer, hear_answer}
use Rattle.single.specs.declared.Ordered as orders
use Rattle.single.specs.declared.Heard as hearings

-- 0 and a fresh post, or the refusal's number and a record of zeros
pub record FreshPost : Type 0 where
  pub refusal : ℕ
  pub post : Post

abbrev pub fresh_answer : Result Post Refusal → FreshPost
fresh_answer (Ok post) = record { refusal = 0; post = post }
fresh_answer (Err refusal) = record { refusal = refusal_number refusal; post = fresh_post 0 0 0 0 }

-- what an order of the post p answers, and the post after it: where it is refused, p
pub record Ordered : Type 0 where
  pub answer : OrderAnswer
  pub post : Post

abbrev pub ordered_answer : Post → Result orders.Ordered Refusal → Ordered
ordered_answer p (Ok ordered) = record { answer = order_answer (Ok ordered.sent); post = ordered.post }
ordered_answer p (Err refusal) = record { answer = order_answer (Err refusal); post = p }

-- what a hearing answers, and the post after it
pub record Heard : Type 0 where
  pub answer : HearAnswer
  pub post : Post

abbrev pub heard_answer : Post → Result hearings.Heard Refusal → Heard
heard_answer p (Ok heard) = record { answer = hear_answer (Ok heard.hearing); post = heard.post }
heard_answer p (Err refusal) = record { answer = hear_answer (Err refusal); post = p }
