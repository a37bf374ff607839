-- The steps of a post that knows some orders to be logged, which its delivery passes over. Any post, whatever it is said to know;
-- where all that is said is so (`Known` of `deliver`), these are the steps of specs/Steps.antt. Assumes nothing.
use Rattle.std.specs.Prelude.{ℕ, cond, List, eqb}
use Rattle.frame.specs.declared.Frame.{Frame}
use Rattle.post.specs.declared.Post.{Post}
use Rattle.post.specs.Record.{last_of}
use Rattle.post.specs.Taking.{own_taken, raised_post, taken}
use Rattle.row.specs.Rows.{post_in, known_in}
use Rattle.deliver.specs.Known.{delivered_from}
use Rattle.steps.specs.Refusals.{order_refusal, is_next, hear_refusal}
use Rattle.steps.specs.Steps.{order_step, hear_step, other_answer}
use Rattle.steps.specs.OrderAnswer as orders
use Rattle.steps.specs.HearAnswer as hearings

-- what a step answers and leaves: the post, what it knows then, and the broadcast
pub record Stepped (Answer : Type 0) : Type 0 where
  pub answer : Answer
  pub post : Post
  pub known : List ℕ
  pub frame : Frame

-- the same of a row
abbrev pub stepped : {Answer : Type 0} → Answer → List ℕ → Frame → Stepped Answer
stepped answer row frame = record { answer = answer; post = post_in row; known = known_in row; frame = frame }

-- an order: the post takes it, broadcasts it, and delivers what is due and not known to be logged
unfoldable pub orders_by : List ℕ → Post → ℕ → Stepped orders.OrderAnswer
orders_by known p word =
    let q = own_taken p word in
    let d = delivered_from known q in
    cond (eqb (order_refusal p) 0)
    (record { answer = orders.Sent q.serial q.clock d.count; post = d.post; known = d.known; frame = (order_step p word).frame })
    (record { answer = orders.Refused (order_refusal p); post = p; known = known; frame = (order_step p word).frame })

unfoldable pub order_count_by : List ℕ → Post → ℕ → ℕ
order_count_by known p word = cond (eqb (order_refusal p) 0) (delivered_from known (own_taken p word)).count 0

-- a hearing's parts 1 to 3: the order is taken, or the entries alone raise the table
unfoldable pub hear_took : Post → Frame → Post
hear_took p f = cond (is_next f (last_of p f.lane)) (taken p f) (raised_post p f)

-- what a hearing answers that is not refused
abbrev pub passed_answer : Frame → ℕ → ℕ → hearings.HearAnswer
passed_answer f last count = cond (is_next f last) (hearings.Taken count) (other_answer f last count)

-- a hearing: its parts 1 to 3, and it delivers what is due and not known to be logged
unfoldable pub hears_by : List ℕ → Post → Frame → Stepped hearings.HearAnswer
hears_by known p f =
    let d = delivered_from known (hear_took p f) in
    cond (eqb (hear_refusal p f) 0)
    (record { answer = passed_answer f (last_of p f.lane) d.count; post = d.post; known = d.known; frame = (hear_step p f).frame })
    (record { answer = hearings.Refused (hear_refusal p f); post = p; known = known; frame = (hear_step p f).frame })

unfoldable pub hear_count_by : List ℕ → Post → Frame → ℕ
hear_count_by known p f = cond (eqb (hear_refusal p f) 0) (delivered_from known (hear_took p f)).count 0
