-- The bench's stories, played by posts run singly that hand each other their broadcasts. Assumes nothing.
use Rattle.std.specs.Prelude.{ℕ, zero, suc, ◌/◌, List, [], ◌∷◌, map, get_or, take, set, replicate}
use Rattle.post.specs.declared.Post.{Post}
use Rattle.post.specs.Record.{fresh_post, with_clock}
use Rattle.single.specs.Outcomes.{Heard}
use Rattle.single.specs.Single.{order_singly, order_buffer, hear_singly, hear_buffer}

-- `(yard (0 both) (1 source) (2 dest))`
abbrev pub fresh : ℕ → Post
fresh lane = fresh_post lane 0b111 0b011 0b101

abbrev pub blank : List ℕ
blank = replicate 32 0

-- the post after an order or a hearing, and what it broadcasts
abbrev pub after : Post → ℕ → Post
after p word = (order_singly p word blank).post

abbrev pub frame_of_order : Post → ℕ → List ℕ
frame_of_order p word = order_buffer p word blank

abbrev pub hearing : Post → List ℕ → Heard
hearing p frame = hear_singly p frame blank

abbrev pub frame_of_hearing : Post → List ℕ → List ℕ
frame_of_hearing p frame = hear_buffer p frame blank

-- the log's items: "stamp, lane, word"
abbrev pub items : Post → List (List ℕ)
items p = map (λ (place : ℕ). get_or p.stamps place 0 ∷ place / 16 ∷ get_or p.words place 0 ∷ []) (take p.logged p.log)

-- ---- the printed script, line by line: frames 0, 1 and 2

abbrev pub frame0 : List ℕ
frame0 = frame_of_order (fresh 0) 417

abbrev pub post1 : Post
post1 = (hearing (fresh 1) frame0).post

abbrev pub frame1 : List ℕ
frame1 = frame_of_hearing (fresh 1) frame0

abbrev pub frame2 : List ℕ
frame2 = frame_of_order post1 90

abbrev pub post0 : Post
post0 = after (fresh 0) 417

-- a post that waits for lane 1, and frame 0 with serial 17 in its entry of lane 0
abbrev pub post2 : Post
post2 = (hearing (fresh 2) frame0).post

abbrev pub serial17 : List ℕ
serial17 = set frame0 8 17

-- ---- the limits

-- a post after n orders
unfoldable pub orders_sent : ℕ → Post
orders_sent zero = fresh 0
orders_sent (suc n) = after (orders_sent n) n

-- a fresh post whose clock stands here
abbrev pub clock_at : ℕ → ℕ → Post
clock_at lane clock = with_clock (fresh lane) clock 0 (fresh lane).table
