-- The parts of a line as private functions print them, for their contracts; nobody has to believe it. Assumes nothing.
use Rattle.std.specs.Prelude.{ℕ, List, map, ◌++◌, take}
use Rattle.text.specs.Bytes.{bytes}
use Rattle.text.specs.Decimal.{decimal}
use Rattle.post.specs.declared.Post.{Post}
use Rattle.roll.specs.Logs.{order_at}
use Rattle.meaning.specs.Texts.{items_text}

-- a label, then `LINE NUMBER)` and a line feed
abbrev pub refusal_text : List ℕ → ℕ → ℕ → List ℕ
refusal_text label line number = label ++ decimal line ++ bytes " " ++ decimal number ++ bytes ")\n"

-- `(post LANE (clock CLOCK) (sent SENT) (log`
abbrev pub post_head : ℕ → ℕ → ℕ → List ℕ
post_head lane clock sent = bytes "(post " ++ decimal lane ++ bytes " (clock " ++ decimal clock ++ bytes ") (sent " ++ decimal sent ++ bytes ") (log"

-- the items that these places of a log stand for
abbrev pub items_at : Post → List ℕ → List ℕ
items_at p places = items_text (map (order_at p) places)

-- the first n items of a post's log
abbrev pub items_of : Post → ℕ → List ℕ
items_of p n = items_at p (take n p.log)
