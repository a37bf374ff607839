-- The lines of the printout, byte for byte: document 01, "Script and printout". Assumes nothing.
use Rattle.std.specs.Prelude.{ℕ, zero, suc, cond, List, [], ◌∷◌, ◌++◌}
use Rattle.text.specs.Bytes.{bytes}
use Rattle.text.specs.Decimal.{decimal}
use Rattle.cells.specs.Sets.{has_lane}
use Rattle.post.specs.declared.Post.{Post}
use Rattle.state.specs.Yards.{Yard, post_at}
use Rattle.roll.specs.Runs.{Order}
use Rattle.roll.specs.Logs.{orders_logged}

-- `(bad LINE NUMBER)` and a line feed
unfoldable pub bad_text : ℕ → ℕ → List ℕ
bad_text line number = bytes "(bad " ++ decimal line ++ bytes " " ++ decimal number ++ bytes ")\n"

-- `(refused LINE NUMBER)` and a line feed
unfoldable pub refused_text : ℕ → ℕ → List ℕ
refused_text line number = bytes "(refused " ++ decimal line ++ bytes " " ++ decimal number ++ bytes ")\n"

-- ` (STAMP LANE WORD)`
abbrev pub three_text : ℕ → ℕ → ℕ → List ℕ
three_text stamp lane word = bytes " (" ++ decimal stamp ++ bytes " " ++ decimal lane ++ bytes " " ++ decimal word ++ bytes ")"

-- "log items being stamp, lane, word"
unfoldable pub item_text : Order → List ℕ
item_text o = three_text o.stamp o.lane o.word

-- the items of a log
unfoldable pub items_text : List Order → List ℕ
items_text [] = []
items_text (o ∷ l) = item_text o ++ items_text l

-- `(post LANE (clock CLOCK) (sent SENT) (log ITEMS))` and a line feed, "`sent` being the own serial"
unfoldable pub post_text : ℕ → Post → List ℕ
post_text lane p =
    bytes "(post " ++ decimal lane
    ++ bytes " (clock " ++ decimal p.clock.0
    ++ bytes ") (sent " ++ decimal p.serial.0
    ++ bytes ") (log" ++ items_text (orders_logged p)
    ++ bytes "))\n"

-- "the posts print a line each in rising lane order": those below lane k
unfoldable pub posts_text : Yard → ℕ → List ℕ
posts_text y zero = []
posts_text y (suc lane) = posts_text y lane ++ cond (has_lane y.present lane) (post_text lane (post_at y lane)) []
