-- Delivery on a row. Assumes nothing.
use Rattle.std.specs.Prelude.{cond, Option, List, ℕ, ◌-◌, leb, length}
use Rattle.post.specs.declared.Post.{Post}
use Rattle.post.specs.Record.{with_log}
use Rattle.row.specs.Rows.{post_in, known_in}
use Rattle.frame.specs.declared.Stamp.{Stamp}
use Rattle.deliver.specs.Delivery.{NewLog}
use Rattle.deliver.specs.Known.{KnownDelivery, delivered_from, due_log_from, joined_from, known_below}
use Rattle.deliver.specs.Loops.{log_by}

-- the delivery of a row's post, by what the row knows; a row that is cut short stays as it is
unfoldable pub delivered_row : List ℕ → KnownDelivery
delivered_row row =
    cond (leb 543 (length row)) (delivered_from (known_in row) (post_in row))
    (record { post = post_in row; known = known_in row; count = 0 })

-- ---- for contracts of private functions

-- a post with another log
abbrev pub relogged : Post → NewLog → Post
relogged p new = with_log p new.log new.logged

-- what the due orders make of a row's log, by what the row knows: at a destination, at any post, and by the least stamp heard
unfoldable pub joined_in : List ℕ → NewLog
joined_in row = joined_from (known_in row) (post_in row)

unfoldable pub due_in : List ℕ → NewLog
due_in row = due_log_from (known_in row) (post_in row)

unfoldable pub by_in : List ℕ → Option Stamp → NewLog
by_in row least = log_by (known_in row) (post_in row).last (post_in row).stamps least (post_in row).log (post_in row).logged

-- what is known once this log is the row's
abbrev pub known_with : List ℕ → NewLog → List ℕ
known_with row new = known_below (known_in row) new.log (post_in row).logged (new.logged - (post_in row).logged)
