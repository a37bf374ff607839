-- The judgement of a record in its row: a row that is cut short is bad, and a good one knows what its log makes known. Assumes nothing.
use Rattle.std.specs.Prelude.{cond, List, ℕ, min, leb, eqb, length, replicate}
use Rattle.post.specs.declared.Post.{Post}
use Rattle.row.specs.Rows.{post_in, known_in}
use Rattle.deliver.specs.Known.{known_below}
use Rattle.judge.specs.Judgement.{record_refusal}

-- 12 of a row
unfoldable pub row_refusal : List ℕ → ℕ
row_refusal row = cond (leb 543 (length row)) (record_refusal (post_in row)) 12

-- what the log makes known to one who knew nothing: in turn, each order that is the next of its lane (`log_known` says that it is so)
unfoldable pub known_by_log : Post → List ℕ
known_by_log p = known_below (replicate 8 0) p.log 0 (min p.logged 128)

-- what a row knows that was judged
unfoldable pub judged_known : List ℕ → List ℕ
judged_known row = cond (eqb (row_refusal row) 0) (known_by_log (post_in row)) (known_in row)
