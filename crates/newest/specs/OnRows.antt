-- The newest entries of a row. Assumes nothing.
use Rattle.std.specs.Prelude.{cond, List, ℕ, leb, length, replicate}
use Rattle.frame.specs.Layout.{no_entry}
use Rattle.frame.specs.declared.Entry.{Entry}
use Rattle.post.specs.Newest.{newest_entries}
use Rattle.row.specs.Rows.{post_in}

-- the newest entries of a row's post; none of a row that is cut short
unfoldable pub entries_in : List ℕ → List Entry
entries_in row = cond (leb 543 (length row)) (newest_entries (post_in row).table) (replicate 8 no_entry)
