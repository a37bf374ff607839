-- The newest entries of a row that is cut short, and of one that is whole. Assumes nothing.
use mathlib.Core.Path.{◌≡◌}
use mathlib.Core.List.{List}
use Prim.Native.Nat.{ℕ, ◌<◌, ◌≤◌}
use borrow.Author.Tests.{le-leb, lt-leb}
use lib.ListN.{length, replicate}
use Rattle.frame.specs.Layout.{no_entry}
use Rattle.frame.specs.declared.Entry.{Entry}
use Rattle.post.specs.Newest.{newest_entries}
use Rattle.row.specs.Rows.{post_in}
use Rattle.newest.specs.OnRows.{entries_in}

-- on a row that is whole
pub entries_whole : (l : List ℕ) → 543 ≤ length l → entries_in l ≡ newest_entries (post_in l).table
unfolding entries_in
entries_whole l h = rw (le-leb 543 (length l) h)

-- the two ways
pub entries_short : (l : List ℕ) (e : Entry) → length l < 543 → e ≡ no_entry → replicate 8 e ≡ entries_in l
unfolding entries_in
entries_short l e h p = rw (lt-leb 543 (length l) h, p)

pub entries_long : (l : List ℕ) (es : List Entry) → 543 ≤ length l → es ≡ newest_entries (post_in l).table → es ≡ entries_in l
entries_long l es h p = rw (entries_whole l h) p
