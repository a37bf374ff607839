-- What the loops have computed after n turns. For contracts of private functions; nobody has to believe it. Assumes nothing.
use Rattle.std.specs.Prelude.{ℕ, zero, suc, ◌+◌, max, cond, List, eqb, get_or, set, replicate}
use Rattle.frame.specs.Layout.{no_entry}
use Rattle.frame.specs.declared.Entry.{Entry}
use Rattle.post.specs.Newest.{newest}

-- the greatest of n stamps from place `first` on
unfoldable pub greatest_below : List ℕ → ℕ → ℕ → ℕ
greatest_below table first zero = 0
greatest_below table first (suc n) = max (greatest_below table first n) (get_or table (first + n) 0)

-- the last serial below n that this stamp stands under, or 0
unfoldable pub last_below : List ℕ → ℕ → ℕ → ℕ → ℕ
last_below table first stamp zero = 0
last_below table first stamp (suc n) = max (last_below table first stamp n) (cond (eqb (get_or table (first + n) 0) stamp) n 0)

-- the newest entries of the lanes below n, and none at the others
unfoldable pub entries_below : List ℕ → ℕ → List Entry
entries_below table zero = replicate 8 no_entry
entries_below table (suc lane) = set (entries_below table lane) lane (newest table lane)
