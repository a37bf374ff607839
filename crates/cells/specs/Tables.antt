-- Where a post's flat arrays hold what document 01 names. Assumes nothing.
-- Reading outside an array gives 0 (`get_or`), writing outside changes nothing (`set`).
use Rattle.std.specs.Prelude.{ℕ, ◌+◌, ◌-◌, ◌*◌, cond, ◌&&◌, List, ltb, leb, get_or, set}

-- "a newest-stamp table of 8 lanes by 17 serials (0 to 16)": entry (lane, serial) of it
-- Another serial has no entry: 136 is past the table's end.
unfoldable pub entry_place : ℕ → ℕ → ℕ
entry_place lane serial = cond (leb serial 16) (lane * 17 + serial) 136

-- the stamp at (lane, serial); "Table value 0 means none"
unfoldable pub stamp_under : List ℕ → ℕ → ℕ → ℕ
stamp_under table lane serial = get_or table (entry_place lane serial) 0

-- the table whose entry (lane, serial) is this stamp
unfoldable pub with_stamp : List ℕ → ℕ → ℕ → ℕ → List ℕ
with_stamp table lane serial stamp = set table (entry_place lane serial) stamp

-- "A serial counts one lane's own orders, 1 to 16": where order (lane, serial) stands among the orders taken
-- Another serial has no place: 128 is past their end.
unfoldable pub order_place : ℕ → ℕ → ℕ
order_place lane serial = cond (ltb 0 serial && leb serial 16) (lane * 16 + (serial - 1)) 128

-- the order of delivery as one number: by stamp, then lane, then serial
abbrev pub key_of : ℕ → ℕ → ℕ
key_of stamp place = stamp * 128 + place
