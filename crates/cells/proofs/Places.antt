-- Places of entries and orders: a serial in its range has its own, another reads 0 and is not written. Assumes nothing.
use mathlib.Core.Path.{◌≡◌, refl}
use mathlib.Core.Bool.{Bool, true, false, cond, ◌&&◌}
use mathlib.Core.List.{List}
use Prim.Native.Nat.{ℕ, ◌+◌, ◌-◌, ◌*◌, ◌/◌, ◌%◌, ◌<◌, ◌≤◌}
use native.Mathlib.Omega.{arith}
use lib.Dec.{ltb, leb}
use lib.ListN.{length, get_or, set, get_or-eq_default}
use lib.Seq.{set_out}
use borrow.Author.Tests.{ltb-true, lt-ltb, le-leb, lt-leb}
use Rattle.cells.specs.Tables.{entry_place, stamp_under, with_stamp, order_place}

-- ---- entries of the table

-- a serial up to 16 has its entry
pub entry_place_lem : (lane serial : ℕ) → serial ≤ 16 → entry_place lane serial ≡ lane * 17 + serial
unfolding entry_place
entry_place_lem lane serial h = rw (le-leb serial 16 h)

-- which is read there
pub entry_read : (table : List ℕ) (lane serial : ℕ) → serial ≤ 16 → stamp_under table lane serial ≡ get_or table (lane * 17 + serial) 0
unfolding stamp_under
entry_read table lane serial h = rw (entry_place_lem lane serial h)

-- and is inside the table
pub entry_inside : (lane serial : ℕ) → lane < 8 → serial ≤ 16 → entry_place lane serial < 136
entry_inside lane serial h k = omega (arith, entry_place_lem lane serial k)

-- two entries at one place are one
pub entry_places : (lane serial lane' serial' : ℕ) → serial ≤ 16 → serial' ≤ 16 → entry_place lane serial ≡ entry_place lane' serial'
    → (lane ≡ lane') × (serial ≡ serial')
entry_places lane serial lane' serial' h k e =
    let here = entry_place_lem lane serial h in
    let there = entry_place_lem lane' serial' k in
    (omega arith, omega arith)

-- a serial past 16 has none
pub entry_none : (lane serial : ℕ) → 16 < serial → entry_place lane serial ≡ 136
unfolding entry_place
entry_none lane serial h = rw (lt-leb serial 16 h)

-- so it reads 0
pub entry_unread : (table : List ℕ) (lane serial : ℕ) → length table ≡ 136 → 16 < serial → stamp_under table lane serial ≡ 0
unfolding stamp_under
entry_unread table lane serial l h = rw (entry_none lane serial h) (get_or-eq_default table 0 {n = 136} (omega arith))

-- and is not written
pub entry_unwritten : (table : List ℕ) (lane serial stamp : ℕ) → length table ≡ 136 → 16 < serial → with_stamp table lane serial stamp ≡ table
unfolding with_stamp
entry_unwritten table lane serial stamp l h = rw (entry_none lane serial h) (set_out table 136 stamp (omega arith))

-- ---- orders taken

-- a serial from 1 to 16 has its place
pub order_place_lem : (lane serial : ℕ) → 0 < serial → serial ≤ 16 → order_place lane serial ≡ lane * 16 + (serial - 1)
unfolding order_place
order_place_lem lane serial h k = rw (lt-ltb 0 serial h, le-leb serial 16 k)

-- among the orders
pub order_inside : (lane serial : ℕ) → lane < 8 → 0 < serial → serial ≤ 16 → order_place lane serial < 128
order_inside lane serial l h k = omega (arith, order_place_lem lane serial h k)

-- which tells the lane and the serial
pub order_lane : (lane serial : ℕ) → 0 < serial → serial ≤ 16 → order_place lane serial / 16 ≡ lane
order_lane lane serial h k = omega (arith, order_place_lem lane serial h k)

pub order_serial_lem : (lane serial : ℕ) → 0 < serial → serial ≤ 16 → order_place lane serial % 16 + 1 ≡ serial
order_serial_lem lane serial h k = omega (arith, order_place_lem lane serial h k)

-- every place is that of an order
pub place_order : (place : ℕ) → order_place (place / 16) (place % 16 + 1) ≡ place
place_order place = omega (arith, order_place_lem (place / 16) (place % 16 + 1) (omega arith) (omega arith))

-- two orders at one place are one
pub order_places : (lane serial lane' serial' : ℕ) → 0 < serial → serial ≤ 16 → 0 < serial' → serial' ≤ 16
    → order_place lane serial ≡ order_place lane' serial'
    → (lane ≡ lane') × (serial ≡ serial')
order_places lane serial lane' serial' a b c d e =
    let here = order_place_lem lane serial a b in
    let there = order_place_lem lane' serial' c d in
    (omega arith, omega arith)

-- another serial has none
pub order_none : (lane serial : ℕ) → (0 < serial → 16 < serial) → order_place lane serial ≡ 128
unfolding order_place
order_none lane serial h = go (ltb 0 serial) refl
  where
    go : (b : Bool) → ltb 0 serial ≡ b → cond (b && leb serial 16) (lane * 16 + (serial - 1)) 128 ≡ 128
    go true e = rw (lt-leb serial 16 (h (ltb-true 0 serial e)))
    go false e = refl

-- so it reads 0
pub order_unread : (l : List ℕ) (lane serial : ℕ) → length l ≡ 128 → (0 < serial → 16 < serial) → get_or l (order_place lane serial) 0 ≡ 0
order_unread l lane serial e h = rw (order_none lane serial h) (get_or-eq_default l 0 {n = 128} (omega arith))

-- and is not written
pub order_unwritten : (l : List ℕ) (lane serial v : ℕ) → length l ≡ 128 → (0 < serial → 16 < serial) → set l (order_place lane serial) v ≡ l
order_unwritten l lane serial v e h = rw (order_none lane serial h) (set_out l 128 v (omega arith))
