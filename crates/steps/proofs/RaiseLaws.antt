-- Laws that the proofs of functions cite. Assumes nothing.
use mathlib.Core.Path.{◌≡◌, sym}
use mathlib.Core.List.{List}
use Prim.Native.Nat.{ℕ, ◌+◌, ◌*◌, ◌<◌, ◌≤◌, max}
use native.Mathlib.Numerals.{add-one}
use native.Mathlib.Omega.{arith}
use lib.ListN.{length, get_or, set}
use lib.Seq.{set-get_or}
use Rattle.frame.specs.Layout.{no_entry}
use Rattle.frame.specs.declared.Entry.{Entry}
use Rattle.cells.specs.Tables.{stamp_under, with_stamp}
use Rattle.cells.proofs.Places.{entry_place_lem, entry_unwritten}
use Rattle.post.specs.Newest.{raised, raised_below}

-- one entry raises the table
pub raise_larger : (table exit : List ℕ) (lane : ℕ) (e : Entry) → e.serial.0 ≤ 16 → get_or table (lane * 17 + e.serial.0) 0 < e.stamp.0
    → exit ≡ set table (lane * 17 + e.serial.0) e.stamp.0 → exit ≡ raised table lane e
unfolding raised with_stamp stamp_under
raise_larger table exit lane e small h r =
    let m : max (get_or table (lane * 17 + e.serial.0) 0) e.stamp.0 ≡ e.stamp.0 = omega arith in
    rw (entry_place_lem lane e.serial.0 small, m) r

-- one that is not larger leaves it
pub raise_known : (table : List ℕ) (lane : ℕ) (e : Entry) → e.serial.0 ≤ 16 → e.stamp.0 ≤ get_or table (lane * 17 + e.serial.0) 0
    → table ≡ raised table lane e
unfolding raised with_stamp stamp_under
raise_known table lane e small h =
    let m : max (get_or table (lane * 17 + e.serial.0) 0) e.stamp.0 ≡ get_or table (lane * 17 + e.serial.0) 0 = omega arith in
    rw (entry_place_lem lane e.serial.0 small, m, set-get_or)

-- and so does one of a serial that has no entry
pub raise_nowhere : (table : List ℕ) (lane : ℕ) (e : Entry) → length table ≡ 136 → 16 < e.serial.0 → table ≡ raised table lane e
unfolding raised
raise_nowhere table lane e long h =
    sym (entry_unwritten table lane e.serial.0 (max (stamp_under table lane e.serial.0) e.stamp.0) long h)

-- one lane's entry more
pub raised_more : (table : List ℕ) (entries : List Entry) (n : ℕ) (t r : List ℕ) → t ≡ raised_below table entries n
    → r ≡ raised t n (get_or entries n no_entry)
    → r ≡ raised_below table entries (n + 1)
unfolding raised_below
raised_more table entries n t r p q = rw (add-one, ← p) q
