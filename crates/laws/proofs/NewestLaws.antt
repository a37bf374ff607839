-- The newest entry of a lane, and that every broadcast of a post can be written. Assumes nothing.
use mathlib.Core.Path.{◌≡◌, refl}
use mathlib.Core.Logic.{◌⊎◌, inl, inr, ◌≢◌}
use mathlib.Core.Bool.{Bool, true, false, cond, not, ◌&&◌}
use mathlib.Core.List.{List}
use Prim.Native.Nat.{ℕ, zero, suc, ◌<◌, ◌≤◌}
use native.Mathlib.Omega.{arith}
use lib.Dec.{ltb, leb, eqb}
use lib.ListN.{length, get_or, get_or-eq_default}
use borrow.Author.Tests.{ltb-true, leb-true, leb-false, le-ltb, ne_eqb, lt-ltb, eqb-true}
use Rattle.frame.specs.Layout.{no_entry, entry_of}
use Rattle.frame.specs.Types.{Typed}
use Rattle.frame.specs.Refusals.{bad_entry, bad_entries, frame_refusal}
use Rattle.frame.specs.declared.Entry.{Entry}
use Rattle.frame.specs.declared.Frame.{Frame}
use Rattle.cells.specs.Tables.{entry_place, stamp_under}
use Rattle.post.specs.declared.Post.{Post}
use Rattle.post.specs.Newest.{newer, newest_below, newest, newest_entries, order_frame, beacon_frame}
use Rattle.laws.specs.Broadcasts.{IsNewest}
use Rattle.laws.proofs.TestLaws.{same_or_not, below_or_not, and_parts, and_second, or_made, and_fails, each_none}

-- one serial more, and its stamp is the highest
newer_wins : (table : List ℕ) (lane n : ℕ) (e : Entry) → 0 < stamp_under table lane n → e.stamp.0 ≤ stamp_under table lane n
    → IsNewest table lane n e
    → IsNewest table lane (suc n) (record { serial = record { 0 = n }; stamp = record { 0 = stamp_under table lane n } })
newer_wins table lane n e h k is = record {
  highest = λ serial l. high serial l (same_or_not serial n);
  last = λ serial l a b. omega arith;
  found = λ a. (omega arith, refl);
  none = λ a. absurd (omega arith);
}
  where
    high : (serial : ℕ) → serial < suc n → (serial ≡ n) ⊎ (serial ≢ n) → stamp_under table lane serial ≤ stamp_under table lane n
    high serial l (inl q) = rw q (omega arith)
    high serial l (inr q) = omega (arith, is.highest serial (omega arith))

-- one serial more, and its stamp is none, or lower
newer_stays : (table : List ℕ) (lane n : ℕ) (e : Entry) → (0 < stamp_under table lane n → stamp_under table lane n < e.stamp.0)
    → IsNewest table lane n e
    → IsNewest table lane (suc n) e
newer_stays table lane n e h is = record {
  highest = λ serial l. high serial l (same_or_not serial n);
  last = λ serial l a b. late serial l a b (same_or_not serial n);
  found = λ a. let r = is.found a in (omega (arith, r.0), r.1);
  none = is.none;
}
  where
    zero_or_below : (stamp : ℕ) → (0 < stamp → stamp < e.stamp.0) → (stamp ≡ 0) ⊎ (stamp ≢ 0) → stamp ≤ e.stamp.0
    zero_or_below stamp k (inl q) = omega arith
    zero_or_below stamp k (inr q) = omega (arith, k (omega arith))

    high : (serial : ℕ) → serial < suc n → (serial ≡ n) ⊎ (serial ≢ n) → stamp_under table lane serial ≤ e.stamp.0
    high serial l (inl q) = rw q (zero_or_below (stamp_under table lane n) h (same_or_not (stamp_under table lane n) 0))
    high serial l (inr q) = is.highest serial (omega arith)

    late : (serial : ℕ) → serial < suc n → 0 < stamp_under table lane serial → stamp_under table lane serial ≡ e.stamp.0
        → (serial ≡ n) ⊎ (serial ≢ n) → serial ≤ e.serial.0
    late serial l a b (inl q) = absurd (omega (arith, h (rw q at a), rw q at b))
    late serial l a b (inr q) = is.last serial (omega arith) a b

-- one serial more is looked at
newer_is : (table : List ℕ) (lane n : ℕ) (e : Entry) → IsNewest table lane n e → IsNewest table lane (suc n) (newer table lane n e)
unfolding newer
newer_is table lane n e is = go (ltb 0 (stamp_under table lane n) && leb e.stamp.0 (stamp_under table lane n)) refl
  where
    here : Entry
    here = record { serial = record { 0 = n }; stamp = record { 0 = stamp_under table lane n } }

    go : (b : Bool) → (ltb 0 (stamp_under table lane n) && leb e.stamp.0 (stamp_under table lane n)) ≡ b → IsNewest table lane (suc n) (cond b here e)
    go true q =
        let r = and_parts (ltb 0 (stamp_under table lane n)) (leb e.stamp.0 (stamp_under table lane n)) q in
        newer_wins table lane n e (ltb-true 0 (stamp_under table lane n) r.0) (leb-true e.stamp.0 (stamp_under table lane n) r.1) is
    go false q =
        newer_stays table lane n e
        (λ h. leb-false e.stamp.0 (stamp_under table lane n)
        (and_second (ltb 0 (stamp_under table lane n)) (leb e.stamp.0 (stamp_under table lane n)) q (lt-ltb 0 (stamp_under table lane n) h)))
        is

-- after the serials below n, the newest of them is found
pub newest_below_lem : (table : List ℕ) (lane n : ℕ) → IsNewest table lane n (newest_below table lane n)
unfolding newest_below
newest_below_lem table lane zero = record {
  highest = λ serial l. absurd (omega arith);
  last = λ serial l a b. absurd (omega arith);
  found = λ a. absurd (omega arith);
  none = λ a. refl;
}
newest_below_lem table lane (suc n) = newer_is table lane n (newest_below table lane n) (newest_below_lem table lane n)

-- the newest entry of a lane is what document 01 says
pub newest_is : (table : List ℕ) (lane : ℕ) → IsNewest table lane 17 (newest table lane)
newest_is table lane = newest_below_lem table lane 17

-- a lane with a stamp has an entry, of a serial up to 16, and its stamp is the table's
pub newest_found : (table : List ℕ) (lane serial : ℕ) → serial < 17 → 0 < stamp_under table lane serial
    → (0 < (newest table lane).stamp.0) × ((newest table lane).serial.0 < 17)
    × (stamp_under table lane (newest table lane).serial.0 ≡ (newest table lane).stamp.0)
newest_found table lane serial l h =
    let is = newest_is table lane in
    let some : 0 < (newest table lane).stamp.0 = omega (arith, is.highest serial l) in
    let r = is.found some in
    (some, r.0, r.1)

-- no serial up to 16 has a higher stamp
pub newest_highest : (table : List ℕ) (lane serial : ℕ) → serial < 17 → stamp_under table lane serial ≤ (newest table lane).stamp.0
newest_highest table lane serial l = (newest_is table lane).highest serial l

-- "of equals the higher serial"
pub newest_last : (table : List ℕ) (lane serial : ℕ) → serial < 17 → 0 < stamp_under table lane serial
    → stamp_under table lane serial ≡ (newest table lane).stamp.0
    → serial ≤ (newest table lane).serial.0
newest_last table lane serial l h e = (newest_is table lane).last serial l h e

-- "none if the lane has none"
pub newest_none : (table : List ℕ) (lane : ℕ) → ((serial : ℕ) → serial < 17 → stamp_under table lane serial ≡ 0) → newest table lane ≡ no_entry
newest_none table lane h = go (same_or_not (newest table lane).stamp.0 0)
  where
    go : ((newest table lane).stamp.0 ≡ 0) ⊎ ((newest table lane).stamp.0 ≢ 0) → newest table lane ≡ no_entry
    go (inl e) = (newest_is table lane).none e
    go (inr e) =
        let r = (newest_is table lane).found (omega arith) in
        absurd (omega (arith, r.1, h (newest table lane).serial.0 r.0))

-- its serial is up to 16, and its stamp has 16 bits where the table's have
pub newest_serial_lem : (table : List ℕ) (lane : ℕ) → (newest table lane).serial.0 ≤ 16
newest_serial_lem table lane = go (same_or_not (newest table lane).stamp.0 0)
  where
    go : ((newest table lane).stamp.0 ≡ 0) ⊎ ((newest table lane).stamp.0 ≢ 0) → (newest table lane).serial.0 ≤ 16
    go (inl e) = rw ((newest_is table lane).none e) (omega arith)
    go (inr e) = omega (arith, ((newest_is table lane).found (omega arith)).0)

-- the newest stamp is under every bound of the table
pub newest_under : (table : List ℕ) (lane bound : ℕ) → 0 < bound → ((j : ℕ) → get_or table j 0 < bound) → (newest table lane).stamp.0 < bound
unfolding stamp_under
newest_under table lane bound b h = go (same_or_not (newest table lane).stamp.0 0)
  where
    go : ((newest table lane).stamp.0 ≡ 0) ⊎ ((newest table lane).stamp.0 ≢ 0) → (newest table lane).stamp.0 < bound
    go (inl e) = omega arith
    go (inr e) = omega (arith, ((newest_is table lane).found (omega arith)).1, h (entry_place lane (newest table lane).serial.0))

-- no newest entry is refused by 11
pub newest_good : (table : List ℕ) (lane : ℕ) → bad_entry (newest table lane) ≡ false
newest_good table lane =
    or_made (ltb 16 (newest table lane).serial.0) (eqb (newest table lane).stamp.0 0 && not (eqb (newest table lane).serial.0 0))
    (le-ltb 16 (newest table lane).serial.0 (newest_serial_lem table lane))
    (and_fails (eqb (newest table lane).stamp.0 0) (not (eqb (newest table lane).serial.0 0)) (λ e. none (eqb-true (newest table lane).stamp.0 0 e)))
  where
    none : (newest table lane).stamp.0 ≡ 0 → not (eqb (newest table lane).serial.0 0) ≡ false
    none e = rw ((newest_is table lane).none e)

-- ---- the entries of a broadcast

-- the entry of a lane is its newest
pub newest_entry : (table : List ℕ) (lane : ℕ) → lane < 8 → get_or (newest_entries table) lane no_entry ≡ newest table lane
unfolding newest_entries
newest_entry table zero h = refl
newest_entry table (suc zero) h = refl
newest_entry table (suc (suc zero)) h = refl
newest_entry table (suc (suc (suc zero))) h = refl
newest_entry table (suc (suc (suc (suc zero)))) h = refl
newest_entry table (suc (suc (suc (suc (suc zero))))) h = refl
newest_entry table (suc (suc (suc (suc (suc (suc zero)))))) h = refl
newest_entry table (suc (suc (suc (suc (suc (suc (suc zero))))))) h = refl
newest_entry table (suc (suc (suc (suc (suc (suc (suc (suc n)))))))) h = absurd (omega arith)

-- a broadcast has eight entries
newest_count : (table : List ℕ) → length (newest_entries table) ≡ 8
unfolding newest_entries
newest_count table = refl

-- their stamps have 16 bits where the table's have
newest_stamps : (table : List ℕ) → ((j : ℕ) → get_or table j 0 < 65536) → (lane : ℕ) → (get_or (newest_entries table) lane no_entry).stamp.0 < 65536
newest_stamps table h lane = go (below_or_not lane 8)
  where
    go : (lane < 8) ⊎ (8 ≤ lane) → (get_or (newest_entries table) lane no_entry).stamp.0 < 65536
    go (inl l) = rw (newest_entry table lane l) (newest_under table lane 65536 (omega arith) h)
    go (inr l) = rw (get_or-eq_default (newest_entries table) no_entry {n = lane} (rw newest_count l)) (omega arith)

-- a frame with these entries is not turned down by 11
newest_bad : (f : Frame) (table : List ℕ) → f.entries ≡ newest_entries table → bad_entries f ≡ false
unfolding bad_entries
newest_bad f table e =
    each_none (λ (lane : ℕ). bad_entry (entry_of f lane)) 8
    (λ lane l. rw (e, newest_entry table lane l) (newest_good table lane))

-- ---- broadcasts can be written

-- a beacon of a post with a lane up to 7 is not refused
pub beacon_accepted : (p : Post) → p.lane < 8 → frame_refusal (beacon_frame p) ≡ 0
unfolding frame_refusal
beacon_accepted p h = rw (le-ltb 7 p.lane (omega arith), newest_bad (beacon_frame p) p.table refl)

-- an order broadcast by a post with a lane up to 7, of a lane, serial and stamp in their ranges, is not refused
pub order_accepted : (p : Post) (lane serial stamp word : ℕ) → p.lane < 8 → lane < 8 → 0 < serial → serial ≤ 16 → 0 < stamp
    → frame_refusal (order_frame p lane serial stamp word) ≡ 0
unfolding frame_refusal
order_accepted p lane serial stamp word h l a b c =
    rw (
      le-ltb 7 lane (omega arith),
      ne_eqb serial 0 (λ e. omega arith),
      le-ltb 16 serial b,
      ne_eqb stamp 0 (λ e. omega arith),
      le-ltb 7 p.lane (omega arith),
      newest_bad (order_frame p lane serial stamp word) p.table refl,
    )

-- a beacon is a frame of its type
pub beacon_fits : (p : Post) → ((j : ℕ) → get_or p.table j 0 < 65536) → Typed (beacon_frame p)
beacon_fits p h = record {
  stamp = omega arith;
  word = omega arith;
  count = newest_count p.table;
  stamps = newest_stamps p.table h;
}

-- a broadcast order is a frame of its type
pub order_fits : (p : Post) (lane serial stamp word : ℕ) → ((j : ℕ) → get_or p.table j 0 < 65536) → stamp < 65536 → word < 65536
    → Typed (order_frame p lane serial stamp word)
order_fits p lane serial stamp word h s w = record { stamp = s; word = w; count = newest_count p.table; stamps = newest_stamps p.table h }
