-- A log whose records are all good: three numbers in range each, and at most 128 orders. Assumes nothing.
use mathlib.Core.Path.{◌≡◌, refl, ap}
use mathlib.Core.Bool.{true}
use mathlib.Core.List.{List, [], ◌∷◌, map}
use Prim.Native.Nat.{◌+◌, ◌<◌, ◌≤◌}
use native.Mathlib.Omega.{arith}
use Rattle.std.proofs.lemmas.Bool.Decides.{nat_tests}
use lib.ListN.{length}
use Rattle.csv_log.specs.declared.LogItem.{LogItem}
use Rattle.csv_log.specs.Log.{Record, in_three, malformed, log_in, in_range, rises_after, count_of_lane, item_refusal, first_bad, GoodLog}

-- ---- one record

pub item_passed : (earlier : List LogItem) (x : LogItem) → item_refusal earlier x ≡ 0
    → (in_range x ≡ true) × (rises_after earlier x ≡ true) × (length earlier < 128) × (count_of_lane x.lane earlier < 16)
unfolding item_refusal
item_passed earlier x e = grind (arith, nat_tests)

pub in_range_lem : (x : LogItem) → in_range x ≡ true → (0 < x.stamp) × (x.stamp ≤ 65535) × (x.lane ≤ 7) × (x.word ≤ 65535)
unfolding in_range
in_range_lem x e = grind (arith, nat_tests)

-- ---- records one after another

-- neither the first is bad, nor one after it
pub first_passed : (earlier : List LogItem) (x : LogItem) (records : List Record) → (first_bad earlier (in_three x ∷ records)).number ≡ 0
    → (item_refusal earlier x ≡ 0) × ((first_bad (x ∷ earlier) records).number ≡ 0)
unfolding first_bad
first_passed earlier x records h = grind (arith, nat_tests)

-- a malformed record is bad
pub malformed_bad : {X : Type 0} (earlier : List LogItem) (records : List Record) → (first_bad earlier (malformed ∷ records)).number ≡ 0 → X
unfolding first_bad
malformed_bad earlier records h = absurd (omega arith)

-- records of which none is bad are the orders that they say
pub all_three : (earlier : List LogItem) (records : List Record) → (first_bad earlier records).number ≡ 0 → map in_three (log_in records) ≡ records
unfolding log_in
all_three earlier [] h = refl
all_three earlier (in_three x ∷ records) h =
    ap (λ (r : List Record). in_three x ∷ r) (all_three (x ∷ earlier) records (first_passed earlier x records h).1)
all_three earlier (malformed ∷ records) h = malformed_bad earlier records h

-- and so the log that they say is good
pub good_said : (records : List Record) → (first_bad [] records).number ≡ 0 → GoodLog (log_in records)
good_said records h = rw (all_three [] records h) h

pub said_back : (l : List LogItem) → log_in (map in_three l) ≡ l
unfolding log_in
said_back [] = refl
said_back (x ∷ l) = ap (λ (m : List LogItem). x ∷ m) (said_back l)

-- ---- a good log

-- each order in range
unfoldable pub AllIn : List LogItem → Type 0
AllIn [] = Unit {0}
AllIn (x ∷ l) = (in_range x ≡ true) × AllIn l

good_from : (earlier l : List LogItem) → length earlier ≤ 128 → (first_bad earlier (map in_three l)).number ≡ 0
    → AllIn l × (length earlier + length l ≤ 128)
unfolding AllIn
good_from earlier [] b h = (tt, omega arith)
good_from earlier (x ∷ l) b h =
    let p = first_passed earlier x (map in_three l) h in
    let i = item_passed earlier x p.0 in
    let r = good_from (x ∷ earlier) l (omega arith) p.1 in
    ((i.0, r.0), omega (arith, r.1))

pub good_in : (l : List LogItem) → GoodLog l → AllIn l
good_in l h = (good_from [] l (omega arith) h).0

pub good_few : (l : List LogItem) → GoodLog l → length l ≤ 128
good_few l h = omega (arith, (good_from [] l (omega arith) h).1)
