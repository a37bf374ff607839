-- The cells that the code keeps judge a record as those before it do: Seen.antt, Log.antt. Assumes nothing.
use mathlib.Core.Path.{◌≡◌, refl}
use mathlib.Core.Bool.{true}
use mathlib.Core.List.{List, [], ◌∷◌}
use Prim.Native.Nat.{ℕ, zero, suc, ◌+◌, ◌<◌}
use native.Mathlib.Numerals.{add-one}
use native.Mathlib.Nat.{add-zero}
use native.Mathlib.Omega.{arith}
use Rattle.std.proofs.lemmas.Bool.Decides.{nat_tests}
use lib.ListN.{length, get_or}
use borrow.Author.Tests.{lt-ltb}
use Rattle.csv_log.specs.declared.LogItem.{LogItem}
use Rattle.csv_log.specs.Log.{log_item, in_range, rises, rises_after, count_of_lane, item_refusal}
use Rattle.csv_log.specs.Seen.{rises_by, refusal_by, seen_with}
use Rattle.csv_log.proofs.Logs.{in_range_lem}

-- the cells of some records: how many, the last one's stamp and lane, how many each lane has
abbrev pub last_stamp : List LogItem → ℕ
last_stamp [] = 0
last_stamp (x ∷ l) = x.stamp

abbrev pub last_lane : List LogItem → ℕ
last_lane [] = 0
last_lane (x ∷ l) = x.lane

unfoldable pub seen_of : List LogItem → List ℕ
seen_of l =
    length l ∷ last_stamp l ∷ last_lane l
    ∷ count_of_lane 0 l ∷ count_of_lane 1 l ∷ count_of_lane 2 l ∷ count_of_lane 3 l
    ∷ count_of_lane 4 l ∷ count_of_lane 5 l ∷ count_of_lane 6 l ∷ count_of_lane 7 l ∷ []

lane_cell : (l : List LogItem) (n : ℕ) → n < 8 → get_or (seen_of l) (3 + n) 0 ≡ count_of_lane n l
unfolding seen_of
lane_cell l zero h = refl
lane_cell l (suc zero) h = refl
lane_cell l (suc (suc zero)) h = refl
lane_cell l (suc (suc (suc zero))) h = refl
lane_cell l (suc (suc (suc (suc zero)))) h = refl
lane_cell l (suc (suc (suc (suc (suc zero))))) h = refl
lane_cell l (suc (suc (suc (suc (suc (suc zero)))))) h = refl
lane_cell l (suc (suc (suc (suc (suc (suc (suc zero))))))) h = refl
lane_cell l (suc (suc (suc (suc (suc (suc (suc (suc n)))))))) h = absurd (omega arith)

pub count_cell : (l : List LogItem) → get_or (seen_of l) 0 0 ≡ length l
unfolding seen_of
count_cell l = refl

with_lane_lem : (l : List LogItem) (stamp n word : ℕ) → n < 8 → seen_with (seen_of l) (log_item stamp n word) ≡ seen_of (log_item stamp n word ∷ l)
unfolding seen_of seen_with count_of_lane
with_lane_lem l stamp zero word h = simp (add-one, add-zero)
with_lane_lem l stamp (suc zero) word h = simp (add-one, add-zero)
with_lane_lem l stamp (suc (suc zero)) word h = simp (add-one, add-zero)
with_lane_lem l stamp (suc (suc (suc zero))) word h = simp (add-one, add-zero)
with_lane_lem l stamp (suc (suc (suc (suc zero)))) word h = simp (add-one, add-zero)
with_lane_lem l stamp (suc (suc (suc (suc (suc zero))))) word h = simp (add-one, add-zero)
with_lane_lem l stamp (suc (suc (suc (suc (suc (suc zero)))))) word h = simp (add-one, add-zero)
with_lane_lem l stamp (suc (suc (suc (suc (suc (suc (suc zero))))))) word h = simp (add-one, add-zero)
with_lane_lem l stamp (suc (suc (suc (suc (suc (suc (suc (suc n)))))))) word h = absurd (omega arith)

-- one order more
pub seen_with_lem : (l : List LogItem) (x : LogItem) → in_range x ≡ true → seen_with (seen_of l) x ≡ seen_of (x ∷ l)
seen_with_lem l x h = with_lane_lem l x.stamp x.lane x.word (omega (arith, in_range_lem x h))

-- before the first record any stamp rises
rises_first : (l : List LogItem) (x : LogItem) → in_range x ≡ true → rises_by (seen_of l) x ≡ rises_after l x
unfolding seen_of rises_after rises
rises_first [] x h = rw (lt-ltb 0 x.stamp (in_range_lem x h).0)
rises_first (y ∷ l) x h = refl

-- the cells judge as the records do
pub seen_judges : (l : List LogItem) (x : LogItem) → refusal_by (seen_of l) x ≡ item_refusal l x
unfolding refusal_by item_refusal
seen_judges l x = grind (arith, nat_tests, rises_first, lane_cell, count_cell, in_range_lem)
