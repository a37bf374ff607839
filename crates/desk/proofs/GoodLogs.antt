-- A log is good where its numbers are within range, it rises, and it has at most 128 orders, at most 16 of a lane. Assumes nothing.
use mathlib.Core.Path.{◌≡◌, refl, ap}
use mathlib.Core.Bool.{true, not, ◌&&◌, ◌||◌}
use mathlib.Core.List.{List, [], ◌∷◌, map}
use mathlib.Core.Logic.{◌⊎◌, inl, inr}
use Prim.Native.Nat.{ℕ, ◌+◌, ◌*◌, ◌<◌, ◌≤◌}
use native.Mathlib.Omega.{arith}
use lib.Dec.{ltb, leb, eqb}
use lib.ListN.{length}
use borrow.Author.Tests.{lt-ltb, le-ltb, le-leb, lt-leb, eq-eqb}
use Rattle.laws.specs.Lists.{Mem, RisingBy}
use Rattle.laws.proofs.TestLaws.{below_or_not, and_made, goes_on_lem}
use Rattle.csv_log.specs.declared.LogItem.{LogItem}
use Rattle.csv_log.specs.Log.{in_three, in_range, rises, rises_after, count_of_lane, item_refusal, first_bad, GoodLog}

-- ---- one record

-- an order's numbers are within document 01's ranges
pub record Ranged (x : LogItem) : Type 0 where
  pub some : 0 < x.stamp
  pub stamp : x.stamp ≤ 65535
  pub lane : x.lane ≤ 7
  pub word : x.word ≤ 65535

in_range_lem : (x : LogItem) → Ranged x → in_range x ≡ true
unfolding in_range
in_range_lem x r =
    and_made (ltb 0 x.stamp && leb x.stamp 65535 && leb x.lane 7) (leb x.word 65535)
    (and_made (ltb 0 x.stamp && leb x.stamp 65535) (leb x.lane 7)
    (and_made (ltb 0 x.stamp) (leb x.stamp 65535) (lt-ltb 0 x.stamp r.some) (le-leb x.stamp 65535 r.stamp))
    (le-leb x.lane 7 r.lane))
    (le-leb x.word 65535 r.word)

-- by stamp and then lane: `rank` of the order
abbrev pub item_rank : LogItem → ℕ
item_rank x = 8 * x.stamp + x.lane

-- of two orders of the eight lanes the one that ranks above rises after the other
rank_rises : (x y : LogItem) → x.lane ≤ 7 → y.lane ≤ 7 → item_rank x < item_rank y → rises x y ≡ true
unfolding rises
rank_rises x y a b h = go (below_or_not x.stamp y.stamp)
  where
    go : (x.stamp < y.stamp) ⊎ (y.stamp ≤ x.stamp) → (ltb x.stamp y.stamp || (eqb x.stamp y.stamp && ltb x.lane y.lane)) ≡ true
    go (inl l) = rw (lt-ltb x.stamp y.stamp l) refl
    go (inr l) =
        rw (le-ltb x.stamp y.stamp l, eq-eqb x.stamp y.stamp (omega arith), lt-ltb x.lane y.lane (omega arith)) refl

-- a record that is not refused after others
none_refused : (earlier : List LogItem) (x : LogItem) → Ranged x → rises_after earlier x ≡ true → length earlier < 128
    → count_of_lane x.lane earlier < 16 → item_refusal earlier x ≡ 0
unfolding item_refusal
none_refused earlier x r u l c =
    goes_on_lem (not (in_range x)) 31 _ (ap not (in_range_lem x r))
    (goes_on_lem (not (rises_after earlier x)) 32 _ (ap not u)
    (goes_on_lem (leb 128 (length earlier)) 32 _ (lt-leb 128 (length earlier) l)
    (goes_on_lem (leb 16 (count_of_lane x.lane earlier)) 32 0 (lt-leb 16 (count_of_lane x.lane earlier) c) refl)))

-- ---- all records

-- one more of a lane
count_here : (earlier l : List LogItem) (x : LogItem) → count_of_lane x.lane earlier + count_of_lane x.lane (x ∷ l) ≤ 16
    → count_of_lane x.lane earlier < 16
unfolding count_of_lane
count_here earlier l x h = omega (arith, rw (eq-eqb x.lane x.lane refl) at h)

-- an order goes from those that follow to those before
count_moves : (earlier l : List LogItem) (x : LogItem) (lane : ℕ) → count_of_lane lane earlier + count_of_lane lane (x ∷ l) ≤ 16
    → count_of_lane lane (x ∷ earlier) + count_of_lane lane l ≤ 16
unfolding count_of_lane
count_moves earlier l x lane h = omega arith

-- what follows others, the last of which is first
good_after : (earlier l : List LogItem) → ((x : LogItem) → Mem x l → Ranged x) → RisingBy item_rank l
    → ((x : LogItem) → Mem x l → rises_after earlier x ≡ true) → length earlier + length l ≤ 128
    → ((lane : ℕ) → count_of_lane lane earlier + count_of_lane lane l ≤ 16)
    → (first_bad earlier (map in_three l)).number ≡ 0
unfolding first_bad
good_after earlier [] r u a few each = refl
good_after earlier (x ∷ l) r u a few each =
    rw (eq-eqb (item_refusal earlier x) 0 good)
    (good_after (x ∷ earlier) l (λ y m. r y (inr m)) u.1 after (omega arith) (λ lane. count_moves earlier l x lane (each lane)))
  where
    good : item_refusal earlier x ≡ 0
    good = none_refused earlier x (r x (inl refl)) (a x (inl refl)) (omega arith) (count_here earlier l x (each x.lane))

    after : (y : LogItem) → Mem y l → rises_after (x ∷ earlier) y ≡ true
    after y m = unfold rises_after in rank_rises x y (r x (inl refl)).lane (r y (inr m)).lane (u.0 y m)

-- a whole log
pub good_log : (l : List LogItem) → ((x : LogItem) → Mem x l → Ranged x) → RisingBy item_rank l → length l ≤ 128
    → ((lane : ℕ) → count_of_lane lane l ≤ 16) → GoodLog l
good_log l r u few each = good_after [] l r u (λ x m. unfold rises_after in refl) (omega arith) (λ lane. unfold count_of_lane in omega (arith, each lane))
