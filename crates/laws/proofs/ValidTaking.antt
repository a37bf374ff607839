-- Taking an order keeps a record valid: order (lane, last taken + 1) with a stamp. Assumes nothing.
use mathlib.Core.Path.{◌≡◌, sym, ◌∙◌}
use mathlib.Core.List.{List}
use mathlib.Core.Logic.{◌⊎◌, inl, inr, ◌≢◌}
use mathlib.Core.Bool.{true, false}
use Prim.Native.Nat.{ℕ, ◌+◌, ◌/◌, ◌%◌, ◌<◌, ◌≤◌}
use native.Mathlib.Omega.{arith}
use lib.Dec.{ltb}
use lib.ListN.{length, get_or, length-set}
use borrow.Author.Tests.{lt-ltb, le-ltb}
use Rattle.cells.specs.Tables.{order_place}
use Rattle.cells.proofs.Places.{order_place_lem, order_inside}
use Rattle.post.specs.declared.Post.{Post}
use Rattle.post.specs.Record.{last_of, with_clock}
use Rattle.post.specs.Taking.{kept}
use Rattle.deliver.specs.Delivery.{is_taken, stamp_at}
use Rattle.judge.specs.Judgement.{word_at, logged_at}
use Rattle.laws.proofs.TestLaws.{same_or_not, below_or_not, not_both}
use Rattle.laws.proofs.TableLaws.{set_below, order_taken, kept_last_same, kept_last_other, kept_stamp_same, kept_stamp_other, kept_word_other}
use Rattle.laws.proofs.Valid.{Shaped, Valid}

-- ---- another clock and table

-- a record with another clock, own serial and table is one of its type
pub clock_shaped : (p : Post) (clock serial : ℕ) (table : List ℕ) → clock < 65536 → length table ≡ 136 → ((i : ℕ) → get_or table i 0 < 65536)
    → Shaped p
    → Shaped (with_clock p clock serial table)
clock_shaped p clock serial table c l h s = record {
  last = s.last;
  table = l;
  stamps = s.stamps;
  words = s.words;
  log = s.log;
  table_values = h;
  stamp_values = s.stamp_values;
  word_values = s.word_values;
  clock = c;
  posts = s.posts;
  sources = s.sources;
  dests = s.dests;
}

-- refusal 12 looks neither at the clock nor at the table
pub clock_valid : (p : Post) (clock : ℕ) (table : List ℕ) → Valid p → Valid (with_clock p clock p.serial.0 table)
clock_valid p clock table v = record {
  lane = v.lane;
  serial = v.serial;
  logged = v.logged;
  last = v.last;
  sources = v.sources;
  dests = v.dests;
  own = v.own;
  present = v.present;
  beyond = v.beyond;
  once = v.once;
  places = v.places;
  taken = v.taken;
  rest = v.rest;
}

-- ---- an order is kept

-- a record with another order is one of its type
pub kept_shaped : (p : Post) (q n stamp word : ℕ) → stamp < 65536 → word < 65536 → Shaped p → Shaped (kept p q n stamp word)
unfolding kept
kept_shaped p q n stamp word a b s = record {
  last = length-set p.last q n ∙ s.last;
  table = s.table;
  stamps = length-set p.stamps (order_place q n) stamp ∙ s.stamps;
  words = length-set p.words (order_place q n) word ∙ s.words;
  log = s.log;
  table_values = s.table_values;
  stamp_values = set_below p.stamps (order_place q n) stamp 65536 a s.stamp_values;
  word_values = set_below p.words (order_place q n) word 65536 b s.word_values;
  clock = s.clock;
  posts = s.posts;
  sources = s.sources;
  dests = s.dests;
}

module _ (p : Post) (q n stamp word : ℕ) (s : length p.last ≡ 8) (h : q < 8) (next : n ≡ last_of p q + 1) where
  -- the order is taken now
  pub kept_taken_same : n ≤ 16 → is_taken (kept p q n stamp word) (order_place q n) ≡ true
  kept_taken_same b =
      order_taken (kept p q n stamp word) q n (omega arith) b (omega (arith, kept_last_same p q n stamp word s h))

  -- and the others as before
  pub kept_taken_other : n ≤ 16 → (place : ℕ) → place ≢ order_place q n → is_taken (kept p q n stamp word) place ≡ is_taken p place
  kept_taken_other b place d = go (same_or_not (place / 16) q)
    where
      same : (a l m : ℕ) → m ≡ l + 1 → a ≢ l → ltb a m ≡ ltb a l
      same a l m e c = pick (below_or_not a l)
        where
          pick : (a < l) ⊎ (l ≤ a) → ltb a m ≡ ltb a l
          pick (inl k) = lt-ltb a m (omega arith) ∙ sym (lt-ltb a l k)
          pick (inr k) = le-ltb a m (omega arith) ∙ sym (le-ltb a l k)

      elsewhere : place / 16 ≡ q → place % 16 ≢ last_of p q
      elsewhere e k = d (omega (arith, order_place_lem q n (omega arith) b))

      go : (place / 16 ≡ q) ⊎ (place / 16 ≢ q) → is_taken (kept p q n stamp word) place ≡ is_taken p place
      go (inl e) =
          rw (e, kept_last_same p q n stamp word s h) (same (place % 16) (last_of p q) n next (elsewhere e))
      go (inr e) = rw (kept_last_other p q n stamp word (place / 16) e)

-- a valid record in which the next order of a lane is kept, under an own serial that is still the last taken from its own lane
pub kept_valid : (p : Post) (clock serial : ℕ) (table : List ℕ) (q n stamp word : ℕ) → Shaped p → Valid p → q < 8 → n ≡ last_of p q + 1
    → n ≤ 16 → 0 < stamp → serial ≤ 16 → (p.lane ≡ q → serial ≡ n) → (p.lane ≢ q → serial ≡ p.serial.0)
    → Valid (kept (with_clock p clock serial table) q n stamp word)
unfolding kept
kept_valid p clock serial table q n stamp word s v h next b c d e f = record {
  lane = v.lane;
  serial = d;
  logged = v.logged;
  last = λ i l. few i l (same_or_not i q);
  sources = v.sources;
  dests = v.dests;
  own = own (same_or_not p.lane q);
  present = λ place l t. present place l t (same_or_not place (order_place q n));
  beyond = λ place l t. beyond place l t (same_or_not place (order_place q n));
  once = v.once;
  places = v.places;
  taken = λ k l. stays (logged_at p k) (v.taken k l) (same_or_not (logged_at p k) (order_place q n));
  rest = v.rest;
}
  where
    w : Post
    w = with_clock p clock serial table

    x : Post
    x = kept w q n stamp word

    small : order_place q n < 128
    small = order_inside q n h (omega arith) b

    few : (i : ℕ) → i < 8 → (i ≡ q) ⊎ (i ≢ q) → last_of x i ≤ 16
    few i l (inl k) = rw k (omega (arith, kept_last_same w q n stamp word s.last h))
    few i l (inr k) = omega (arith, kept_last_other w q n stamp word i k, v.last i l)

    own : (p.lane ≡ q) ⊎ (p.lane ≢ q) → serial ≡ last_of x p.lane
    own (inl k) = rw k (e k ∙ sym (kept_last_same w q n stamp word s.last h))
    own (inr k) = f k ∙ v.own ∙ sym (kept_last_other w q n stamp word p.lane k)

    was : (place : ℕ) → place ≢ order_place q n → is_taken x place ≡ is_taken p place
    was place k = kept_taken_other w q n stamp word s.last h next b place k

    present : (place : ℕ) → place < 128 → is_taken x place ≡ true → (place ≡ order_place q n) ⊎ (place ≢ order_place q n) → 0 < stamp_at x place
    present place l t (inl k) = rw k (omega (arith, kept_stamp_same w q n stamp word s.stamps small))
    present place l t (inr k) = omega (arith, kept_stamp_other w q n stamp word place k, v.present place l (sym (was place k) ∙ t))

    beyond : (place : ℕ) → place < 128 → is_taken x place ≡ false → (place ≡ order_place q n) ⊎ (place ≢ order_place q n)
        → (stamp_at x place ≡ 0) × (word_at x place ≡ 0)
    beyond place l t (inl k) =
        absurd (not_both (is_taken x (order_place q n)) (kept_taken_same w q n stamp word s.last h next b) (rw k at t))
    beyond place l t (inr k) =
        let r = v.beyond place l (sym (was place k) ∙ t) in
        (kept_stamp_other w q n stamp word place k ∙ r.0, kept_word_other w q n stamp word place k ∙ r.1)

    stays : (place : ℕ) → is_taken p place ≡ true → (place ≡ order_place q n) ⊎ (place ≢ order_place q n) → is_taken x place ≡ true
    stays place t (inl k) = rw k (kept_taken_same w q n stamp word s.last h next b)
    stays place t (inr k) = was place k ∙ t
