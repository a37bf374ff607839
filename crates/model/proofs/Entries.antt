-- Entries: what a broadcast carries and what hearing it does to the table. The rest of the proof uses of both only what stands here.
-- Assumes nothing.
use mathlib.Core.Path.{◌≡◌, refl, sym, ap, ◌∙◌}
use mathlib.Core.Logic.{◌⊎◌, inl, inr, ◌≢◌}
use mathlib.Core.Bool.{Bool, true, false, cond}
use Prim.Native.Nat.{ℕ, zero, suc, ◌≤◌, ◌<◌, max}
use native.Mathlib.Omega.{arith}
use lib.Dec.{leb, eqb}
use borrow.Author.Tests.{eqb-true, eq-eqb, ne_eqb, le-leb, lt-leb}
use Rattle.laws.proofs.TestLaws.{same_or_not}
use Rattle.roll.specs.Runs.{Order}
use Rattle.model.proofs.Functions.{le_or_not}
use Rattle.model.proofs.Model.{Frame, Post, Roles, Yard, best, newest_stamp, entries_frame, no_order_lem, raise}
use Rattle.model.proofs.Invariants.{Posts, Holds, Sent, Knows, SelfOk, FrameOk, YardOk}

-- ---- hearing raises the table

-- of two true entries for one serial the higher is true
holds_max : (W : Posts) (i n a b : ℕ) → (0 < a → Holds W i n a) → (0 < b → Holds W i n b) → 0 < max a b → Holds W i n (max a b)
holds_max W i n a b f g h = go (le_or_not a b)
  where
    go : (a ≤ b) ⊎ (b < a) → Holds W i n (max a b)
    go (inl l) = let e : max a b ≡ b = omega arith in rw e (g (omega arith))
    go (inr l) = let e : max a b ≡ a = omega arith in rw e (f (omega arith))

-- a true table raised by true entries is true
pub raise_true : (W : Posts) (t : ℕ → ℕ → ℕ) (e s : ℕ → ℕ)
    → ((i n : ℕ) → 0 < t i n → Holds W i n (t i n)) → ((i : ℕ) → 0 < s i → Holds W i (e i) (s i))
    → (i n : ℕ) → 0 < raise t e s i n → Holds W i n (raise t e s i n)
unfolding raise
raise_true W t e s f g i n = go (eqb n (e i)) refl
  where
    go : (b : Bool) → eqb n (e i) ≡ b → 0 < cond b (max (t i n) (s i)) (t i n) → Holds W i n (cond b (max (t i n) (s i)) (t i n))
    go true q h = holds_max W i n (t i n) (s i) (f i n) (rw (eqb-true n (e i) q) (g i)) h
    go false q h = f i n h

-- a true entry of the hearer's own lane does not raise what it has at its own serial
pub raise_own : (R : Roles) (W : Posts) (p : ℕ) (e s : ℕ → ℕ) → SelfOk R p (W p) → R.source p ≡ true
    → (0 < s p → Holds W p (e p) (s p)) → raise (W p).table e s p (W p).own ≡ (W p).table p (W p).own
unfolding raise
raise_own R W p e s o b h = go (eqb (W p).own (e p)) (low (le_or_not (s p) 0))
  where
    low : (s p ≤ 0) ⊎ (0 < s p) → s p ≤ (W p).table p (W p).own
    low (inl l) = omega arith
    low (inr l) = omega (arith, (h l).clock_reached, o.own_entry b)

    go : (b : Bool) → s p ≤ (W p).table p (W p).own
        → cond b (max ((W p).table p (W p).own) (s p)) ((W p).table p (W p).own) ≡ (W p).table p (W p).own
    go true l = omega arith
    go false l = refl

-- the table reaches the stamp of an entry at its serial
pub raise_reach : (t : ℕ → ℕ → ℕ) (e s : ℕ → ℕ) (i n : ℕ) → n ≡ e i → s i ≤ raise t e s i n
unfolding raise
raise_reach t e s i n q = rw (eq-eqb n (e i) q) (omega arith)

-- and sinks nowhere
pub raise_up : (t : ℕ → ℕ → ℕ) (e s : ℕ → ℕ) (i n : ℕ) → t i n ≤ raise t e s i n
unfolding raise
raise_up t e s i n = go (eqb n (e i))
  where
    go : (b : Bool) → t i n ≤ cond b (max (t i n) (s i)) (t i n)
    go true = omega arith
    go false = omega arith

-- ---- a broadcast carries the newest entry of each lane

-- each entry with a stamp is true
pub broadcast_true : (W : Posts) (P : Post) (b : Bool) (p : ℕ) (o : Order) → ((i n : ℕ) → 0 < P.table i n → Holds W i n (P.table i n))
    → (i : ℕ) → 0 < (entries_frame b p o P).entry_stamp i → Holds W i ((entries_frame b p o P).entry_serial i) ((entries_frame b p o P).entry_stamp i)
broadcast_true W P b p o k i h = rw (ne_eqb (newest_stamp (P.table i)) 0 (omega arith)) (k i (best (P.table i) 16) h)

-- so what a post of the yard broadcasts is as frames are
pub broadcast_ok_lem : (R : Roles) (W : Posts) (P : Post) (b : Bool) (p : ℕ) (o : Order)
    → R.present p ≡ true → Knows R W P → (b ≡ false → Sent W o) → FrameOk R W (entries_frame b p o P)
broadcast_ok_lem R W P b p o present k s = record {
  entries_hold = broadcast_true W P b p o k.entries_true;
  order_sent = s;
  sender_present = present;
  empty_entries = λ i e. rw (eq-eqb (newest_stamp (P.table i)) 0 e) refl;
}

-- the newest entry is the highest, where one is above all others
best_at : (T : ℕ → ℕ) (m k : ℕ) → m ≤ k → ((n : ℕ) → n ≢ m → T n < T m) → best T k ≡ m
unfolding best
best_at T m zero l h = omega arith
best_at T m (suc k) l h = go (same_or_not m (suc k)) (best_at T m k)
  where
    low : (b : ℕ) → b ≡ suc k ⊎ b ≢ suc k → m ≡ suc k → T b ≤ T (suc k)
    low b (inl q) e = rw q (omega arith)
    low b (inr q) e = omega (arith, rw e at (h b (λ z. q (z ∙ e))))

    go : (m ≡ suc k) ⊎ (m ≢ suc k) → (m ≤ k → ((n : ℕ) → n ≢ m → T n < T m) → best T k ≡ m)
        → cond (leb (T (best T k)) (T (suc k))) (suc k) (best T k) ≡ m
    go (inl e) ih = rw (le-leb (T (best T k)) (T (suc k)) (low (best T k) (same_or_not (best T k) (suc k)) e)) (sym e)
    go (inr e) ih = rw (ih (omega arith) h, lt-leb (T m) (T (suc k)) (h (suc k) (λ z. e (sym z)))) refl

-- f is a beacon of post i, and its entry of lane i is the own serial and the clock of post i; where the clock is 0 it may be none
pub record OwnBeacon (W : Posts) (i : ℕ) (f : Frame) : Type 0 where
  pub is_beacon : f.beacon ≡ true
  pub beacon_from : f.sender ≡ i
  pub says_own : 0 < (W i).clock → (f.entry_serial i ≡ (W i).own) × (f.entry_stamp i ≡ (W i).clock)

-- the sender's own entry of a source's beacon
pub own_beacon : (R : Roles) (Y : Yard) → YardOk R Y → (i : ℕ) → R.source i ≡ true
    → OwnBeacon Y.posts i (entries_frame true i no_order_lem (Y.posts i))
own_beacon R Y y i b = record {
  is_beacon = refl;
  beacon_from = refl;
  says_own = λ h. (rw (ne_eqb (newest_stamp T) 0 (omega (arith, stamp h))) (at_own h), stamp h);
}
  where
    P : Post
    P = Y.posts i

    T : ℕ → ℕ
    T = P.table i

    s : SelfOk R i P
    s = y.selves i

    -- its entry at its own serial is its clock, and all others of its lane are lower
    lower : 0 < P.clock → (n : ℕ) → n ≢ P.own → (T n ≤ 0) ⊎ (0 < T n) → T n < T P.own
    lower h n ne (inl l) = omega (arith, s.own_entry b)
    lower h n ne (inr l) = let e = (y.posts_ok i).knows.entries_true i n l in
        omega (
          arith,
          e.before_next (omega (arith, e.serial_sent)),
          s.own_entry b,
          s.stamps_under_clock (suc n) (omega arith) (omega (arith, e.serial_sent)),
        )

    at_own : 0 < P.clock → best T 16 ≡ P.own
    at_own h = best_at T P.own 16 s.own_at_most (λ n ne. lower h n ne (le_or_not (T n) 0))

    stamp : 0 < P.clock → newest_stamp T ≡ P.clock
    stamp h = ap T (at_own h) ∙ s.own_entry b
