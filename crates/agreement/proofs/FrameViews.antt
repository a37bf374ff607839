-- The frames that a post broadcasts, read as the model's frames: each lane's newest entry is the model's. Assumes nothing.
use mathlib.Core.Path.{◌≡◌, refl, sym, ◌∙◌, fun_ext}
use mathlib.Core.Logic.{◌⊎◌, inl, inr}
use mathlib.Core.Bool.{Bool, true, false, cond, ◌&&◌}
use mathlib.Core.List.{List}
use Prim.Native.Nat.{ℕ, zero, suc, ◌<◌, ◌≤◌}
use native.Mathlib.Omega.{arith}
use lib.Dec.{ltb, leb, eqb}
use lib.ListN.{length, get_or, get_or-eq_default}
use borrow.Author.Tests.{ltb-true, ltb-false, leb-true, le-leb, eq-eqb, ne_eqb}
use Rattle.frame.specs.Layout.{no_entry}
use Rattle.frame.specs.declared.Entry.{Entry}
use Rattle.cells.specs.Tables.{stamp_under}
use Rattle.post.specs.declared.Post.{Post}
use Rattle.post.specs.Newest.{newer, newest_below, newest_entries, order_frame, beacon_frame}
use Rattle.laws.proofs.TestLaws.{below_or_not}
use Rattle.laws.proofs.NewestLaws.{newest_entry}
use Rattle.laws.proofs.Valid.{Shaped}
use Rattle.model.proofs.Model.{best, newest_stamp, newest_serial, entries_frame, no_order_lem}
use Rattle.agreement.proofs.Views.{post_view, frame_view}
use Rattle.agreement.proofs.ArrayViews.{serials_of, stamps_of, table_past}

-- ---- the newest entry of a lane

-- a serial, and 0 where its stamp is 0
abbrev serial_if : (ℕ → ℕ) → ℕ → ℕ
serial_if T n = cond (eqb (T n) 0) 0 n

-- an entry has a serial's stamp, and the serial where there is a stamp
abbrev Says : (ℕ → ℕ) → ℕ → Entry → Type 0
Says T n e = (e.stamp.0 ≡ T n) × (e.serial.0 ≡ serial_if T n)

-- an entry by serial and stamp
abbrev entry : ℕ → ℕ → Entry
entry serial stamp = record { serial = record { 0 = serial }; stamp = record { 0 = stamp } }

-- serial 0 is looked at
says_first : (T : ℕ → ℕ) (a : Bool) → ltb 0 (T 0) ≡ a → Says T 0 (cond (a && leb 0 (T 0)) (entry 0 (T 0)) no_entry)
says_first T true e = rw (le-leb 0 (T 0) (omega arith)) (refl, none (eqb (T 0) 0))
  where
    none : (b : Bool) → ◌≡◌ {A = ℕ} 0 (cond b 0 0)
    none true = refl
    none false = refl
says_first T false e = let z : T 0 ≡ 0 = omega (arith, ltb-false 0 (T 0) e) in rw z (refl, refl)

-- one serial more is looked at: the higher stamp wins, of equals the later
says_next : (T : ℕ → ℕ) (k old : ℕ) (e : Entry) → Says T old e → (a b : Bool) → ltb 0 (T (suc k)) ≡ a → leb e.stamp.0 (T (suc k)) ≡ b
    → Says T (cond b (suc k) old) (cond (a && b) (entry (suc k) (T (suc k))) e)
says_next T k old e h true true p q =
    (refl, rw (ne_eqb (T (suc k)) 0 (λ z. omega (arith, ltb-true 0 (T (suc k)) p))))
says_next T k old e h true false p q = h
says_next T k old e h false true p q =
    let new : T (suc k) ≡ 0 = omega (arith, ltb-false 0 (T (suc k)) p) in
    let before : T old ≡ 0 = omega (arith, h.0, leb-true e.stamp.0 (T (suc k)) q) in
    (h.0 ∙ before ∙ sym new, h.1 ∙ rw (eq-eqb (T old) 0 before, eq-eqb (T (suc k)) 0 new))
says_next T k old e h false false p q = h

-- so for the serials of a table: the first
newer_first : (t : List ℕ) (i : ℕ) → Says (stamp_under t i) 0 (newer t i 0 no_entry)
unfolding newer
newer_first t i = says_first (stamp_under t i) (ltb 0 (stamp_under t i 0)) refl

-- and one more
newer_next : (t : List ℕ) (i k old : ℕ) (e : Entry) → Says (stamp_under t i) old e
    → Says (stamp_under t i) (cond (leb (stamp_under t i old) (stamp_under t i (suc k))) (suc k) old) (newer t i (suc k) e)
unfolding newer
newer_next t i k old e p =
    let T : ℕ → ℕ = stamp_under t i in
    rw (← p.0) (says_next T k old e p (ltb 0 (T (suc k))) (leb e.stamp.0 (T (suc k))) refl refl)

-- the newest entry of the serials up to k
newest_best : (t : List ℕ) (i k : ℕ) → Says (stamp_under t i) (best (stamp_under t i) k) (newest_below t i (suc k))
unfolding best newest_below
newest_best t i zero = newer_first t i
newest_best t i (suc k) = newer_next t i k (best (stamp_under t i) k) (newest_below t i (suc k)) (newest_best t i k)

-- ---- the entries of a broadcast

-- of a lane past the last one there is none
entry_past : (t : List ℕ) (i : ℕ) → 8 ≤ i → get_or (newest_entries t) i no_entry ≡ no_entry
unfolding newest_entries
entry_past t i h = get_or-eq_default (newest_entries t) no_entry {n = i} h

-- each lane's entry is the model's newest entry
entry_best : (t : List ℕ) (i : ℕ) → length t ≡ 136 → Says (stamp_under t i) (best (stamp_under t i) 16) (get_or (newest_entries t) i no_entry)
entry_best t i e = go (below_or_not i 8)
  where
    go : (i < 8) ⊎ (8 ≤ i) → Says (stamp_under t i) (best (stamp_under t i) 16) (get_or (newest_entries t) i no_entry)
    go (inl l) = rw (newest_entry t i l) (newest_best t i 16)
    go (inr l) = rw (entry_past t i l, table_past t i (best (stamp_under t i) 16) e l) (refl, refl)

-- the serials of all entries
pub entry_serials : (t : List ℕ) → length t ≡ 136 → serials_of (newest_entries t) ≡ (λ (i : ℕ). newest_serial (stamp_under t i))
entry_serials t e = fun_ext (λ i. (entry_best t i e).1)

-- and their stamps
pub entry_stamps : (t : List ℕ) → length t ≡ 136 → stamps_of (newest_entries t) ≡ (λ (i : ℕ). newest_stamp (stamp_under t i))
entry_stamps t e = fun_ext (λ i. (entry_best t i e).0)

-- ---- the frames

-- an order that a post broadcasts
pub view_order_frame : (p : Post) (lane serial stamp word : ℕ) → Shaped p
    → frame_view (order_frame p lane serial stamp word)
    ≡ entries_frame false p.lane (record { lane = lane; serial = serial; stamp = stamp; word = word }) (post_view p)
view_order_frame p lane serial stamp word s = λ t. record {
  beacon = false;
  sender = p.lane;
  carried = record { lane = lane; serial = serial; stamp = stamp; word = word };
  entry_serial = entry_serials p.table s.table t;
  entry_stamp = entry_stamps p.table s.table t;
}

-- a beacon
pub view_beacon_frame : (p : Post) → Shaped p → frame_view (beacon_frame p) ≡ entries_frame true p.lane no_order_lem (post_view p)
view_beacon_frame p s = λ t. record {
  beacon = true;
  sender = p.lane;
  carried = no_order_lem;
  entry_serial = entry_serials p.table s.table t;
  entry_stamp = entry_stamps p.table s.table t;
}
