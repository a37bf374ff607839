-- What a frame has that is not refused, field by field. Assumes nothing.
use mathlib.Core.Path.{◌≡◌, ap}
use mathlib.Core.Logic.{◌⊎◌, inl, inr}
use mathlib.Core.Bool.{Bool, true, false, cond, not, ◌&&◌, ◌||◌}
use Prim.Native.Nat.{ℕ, ◌<◌, ◌≤◌}
use native.Mathlib.Omega.{arith}
use lib.Dec.{ltb, eqb}
use borrow.Author.Tests.{ltb-false, eqb-true, eq-eqb, not-false}
use Rattle.frame.specs.Layout.{entry_of}
use Rattle.frame.specs.Refusals.{bad_kind, bad_beacon, bad_order, bad_sender, bad_entry, bad_entries, frame_refusal}
use Rattle.frame.specs.declared.Entry.{Entry}
use Rattle.frame.specs.declared.Frame.{Frame}
use Rattle.frame.proofs.Laws.{passed}
use Rattle.laws.proofs.TestLaws.{true_or_false, zero_of, above_zero, and_second, or_parts, none_each}

-- the order that a frame carries
pub record GoodOrder (f : Frame) : Type 0 where
  pub lane : f.lane < 8
  pub some : 0 < f.serial.0
  pub serial : f.serial.0 ≤ 16
  pub stamp : 0 < f.stamp.0

-- a frame that 7 to 11 do not turn down
pub record Accepted (f : Frame) : Type 0 where
  pub kind : (f.kind ≡ 1) ⊎ (f.kind ≡ 2)
  pub order : f.kind ≡ 1 → GoodOrder f
  pub beacon : f.kind ≡ 2 → (f.lane ≡ 0) × (f.serial.0 ≡ 0) × (f.stamp.0 ≡ 0) × (f.word ≡ 0)
  pub sender : f.sender < 8
  pub serials : (i : ℕ) → i < 8 → (entry_of f i).serial.0 ≤ 16
  pub none : (i : ℕ) → i < 8 → (entry_of f i).stamp.0 ≡ 0 → (entry_of f i).serial.0 ≡ 0

-- a kind that 7 does not turn down is 1 or 2
kind_of : (k : ℕ) → (not (eqb k 1) && not (eqb k 2)) ≡ false → (k ≡ 1) ⊎ (k ≡ 2)
kind_of k e = go (true_or_false (eqb k 1))
  where
    go : (eqb k 1 ≡ true) ⊎ (eqb k 1 ≡ false) → (k ≡ 1) ⊎ (k ≡ 2)
    go (inl q) = inl (eqb-true k 1 q)
    go (inr q) = inr (eqb-true k 2 (not-false (eqb k 2) (and_second (not (eqb k 1)) (not (eqb k 2)) e (ap not q))))

-- an order frame that 9 does not turn down has a lane, a serial and a stamp in their ranges
order_good : (f : Frame) → bad_order f ≡ false → f.kind ≡ 1 → GoodOrder f
order_good f e k =
    let a = and_second (eqb f.kind 1) (ltb 7 f.lane || eqb f.serial.0 0 || ltb 16 f.serial.0 || eqb f.stamp.0 0) e (eq-eqb f.kind 1 k) in
    let b = or_parts (ltb 7 f.lane || eqb f.serial.0 0 || ltb 16 f.serial.0) (eqb f.stamp.0 0) a in
    let c = or_parts (ltb 7 f.lane || eqb f.serial.0 0) (ltb 16 f.serial.0) b.0 in
    let d = or_parts (ltb 7 f.lane) (eqb f.serial.0 0) c.0 in
    record {
      lane = omega (arith, ltb-false 7 f.lane d.0);
      some = above_zero f.serial.0 d.1;
      serial = ltb-false 16 f.serial.0 c.1;
      stamp = above_zero f.stamp.0 b.1;
    }

-- a beacon frame that 8 does not turn down has zeros for lane, serial, stamp and word
beacon_good : (f : Frame) → bad_beacon f ≡ false → f.kind ≡ 2 → (f.lane ≡ 0) × (f.serial.0 ≡ 0) × (f.stamp.0 ≡ 0) × (f.word ≡ 0)
beacon_good f e k =
    let some : Bool = not (eqb f.lane 0) || not (eqb f.serial.0 0) || not (eqb f.stamp.0 0) || not (eqb f.word 0) in
    let a = and_second (eqb f.kind 2) some e (eq-eqb f.kind 2 k) in
    let b = or_parts (not (eqb f.lane 0) || not (eqb f.serial.0 0) || not (eqb f.stamp.0 0)) (not (eqb f.word 0)) a in
    let c = or_parts (not (eqb f.lane 0) || not (eqb f.serial.0 0)) (not (eqb f.stamp.0 0)) b.0 in
    let d = or_parts (not (eqb f.lane 0)) (not (eqb f.serial.0 0)) c.0 in
    (zero_of f.lane d.0, zero_of f.serial.0 d.1, zero_of f.stamp.0 c.1, zero_of f.word b.1)

-- an entry that 11 does not turn down has a serial up to 16, and serial 0 where it has no stamp
entry_good : (e : Entry) → bad_entry e ≡ false → (e.serial.0 ≤ 16) × (e.stamp.0 ≡ 0 → e.serial.0 ≡ 0)
entry_good e h =
    let a = or_parts (ltb 16 e.serial.0) (eqb e.stamp.0 0 && not (eqb e.serial.0 0)) h in (
      ltb-false 16 e.serial.0 a.0,
      λ z. zero_of e.serial.0 (and_second (eqb e.stamp.0 0) (not (eqb e.serial.0 0)) a.1 (eq-eqb e.stamp.0 0 z)),
    )

-- a frame that is not refused is accepted by each rule
pub accepted : (f : Frame) → frame_refusal f ≡ 0 → Accepted f
unfolding frame_refusal bad_entries
accepted f z =
    let r11 : ℕ = cond (bad_entries f) 11 0 in
    let r10 : ℕ = cond (bad_sender f) 10 r11 in
    let r9 : ℕ = cond (bad_order f) 9 r10 in
    let r8 : ℕ = cond (bad_beacon f) 8 r9 in
    let a = passed (bad_kind f) 7 r8 (omega arith) z in
    let b = passed (bad_beacon f) 8 r9 (omega arith) a.1 in
    let c = passed (bad_order f) 9 r10 (omega arith) b.1 in
    let d = passed (bad_sender f) 10 r11 (omega arith) c.1 in
    let e = passed (bad_entries f) 11 0 (omega arith) d.1 in
    let each = none_each (λ (lane : ℕ). bad_entry (entry_of f lane)) 8 e.0 in
    record {
      kind = kind_of f.kind a.0;
      order = order_good f c.0;
      beacon = beacon_good f b.0;
      sender = omega (arith, ltb-false 7 f.sender d.0);
      serials = λ i l. (entry_good (entry_of f i) (each i l)).0;
      none = λ i l. (entry_good (entry_of f i) (each i l)).1;
    }
