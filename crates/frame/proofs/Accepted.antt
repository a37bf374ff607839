-- What a frame that no refusal meets has in its fields of one byte: never 255. Assumes nothing.
use mathlib.Core.Path.{◌≡◌, refl}
use mathlib.Core.Bool.{Bool, true, false, not, ◌&&◌, ◌||◌}
use Prim.Native.Nat.{ℕ, zero, suc, ◌<◌}
use native.Mathlib.Omega.{arith}
use borrow.Author.Tests.{eqb-true, eqb-false, ltb-false, not-false}
use lib.Dec.{ltb, eqb}
use Rattle.frame.specs.Lanes.{any_below}
use Rattle.frame.specs.Layout.{entry_of}
use Rattle.frame.specs.Refusals.{bad_kind, bad_beacon, bad_order, bad_sender, bad_entry, bad_entries, frame_refusal}
use Rattle.frame.specs.declared.Entry.{Entry}
use Rattle.frame.specs.declared.Frame.{Frame}
use Rattle.frame.proofs.Laws.{passed}

pub record Below255 (f : Frame) : Type 0 where
  pub kind : f.kind < 255
  pub sender : f.sender < 255
  pub lane : f.lane < 255
  pub serial : f.serial.0 < 255
  pub serials : (lane : ℕ) → lane < 8 → (entry_of f lane).serial.0 < 255

neither : (a b : Bool) → (a || b) ≡ false → (a ≡ false) × (b ≡ false)
neither true b e = absurd (let z : ◌≡◌ {A = ℕ} 0 1 = cc in omega arith)
neither false b e = (refl, e)

last_or_before : (test : ℕ → Bool) (n : ℕ) → ((i : ℕ) → i < n → test i ≡ false) → test n ≡ false → (i : ℕ) → i < suc n → test i ≡ false
last_or_before test n before last i h = go (eqb i n) refl
  where
    go : (t : Bool) → eqb i n ≡ t → test i ≡ false
    go true e = rw (eqb-true i n e) last
    go false e = before i (let other : i ≡ n → ⊥ = eqb-false i n e in omega arith)

none_below : (test : ℕ → Bool) (n : ℕ) → any_below test n ≡ false → (i : ℕ) → i < n → test i ≡ false
unfolding any_below
none_below test zero e i h = absurd (omega arith)
none_below test (suc n) e i h = let p = neither (any_below test n) (test n) e in last_or_before test n (none_below test n p.0) p.1 i h

small_entry : (e : Entry) → bad_entry e ≡ false → e.serial.0 < 255
small_entry e h = omega (arith, ltb-false 16 e.serial.0 (neither _ _ h).0)

-- an order frame and a beacon have a small lane and a small serial
small_start : (kind lane serial : ℕ) (a b c : Bool) → (not (eqb kind 1) && not (eqb kind 2)) ≡ false
    → (eqb kind 2 && (not (eqb lane 0) || not (eqb serial 0) || a || b)) ≡ false
    → (eqb kind 1 && (ltb 7 lane || eqb serial 0 || ltb 16 serial || c)) ≡ false
    → (kind < 255) × (lane < 255) × (serial < 255)
small_start kind lane serial a b c no_kind no_beacon no_order = go (eqb kind 1) refl (eqb kind 2) refl no_kind no_beacon no_order
  where
    go : (is-order : Bool) → eqb kind 1 ≡ is-order → (is-beacon : Bool) → eqb kind 2 ≡ is-beacon → (not is-order && not is-beacon) ≡ false
        → (is-beacon && (not (eqb lane 0) || not (eqb serial 0) || a || b)) ≡ false
        → (is-order && (ltb 7 lane || eqb serial 0 || ltb 16 serial || c)) ≡ false
        → (kind < 255) × (lane < 255) × (serial < 255)
    go true p is-beacon q k h o =
        let s = neither (ltb 7 lane || eqb serial 0) (ltb 16 serial) (neither (ltb 7 lane || eqb serial 0 || ltb 16 serial) c o).0 in
        let l = neither (ltb 7 lane) (eqb serial 0) s.0 in
        (omega (arith, eqb-true kind 1 p), omega (arith, ltb-false 7 lane l.0), omega (arith, ltb-false 16 serial s.1))
    go false p true q k h o =
        let s = neither (not (eqb lane 0) || not (eqb serial 0)) a (neither (not (eqb lane 0) || not (eqb serial 0) || a) b h).0 in
        let l = neither (not (eqb lane 0)) (not (eqb serial 0)) s.0 in
        (omega (arith, eqb-true kind 2 q), omega (arith, eqb-true lane 0 (not-false _ l.0)), omega (arith, eqb-true serial 0 (not-false _ l.1)))
    go false p false q k h o = absurd (let z : ◌≡◌ {A = ℕ} 0 1 = cc in omega arith)

pub below_255 : (f : Frame) → frame_refusal f ≡ 0 → Below255 f
unfolding frame_refusal bad_entries
below_255 f e =
    let kind = passed (bad_kind f) 7 _ (omega arith) e in
    let beacon = passed (bad_beacon f) 8 _ (omega arith) kind.1 in
    let order = passed (bad_order f) 9 _ (omega arith) beacon.1 in
    let sender = passed (bad_sender f) 10 _ (omega arith) order.1 in
    let entries = passed (bad_entries f) 11 0 (omega arith) sender.1 in
    let small = small_start f.kind f.lane f.serial.0 _ _ _ kind.0 beacon.0 order.0 in
    record {
      kind = small.0;
      sender = omega (arith, ltb-false 7 f.sender sender.0);
      lane = small.1;
      serial = small.2;
      serials = λ lane h. small_entry (entry_of f lane) (none_below (λ (i : ℕ). bad_entry (entry_of f i)) 8 entries.0 lane h);
    }
