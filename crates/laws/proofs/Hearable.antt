-- What an order and a hearing have that are not refused, condition by condition, and the other way round. Assumes nothing.
use mathlib.Core.Path.{◌≡◌, refl, ap}
use mathlib.Core.Logic.{◌≢◌}
use mathlib.Core.Bool.{Bool, true, false, not, ◌&&◌, ◌||◌}
use Prim.Native.Nat.{ℕ, ◌+◌, ◌<◌, ◌≤◌, max}
use native.Mathlib.Omega.{arith}
use lib.Dec.{ltb, leb, eqb}
use borrow.Author.Tests.{ltb-true, ltb-false, le-ltb, lt-ltb, leb-false, lt-leb, eqb-true, eqb-false, eq-eqb, ne_eqb, not-false, not-true}
use Rattle.frame.specs.Layout.{entry_of}
use Rattle.frame.specs.declared.Entry.{Entry}
use Rattle.frame.specs.declared.Frame.{Frame}
use Rattle.post.specs.declared.Post.{Post}
use Rattle.post.specs.Record.{is_post, is_source, last_of}
use Rattle.steps.specs.Refusals.{not_in_yard, order_refusal, is_order, is_next, clock_passes, own_broadcast, has_stamp, strange_entries, strange, last_stamp, not_above, beyond_own, hear_refusal}
use Rattle.steps.proofs.Passed.{order_passed, hear_passed}
use Rattle.laws.proofs.TestLaws.{and_parts, and_made, and_second, and_fails, or_parts, or_made, none_each, each_none, goes_on_lem}

-- ---- an order

-- an order at a post that 21 to 24 do not turn down
pub record Orderable (p : Post) : Type 0 where
  pub here : is_post p p.lane ≡ true
  pub source : is_source p p.lane ≡ true
  pub serial : p.serial.0 < 16
  pub clock : p.clock.0 < 65535

-- an order that is not refused passes each rule
pub orderable : (p : Post) → order_refusal p ≡ 0 → Orderable p
orderable p z =
    let a = order_passed p z in
    record {
      here = not-false (is_post p p.lane) a.0;
      source = not-false (is_source p p.lane) a.1;
      serial = leb-false 16 p.serial.0 a.2;
      clock = leb-false 65535 p.clock.0 a.3;
    }

-- ---- a hearing

-- the frame's order is the next of its lane
pub next_is : (f : Frame) (last : ℕ) → is_next f last ≡ true → (f.kind ≡ 1) × (f.serial.0 ≡ last + 1)
next_is f last e =
    let a = and_parts (is_order f) (eqb f.serial.0 (last + 1)) e in
    (eqb-true f.kind 1 a.0, eqb-true f.serial.0 (last + 1) a.1)

-- a hearing that 21, 24, 26 and 28 to 30 do not turn down
pub record Hearable (p : Post) (f : Frame) : Type 0 where
  pub here : is_post p p.lane ≡ true
  pub clock : is_next f (last_of p f.lane) ≡ true → is_source p p.lane ≡ true → max p.clock.0 f.stamp.0 < 65535
  pub other : f.sender ≢ p.lane
  pub sender : is_post p f.sender ≡ true
  pub source : f.kind ≡ 1 → is_source p f.lane ≡ true
  pub entries : (i : ℕ) → i < 8 → 0 < (entry_of f i).stamp.0 → is_source p i ≡ true
  pub above : is_next f (last_of p f.lane) ≡ true → 0 < last_of p f.lane → last_stamp p f < f.stamp.0
  pub own_order : f.kind ≡ 1 → f.lane ≡ p.lane → f.serial.0 ≤ p.serial.0
  pub own_entry : 0 < (entry_of f p.lane).stamp.0
      → ((entry_of f p.lane).serial.0 ≤ p.serial.0) × ((entry_of f p.lane).stamp.0 ≤ p.clock.0)

-- an entry has a stamp
stamp_there : (e : Entry) → 0 < e.stamp.0 → has_stamp e ≡ true
stamp_there e h = ap not (ne_eqb e.stamp.0 0 (λ z. omega arith))

-- and its stamp is above 0
there_stamp : (e : Entry) → has_stamp e ≡ true → 0 < e.stamp.0
there_stamp e h =
    let n : e.stamp.0 ≢ 0 = eqb-false e.stamp.0 0 (not-true (eqb e.stamp.0 0) h) in
    omega arith

-- a hearing that is not refused passes each rule
pub hearable : (p : Post) (f : Frame) → hear_refusal p f ≡ 0 → Hearable p f
unfolding strange_entries
hearable p f z =
    let last : ℕ = last_of p f.lane in
    let own : Entry = entry_of f p.lane in
    let a = hear_passed p f z in
    let late = and_second (is_next f last && is_source p p.lane) (leb 65535 (max p.clock.0 f.stamp.0)) a.1 in
    let odd = or_parts (not (is_post p f.sender) || (is_order f && not (is_source p f.lane))) (strange_entries p.sources f) a.3 in
    let known = or_parts (not (is_post p f.sender)) (is_order f && not (is_source p f.lane)) odd.0 in
    let low = and_second (is_next f last && ltb 0 last) (leb f.stamp.0 (last_stamp p f)) a.4 in
    let far : Bool = ltb p.serial.0 own.serial.0 || ltb p.clock.0 own.stamp.0 in
    let mine = or_parts (is_order f && eqb f.lane p.lane && ltb p.serial.0 f.serial.0) (has_stamp own && far) a.5 in
    record {
      here = not-false (is_post p p.lane) a.0;
      clock = λ n s. leb-false 65535 (max p.clock.0 f.stamp.0) (late (and_made (is_next f last) (is_source p p.lane) n s));
      other = eqb-false f.sender p.lane a.2;
      sender = not-false (is_post p f.sender) known.0;
      source = λ k. not-false (is_source p f.lane) (and_second (is_order f) (not (is_source p f.lane)) known.1 (eq-eqb f.kind 1 k));
      entries = λ i l h.
          not-false (is_source p i)
          (and_second (has_stamp (entry_of f i)) (not (is_source p i))
          (none_each (λ (i : ℕ). has_stamp (entry_of f i) && not (is_source p i)) 8 odd.1 i l)
          (stamp_there (entry_of f i) h));
      above = λ n h. leb-false f.stamp.0 (last_stamp p f) (low (and_made (is_next f last) (ltb 0 last) n (lt-ltb 0 last h)));
      own_order = λ k e.
          ltb-false p.serial.0 f.serial.0
          (and_second (is_order f && eqb f.lane p.lane) (ltb p.serial.0 f.serial.0) mine.0
          (and_made (is_order f) (eqb f.lane p.lane) (eq-eqb f.kind 1 k) (eq-eqb f.lane p.lane e)));
      own_entry = λ h.
          let b = or_parts (ltb p.serial.0 own.serial.0) (ltb p.clock.0 own.stamp.0) (and_second (has_stamp own) far mine.1 (stamp_there own h)) in
          (ltb-false p.serial.0 own.serial.0 b.0, ltb-false p.clock.0 own.stamp.0 b.1);
    }

-- and the other way round
pub hear_not_refused : (p : Post) (f : Frame) → Hearable p f → hear_refusal p f ≡ 0
unfolding hear_refusal strange_entries
hear_not_refused p f h =
    goes_on_lem (not_in_yard p.posts p.lane) 21 _ (ap not h.here)
    (goes_on_lem (clock_passes p f) 24 _ late
    (goes_on_lem (own_broadcast p f) 26 _ (ne_eqb f.sender p.lane h.other)
    (goes_on_lem (strange p f) 28 _ odd
    (goes_on_lem (not_above p f) 29 _ low (goes_on_lem (beyond_own p f) 30 0 mine refl)))))
  where
    last : ℕ
    last = last_of p f.lane

    own : Entry
    own = entry_of f p.lane

    late : clock_passes p f ≡ false
    late =
        and_fails (is_next f last && is_source p p.lane) (leb 65535 (max p.clock.0 f.stamp.0))
        (λ t. let b = and_parts (is_next f last) (is_source p p.lane) t in
        lt-leb 65535 (max p.clock.0 f.stamp.0) (h.clock b.0 b.1))

    odd : strange p f ≡ false
    odd =
        or_made (not (is_post p f.sender) || (is_order f && not (is_source p f.lane))) (strange_entries p.sources f)
        (or_made (not (is_post p f.sender)) (is_order f && not (is_source p f.lane)) (ap not h.sender)
        (and_fails (is_order f) (not (is_source p f.lane)) (λ t. ap not (h.source (eqb-true f.kind 1 t)))))
        (each_none (λ (i : ℕ). has_stamp (entry_of f i) && not (is_source p i)) 8
        (λ i l. and_fails (has_stamp (entry_of f i)) (not (is_source p i)) (λ t. ap not (h.entries i l (there_stamp (entry_of f i) t)))))

    low : not_above p f ≡ false
    low =
        and_fails (is_next f last && ltb 0 last) (leb f.stamp.0 (last_stamp p f))
        (λ t. let b = and_parts (is_next f last) (ltb 0 last) t in
        lt-leb f.stamp.0 (last_stamp p f) (h.above b.0 (ltb-true 0 last b.1)))

    mine : beyond_own p f ≡ false
    mine =
        or_made (is_order f && eqb f.lane p.lane && ltb p.serial.0 f.serial.0)
        (has_stamp own && (ltb p.serial.0 own.serial.0 || ltb p.clock.0 own.stamp.0))
        (and_fails (is_order f && eqb f.lane p.lane) (ltb p.serial.0 f.serial.0)
        (λ t. let b = and_parts (is_order f) (eqb f.lane p.lane) t in
        le-ltb p.serial.0 f.serial.0 (h.own_order (eqb-true f.kind 1 b.0) (eqb-true f.lane p.lane b.1))))
        (and_fails (has_stamp own) (ltb p.serial.0 own.serial.0 || ltb p.clock.0 own.stamp.0)
        (λ t. let b = h.own_entry (there_stamp own t) in
        or_made (ltb p.serial.0 own.serial.0) (ltb p.clock.0 own.stamp.0)
        (le-ltb p.serial.0 own.serial.0 b.0)
        (le-ltb p.clock.0 own.stamp.0 b.1)))

-- an order that is to be taken is of another lane: of its own lane it would be above the own serial
pub takes_other : (p : Post) (f : Frame) → hear_refusal p f ≡ 0 → is_next f (last_of p f.lane) ≡ true → p.serial.0 ≡ last_of p p.lane
    → f.lane ≢ p.lane
takes_other p f z n e q =
    let k = next_is f (last_of p f.lane) n in
    omega (arith, (hearable p f z).own_order k.0 q, k.1, ap (last_of p) q)
