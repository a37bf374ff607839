-- Single steps, refused or not, and lists of them keep a yard as it has to be. Assumes nothing.
use mathlib.Core.Path.{◌≡◌, refl}
use mathlib.Core.List.{List, [], ◌∷◌, ◌++◌}
use mathlib.Core.Logic.{◌≢◌}
use mathlib.Core.Bool.{Bool, true, false, cond, not}
use Prim.Native.Nat.{ℕ, ◌<◌}
use native.Mathlib.Omega.{arith}
use lib.Dec.{ltb, leb, eqb}
use borrow.Author.Tests.{eqb-true, eqb-false, ne_eqb, leb-false, lt-leb, ltb-false, le-ltb, not-false}
use Rattle.laws.proofs.TestLaws.{not_both}
use Rattle.laws.proofs.ListLaws.{Begins, begins_itself, begins_on}
use Rattle.frame.proofs.Laws.{passed}
use Rattle.state.specs.Yards.{spent}
use Rattle.yard.specs.Worlds.{Single, order, hear, beacon}
use Rattle.model.proofs.Model.{Frame, Roles, Yard, entries_frame, no_order_lem, order_refused, hear_refused, beacon_refused, order_done, beacon_done, hear_done}
use Rattle.model.proofs.Model.{step, run}
use Rattle.model.proofs.Invariants.{RolesOk, YardOk, grew_itself}
use Rattle.model.proofs.Entries.{broadcast_ok_lem}
use Rattle.model.proofs.Changes.{Next, stay, older_frames, one_more_frame}
use Rattle.model.proofs.Ordering.{order_ok}
use Rattle.model.proofs.Hearing.{hear_ok}

-- ---- what a step that is not refused has passed, and what is enough to pass

module _ (R : Roles) (Y : Yard) where
  -- order
  pub order_pass : (p w : ℕ) → order_refused R Y p w ≡ 0 → (p < 8) × (R.present p ≡ true) × (R.source p ≡ true) × ((Y.posts p).own < 16)
  unfolding order_refused
  order_pass p w e =
      let a = passed (ltb 7 p) 4 _ (omega arith) e in
      let b = passed (ltb 65535 w) 5 _ (omega arith) a.1 in
      let c = passed (not (R.present p)) 21 _ (omega arith) b.1 in
      let d = passed (not (R.source p)) 22 _ (omega arith) c.1 in
      let h = passed (leb 16 (Y.posts p).own) 23 _ (omega arith) d.1 in
      (omega (arith, ltb-false 7 p a.0), not-false (R.present p) c.0, not-false (R.source p) d.0, leb-false 16 (Y.posts p).own h.0)

  -- hear
  pub hear_pass : (p k : ℕ) → hear_refused R Y p k ≡ 0 → (p < 8) × (R.present p ≡ true) × (k < Y.frames) × ((Y.air k).sender ≢ p)
  unfolding hear_refused
  hear_pass p k e =
      let a = passed (ltb 7 p) 4 _ (omega arith) e in
      let b = passed (not (R.present p)) 21 _ (omega arith) a.1 in
      let c = passed (leb Y.frames k) 25 _ (omega arith) b.1 in
      let d = passed (eqb (Y.air k).sender p) 26 _ (omega arith) c.1 in
      (omega (arith, ltb-false 7 p a.0), not-false (R.present p) b.0, leb-false Y.frames k c.0, eqb-false (Y.air k).sender p d.0)

  -- and the other way round
  pub hear_fine : (p k : ℕ) → p < 8 → R.present p ≡ true → k < Y.frames → (Y.air k).sender ≢ p → hear_refused R Y p k ≡ 0
  unfolding hear_refused
  hear_fine p k l b c n = rw (le-ltb 7 p (omega arith), b, lt-leb Y.frames k c, ne_eqb (Y.air k).sender p n) refl

  -- beacon
  pub beacon_pass : (p : ℕ) → beacon_refused R Y p ≡ 0 → (p < 8) × (R.present p ≡ true) × (Y.beacons p < 128)
  unfolding beacon_refused
  beacon_pass p e =
      let a = passed (ltb 7 p) 4 _ (omega arith) e in
      let b = passed (not (R.present p)) 21 _ (omega arith) a.1 in
      let c = passed (spent (Y.beacons p)) 27 _ (omega arith) b.1 in
      (omega (arith, ltb-false 7 p a.0), not-false (R.present p) b.0, leb-false 128 (Y.beacons p) c.0)

  -- and the other way round
  pub beacon_fine : (p : ℕ) → p < 8 → R.present p ≡ true → Y.beacons p < 128 → beacon_refused R Y p ≡ 0
  unfolding beacon_refused
  beacon_fine p l b c = rw (le-ltb 7 p (omega arith), b, lt-leb 128 (Y.beacons p) c) refl

-- ---- a step, by its refusal

-- where a yard depends on a refusal
pub if_zero : (C : Yard → Type 0) (n : ℕ) (A B : Yard) → (n ≡ 0 → C A) → C B → C (cond (eqb n 0) A B)
if_zero C n A B f g = go (eqb n 0) refl
  where
    go : (b : Bool) → eqb n 0 ≡ b → C (cond b A B)
    go true e = f (eqb-true n 0 e)
    go false e = g

module _ (R : Roles) (Y : Yard) where
  -- what holds after the step done, and of the yard as it was, holds after the step: of an order
  pub order_or_refused : (C : Yard → Type 0) (p w : ℕ) → (order_refused R Y p w ≡ 0 → C (order_done R Y p w)) → C Y → C (step R Y (order p w))
  unfolding step
  order_or_refused C p w = if_zero C (order_refused R Y p w) (order_done R Y p w) Y

  -- of a hearing
  pub hear_or_refused : (C : Yard → Type 0) (p k : ℕ) → (hear_refused R Y p k ≡ 0 → C (hear_done R Y p (Y.air k))) → C Y → C (step R Y (hear p k))
  unfolding step
  hear_or_refused C p k = if_zero C (hear_refused R Y p k) (hear_done R Y p (Y.air k)) Y

  -- of a beacon
  pub beacon_or_refused : (C : Yard → Type 0) (p : ℕ) → (beacon_refused R Y p ≡ 0 → C (beacon_done R Y p)) → C Y → C (step R Y (beacon p))
  unfolding step
  beacon_or_refused C p = if_zero C (beacon_refused R Y p) (beacon_done R Y p) Y

  -- a hearing that is not refused is done
  pub step_hear : (p k : ℕ) → hear_refused R Y p k ≡ 0 → step R Y (hear p k) ≡ hear_done R Y p (Y.air k)
  unfolding step
  step_hear p k e = rw e refl

  -- and a beacon
  pub step_beacon : (p : ℕ) → beacon_refused R Y p ≡ 0 → step R Y (beacon p) ≡ beacon_done R Y p
  unfolding step
  step_beacon p e = rw e refl

-- ---- every step keeps the yard

-- a beacon changes no post
pub beacon_ok : (R : Roles) (Y : Yard) (p : ℕ) → R.present p ≡ true → YardOk R Y → Next R Y (beacon_done R Y p)
beacon_ok R Y p present y = record {
  next_ok = record {
    selves = y.selves;
    posts_ok = y.posts_ok;
    frames_ok = one_more_frame R Y Y.posts f y.frames_ok
        (broadcast_ok_lem R Y.posts (Y.posts p) true p no_order_lem present (y.posts_ok p).knows (λ e. absurd (not_both true refl e)));
  };
  posts_grew = grew_itself Y.posts;
  logs_begin = λ i. begins_itself (Y.posts i).log;
  last_grows = λ q i. omega arith;
  frames_grow = omega arith;
  air_stays = older_frames Y f;
  first_stays = λ i n a b. refl;
}
  where
    f : Frame
    f = entries_frame true p no_order_lem (Y.posts p)

module _ (R : Roles) (ro : RolesOk R) where
  -- a step, refused or not
  pub step_ok : (Y : Yard) (s : Single) → YardOk R Y → Next R Y (step R Y s)
  step_ok Y (order p w) y = order_or_refused R Y (λ Z. Next R Y Z) p w
      (λ e. let q = order_pass R Y p w e in order_ok R ro Y p w q.2 q.1 q.3 y) (stay R Y y)
  step_ok Y (hear p k) y = hear_or_refused R Y (λ Z. Next R Y Z) p k
      (λ e. let q = hear_pass R Y p k e in hear_ok R ro Y p (Y.air k) q.1 (y.frames_ok k q.2) y) (stay R Y y)
  step_ok Y (beacon p) y = beacon_or_refused R Y (λ Z. Next R Y Z) p (λ e. beacon_ok R Y p (beacon_pass R Y p e).1 y) (stay R Y y)

  -- a list of them
  pub run_ok : (Y : Yard) (l : List Single) → YardOk R Y → YardOk R (run R Y l)
  unfolding run
  run_ok Y [] y = y
  run_ok Y (s ∷ l) y = run_ok (step R Y s) l (step_ok Y s y).next_ok

  -- each log is begun by what it was
  pub run_log : (Y : Yard) (l : List Single) → YardOk R Y → (p : ℕ) → Begins (Y.posts p).log ((run R Y l).posts p).log
  unfolding run
  run_log Y [] y p = begins_itself (Y.posts p).log
  run_log Y (s ∷ l) y p = let n = step_ok Y s y in
      begins_on (Y.posts p).log ((step R Y s).posts p).log ((run R (step R Y s) l).posts p).log
      (n.logs_begin p) (run_log (step R Y s) l n.next_ok p)

-- ---- lists of steps run one after another

module _ (R : Roles) where
  -- a list and then another
  pub run_append : (Y : Yard) (l m : List Single) → run R Y (l ++ m) ≡ run R (run R Y l) m
  unfolding run
  run_append Y [] m = refl
  run_append Y (s ∷ l) m = run_append (step R Y s) l m

  -- no step
  pub run_none : (Y : Yard) → run R Y [] ≡ Y
  unfolding run
  run_none Y = refl

  -- one step
  pub run_one : (Y : Yard) (s : Single) → run R Y (s ∷ []) ≡ step R Y s
  unfolding run
  run_one Y s = refl
