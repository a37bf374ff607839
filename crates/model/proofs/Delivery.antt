-- A delivery: what it adds is ready and ranks above all of the log, nothing ready is left, and nothing can come below it later.
-- Assumes nothing.
use mathlib.Core.Path.{◌≡◌, refl, ap, ◌∙◌}
use mathlib.Core.List.{List, ◌++◌}
use mathlib.Core.Logic.{◌⊎◌, inl, inr, ◌≢◌}
use mathlib.Core.Bool.{Bool, true, false, cond, ◌&&◌, ◌||◌, not}
use Prim.Native.Nat.{ℕ, zero, suc, ◌≤◌, ◌<◌}
use native.Mathlib.Omega.{arith}
use lib.Dec.{leb}
use borrow.Author.Tests.{leb-true, le-leb, not-true}
use Rattle.laws.proofs.TestLaws.{same_or_not, not_both, and_parts, and_made, or_second}
use Rattle.laws.proofs.ListLaws.{Mem, mem_left, mem_right, mem_append, Begins, begins_itself}
use Rattle.roll.specs.Runs.{Order}
use Rattle.roll.specs.Logs.{rank, in_order}
use Rattle.model.proofs.Functions.{le_or_not}
use Rattle.model.proofs.Model.{Post, Roles, order_of, taken_below, has, agrees, ready, due, new_log, deliver}
use Rattle.model.proofs.OrderLists.{Apart, mem_in_order, in_order_mem, in_order_rises, rising_append}
use Rattle.model.proofs.Invariants.{RolesOk, source_below, Posts, stamp_of, Holds, NoMore, Knows, TakenIn, LogOk, Served, SelfOk}
use Rattle.model.proofs.Taken.{below_all, all_below_lem, mem_those, those_mem, apart_those, has_mem, mem_has, mem_taken, taken_mem, KeptRise}
use Rattle.model.proofs.Taken.{apart_taken, same_rank}

module _ (R : Roles) where
  -- ---- an order with stamp t is ready

  -- a source agrees where its entry at the last order taken of its lane has reached t
  agree_le : (P : Post) (t i : ℕ) → agrees R P t i ≡ true → R.source i ≡ true → t ≤ P.table i (P.last i)
  unfolding agrees
  agree_le P t i e s = leb-true t (P.table i (P.last i)) (or_second (not (R.source i)) (leb t (P.table i (P.last i))) e (ap not s))

  le_agree : (P : Post) (t i : ℕ) → (R.source i ≡ true → t ≤ P.table i (P.last i)) → agrees R P t i ≡ true
  unfolding agrees
  le_agree P t i h = go (R.source i) refl
    where
      go : (b : Bool) → R.source i ≡ b → not b || leb t (P.table i (P.last i)) ≡ true
      go true e = le-leb t (P.table i (P.last i)) (h e)
      go false e = refl

  -- then every source's entry has reached t
  pub ready_le : (P : Post) (t : ℕ) → ready R P t ≡ true → (i : ℕ) → i < 8 → R.source i ≡ true → t ≤ P.table i (P.last i)
  unfolding ready
  ready_le P t e i l s = agree_le P t i (all_below_lem (agrees R P t) 8 e i l) s

  -- and the other way round
  pub le_ready : (P : Post) (t : ℕ) → ((i : ℕ) → i < 8 → R.source i ≡ true → t ≤ P.table i (P.last i)) → ready R P t ≡ true
  unfolding ready
  le_ready P t h = below_all (agrees R P t) 8 (λ i l. le_agree P t i (h i l))

  -- a lower stamp is ready too
  pub ready_down : (P : Post) (t u : ℕ) → u ≤ t → ready R P t ≡ true → ready R P u ≡ true
  ready_down P t u l e = le_ready P u (λ i a s. omega (arith, ready_le P t e i a s))

  -- ---- the orders due

  -- ready, and not in the log
  abbrev is_due : Post → Order → Bool
  is_due P o = ready R P o.stamp && not (has o.lane o.serial P.log)

  -- an order due was taken
  pub due_taken : (P : Post) (x : Order) → Mem x (due R P) → TakenIn P 8 x
  unfolding due
  due_taken P x m = taken_mem P 8 x (those_mem (is_due P) x (taken_below P 8) m).0

  -- is ready
  pub due_ready : (P : Post) (x : Order) → Mem x (due R P) → ready R P x.stamp ≡ true
  unfolding due
  due_ready P x m = (and_parts (ready R P x.stamp) (not (has x.lane x.serial P.log)) (those_mem (is_due P) x (taken_below P 8) m).1).0

  -- and is not in the log
  pub due_new : (P : Post) (x : Order) → Mem x (due R P) → Mem x P.log → ⊥
  unfolding due
  due_new P x m n =
      let d = and_parts (ready R P x.stamp) (not (has x.lane x.serial P.log)) (those_mem (is_due P) x (taken_below P 8) m).1 in
      not_both (has x.lane x.serial P.log) (mem_has x P.log n) (not-true (has x.lane x.serial P.log) d.1)

  -- a taken order that is ready is in the log or due
  pub served_or_due : (P : Post) → LogOk P → (i n : ℕ) → i < 8 → 0 < n → n ≤ P.last i → ready R P (P.stamps i n) ≡ true
      → Mem (order_of P i n) P.log ⊎ Mem (order_of P i n) (due R P)
  unfolding due
  served_or_due P o i n a b c e = go (has i n P.log) refl
    where
      there : ((x : Order) × Mem x P.log × (x.lane ≡ i) × (x.serial ≡ n)) → Mem (order_of P i n) P.log
      there r = let q : r.0 ≡ order_of P i n = (o.log_taken r.0 r.1).as_kept ∙ rw (r.2, r.3) refl in rw (← q) r.1

      go : (h : Bool) → has i n P.log ≡ h → Mem (order_of P i n) P.log ⊎ Mem (order_of P i n) (due R P)
      go true h = inl (there (has_mem i n P.log h))
      go false h = inr (mem_those (is_due P) (order_of P i n) (taken_below P 8)
          (mem_taken P 8 i n a b c) (and_made (ready R P (P.stamps i n)) (not (has i n P.log)) e (rw h refl)))

  -- ---- the log after a delivery

  -- the post with another log
  abbrev pub with_log : Post → List Order → Post
  with_log P l = record { clock = P.clock; own = P.own; last = P.last; table = P.table; stamps = P.stamps; words = P.words; log = l }

  -- a destination adds the orders due, another post nothing
  pub new_log_case : (C : List Order → Type 0) (p : ℕ) (P : Post)
      → (R.dest p ≡ true → C (P.log ++ in_order (due R P))) → (R.dest p ≡ false → C P.log) → C (new_log R p P)
  unfolding new_log
  new_log_case C p P y n = go (R.dest p) refl
    where
      go : (b : Bool) → R.dest p ≡ b → C (cond b (P.log ++ in_order (due R P)) P.log)
      go true e = y e
      go false e = n e

  -- what stands in it stood in the log or was due
  added : (P : Post) (x : Order) → Mem x (P.log ++ in_order (due R P)) → Mem x P.log ⊎ Mem x (due R P)
  added P x m = go (mem_append x P.log (in_order (due R P)) m)
    where
      go : Mem x P.log ⊎ Mem x (in_order (due R P)) → Mem x P.log ⊎ Mem x (due R P)
      go (inl m) = inl m
      go (inr m) = inr (in_order_mem x (due R P) m)

  -- what is due ranks above all of the log
  above : (P : Post) → KeptRise P → LogOk P → (x y : Order) → Mem x P.log → Mem y (due R P) → rank x < rank y
  above P c o x y m n = go (le_or_not (rank y) (rank x))
    where
      in_log : (rank y ≡ rank x) ⊎ (rank y ≢ rank x) → rank y ≤ rank x → Mem y P.log
      in_log (inl e) l = rw (same_rank P c y x (due_taken P y n) (o.log_taken x m) e) m
      in_log (inr e) l = o.log_closed x y m (due_taken P y n) (omega arith)

      go : (rank y ≤ rank x) ⊎ (rank x < rank y) → rank x < rank y
      go (inl l) = absurd (due_new P y n (in_log (same_or_not (rank y) (rank x)) l))
      go (inr l) = l

  -- orders due rank apart
  apart_due : (P : Post) → KeptRise P → Apart (due R P)
  unfolding due
  apart_due P c = apart_those (is_due P) (taken_below P 8) (apart_taken P c 8 (omega arith))

  -- the log stays in order where the orders due are added
  log_grown : (P : Post) → KeptRise P → LogOk P → LogOk (with_log P (P.log ++ in_order (due R P)))
  log_grown P c o = record {
    log_rises = rising_append P.log (in_order (due R P)) o.log_rises (in_order_rises (due R P) (apart_due P c))
        (λ x y m n. above P c o x y m (in_order_mem y (due R P) n));
    log_taken = λ x m. kept x (added P x m);
    log_closed = λ x y m t l. down x y t l (added P x m);
  }
    where
      kept : (x : Order) → Mem x P.log ⊎ Mem x (due R P) → TakenIn (with_log P (P.log ++ in_order (due R P))) 8 x
      kept x (inl m) = o.log_taken x m
      kept x (inr m) = due_taken P x m

      put : (y : Order) → Mem y P.log ⊎ Mem y (due R P) → Mem y (P.log ++ in_order (due R P))
      put y (inl m) = mem_left y P.log (in_order (due R P)) m
      put y (inr m) = mem_right y P.log (in_order (due R P)) (mem_in_order y (due R P) m)

      down : (x y : Order) → TakenIn (with_log P (P.log ++ in_order (due R P))) 8 y → rank y < rank x → Mem x P.log ⊎ Mem x (due R P)
          → Mem y (P.log ++ in_order (due R P))
      down x y t l (inl m) = put y (inl (o.log_closed x y m t l))
      down x y t l (inr m) =
          let e : y.stamp ≡ P.stamps y.lane y.serial = ap (λ (o : Order). o.stamp) t.as_kept in
          let r = ready_down P x.stamp (P.stamps y.lane y.serial) (omega (arith, e, (due_taken P x m).lane_below)) (due_ready P x m) in
          put y (rw t.as_kept (served_or_due P o y.lane y.serial t.lane_below t.serial_from_one t.serial_taken r))

  -- a delivery keeps the log in order
  pub deliver_log : (p : ℕ) (P : Post) → KeptRise P → LogOk P → LogOk (deliver R p P)
  deliver_log p P c o = new_log_case (λ l. LogOk (with_log P l)) p P (λ e. log_grown P c o) (λ e. o)

  -- and leaves nothing ready behind
  pub deliver_served : (p : ℕ) (P : Post) → LogOk P → Served R p (deliver R p P)
  unfolding ready agrees
  deliver_served p P o = new_log_case (λ l. Served R p (with_log P l)) p P
      (λ e d i n a b c r. put i n (served_or_due P o i n a b c r)) (λ e d. absurd (not_both (R.dest p) d e))
    where
      put : (i n : ℕ) → Mem (order_of P i n) P.log ⊎ Mem (order_of P i n) (due R P) → Mem (order_of P i n) (P.log ++ in_order (due R P))
      put i n (inl m) = mem_left (order_of P i n) P.log (in_order (due R P)) m
      put i n (inr m) = mem_right (order_of P i n) P.log (in_order (due R P)) (mem_in_order (order_of P i n) (due R P) m)

  -- the log only grows
  pub deliver_begins : (p : ℕ) (P : Post) → Begins P.log (new_log R p P)
  deliver_begins p P = new_log_case (λ l. Begins P.log l) p P (λ e. (in_order (due R P), refl)) (λ e. begins_itself P.log)

  -- ---- nothing comes below what was delivered

  -- the stamps that a post keeps rise, being those of orders sent
  pub known_rise : (W : Posts) (P : Post) → Knows R W P → ((i : ℕ) → SelfOk R i (W i)) → KeptRise P
  known_rise W P k s i n a b =
      rw (k.stamps_true i n a (omega arith), k.stamps_true i (suc n) (omega arith) b) ((s i).stamps_rise n a (omega (arith, k.last_sent i)))

  -- stamps of a lane rise with the serial
  rises : (W : Posts) → ((i : ℕ) → SelfOk R i (W i)) → (i n m : ℕ) → 0 < n → n ≤ m → m ≤ (W i).own → stamp_of W i n ≤ stamp_of W i m
  rises W s i n zero a b d = absurd (omega arith)
  rises W s i n (suc m) a b d = go (same_or_not n (suc m)) (rises W s i n m)
    where
      go : (n ≡ suc m) ⊎ (n ≢ suc m) → (0 < n → n ≤ m → m ≤ (W i).own → stamp_of W i n ≤ stamp_of W i m)
          → stamp_of W i n ≤ stamp_of W i (suc m)
      go (inl e) ih = rw e (omega arith)
      go (inr e) ih = omega (arith, ih a (omega arith) (omega arith), (s i).stamps_rise m (omega arith) d)

  -- what the whole proof rests on: where stamp t is ready, no source sends t or below after the orders that the post has taken
  pub ready_no_more : (W : Posts) (P : Post) → Knows R W P → ((i : ℕ) → SelfOk R i (W i)) → (t : ℕ) → 0 < t → ready R P t ≡ true
      → (i : ℕ) → i < 8 → R.source i ≡ true → NoMore W (P.last i) t i
  ready_no_more W P k s t pos e i l b = record {
    clock_past = omega (arith, h.clock_reached, r);
    later_above = λ n a c. omega (arith, r, h.before_next (omega arith), rises W s i (suc (P.last i)) n (omega arith) a c);
  }
    where
      r : t ≤ P.table i (P.last i)
      r = ready_le P t e i l b

      h : Holds W i (P.last i) (P.table i (P.last i))
      h = k.entries_true i (P.last i) (omega (arith, r))

  -- what a post knows stays true by a delivery
  pub deliver_knows : RolesOk R → (W : Posts) (p : ℕ) (P : Post) → ((i : ℕ) → SelfOk R i (W i)) → Knows R W P → Knows R W (deliver R p P)
  deliver_knows ro W p P s k = record {
    entries_true = k.entries_true;
    last_sent = k.last_sent;
    stamps_true = k.stamps_true;
    words_true = k.words_true;
    logged_no_more = new_log_case (λ l. (x : Order) → Mem x l → (i : ℕ) → R.source i ≡ true → NoMore W (P.last i) x.stamp i) p P
        (λ e x m. new x (added P x m)) (λ e. k.logged_no_more);
  }
    where
      pos : (x : Order) → TakenIn P 8 x → 0 < x.stamp
      pos x t = rw (ap (λ (o : Order). o.stamp) t.as_kept, k.stamps_true x.lane x.serial t.serial_from_one t.serial_taken)
          ((s x.lane).stamps_positive x.serial t.serial_from_one (omega (arith, t.serial_taken, k.last_sent x.lane)))

      new : (x : Order) → Mem x P.log ⊎ Mem x (due R P) → (i : ℕ) → R.source i ≡ true → NoMore W (P.last i) x.stamp i
      new x (inl m) i b = k.logged_no_more x m i b
      new x (inr m) i b = ready_no_more W P k s x.stamp (pos x (due_taken P x m)) (due_ready P x m) i (source_below R ro i b) b
