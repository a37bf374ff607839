-- A delivery read through the view is the model's: the same orders are due, and join the log in the same order. Assumes nothing.
use mathlib.Core.Path.{◌≡◌, refl, sym, ap, ◌∙◌}
use mathlib.Core.Logic.{◌⊎◌, inl, inr, ◌≢◌}
use mathlib.Core.Bool.{Bool, true, false, cond, not, ◌&&◌}
use mathlib.Core.List.{List, [], ◌∷◌, ◌++◌, map, append-nil, map-append}
use Prim.Native.Nat.{ℕ, ◌+◌, ◌/◌, ◌%◌, ◌<◌, ◌≤◌}
use native.Mathlib.Omega.{arith}
use lib.ListN.{get_or}
use borrow.Author.Tests.{ltb-true}
use Rattle.cells.specs.Tables.{stamp_under, order_place}
use Rattle.cells.proofs.Places.{order_inside, order_lane, order_serial_lem, place_order}
use Rattle.post.specs.declared.Post as posts
use Rattle.post.specs.Record.{is_source, is_dest, last_of}
use Rattle.deliver.specs.Delivery.{is_taken, is_logged, stamp_at, is_due, due_places, delivered}
use Rattle.roll.specs.Runs.{Order}
use Rattle.roll.specs.Logs.{order_at, orders_logged, rank, in_order, Rising}
use Rattle.laws.proofs.TestLaws.{true_or_false, not_both, and_made, same_or_not, below_or_not}
use Rattle.laws.proofs.ListLaws.{Mem, RisingBy, mem_made}
use Rattle.laws.proofs.TableLaws.{order_taken}
use Rattle.deliver.specs.Keys.{key_at}
use Rattle.laws.proofs.LogLaws.{log_of, logged_mem, mem_logged, is_due_lem, due_is, places_due, due_places_lem, places_rise}
use Rattle.laws.proofs.Valid.{Shaped, Valid}
use Rattle.laws.proofs.ValidLog.{delivered_log_only, delivered_log}
use Rattle.model.proofs.Model.{Post, Roles, order_of, taken_below, has, ready, due, new_log, deliver}
use Rattle.model.proofs.OrderLists.{Apart, in_order_rises, in_order_mem, mem_in_order, unique}
use Rattle.model.proofs.Invariants.{TakenIn}
use Rattle.model.proofs.Taken.{KeptRise, kept_rise, mem_those, apart_those, apart_taken, has_mem, mem_taken}
use Rattle.model.proofs.Delivery.{ready_le, le_ready, due_taken, due_ready, due_new}
use Rattle.agreement.proofs.Views.{post_view, places_view}

-- ---- places and orders

-- a number kept at a place, under its lane and serial
place_view : (l : List ℕ) (place : ℕ) → get_or l place 0 ≡ places_view l (place / 16) (place % 16 + 1)
place_view l place = ap (λ (k : ℕ). get_or l k 0) (sym (place_order place))

-- so the order kept at a place
order_under : (q : posts.Post) (place : ℕ) → order_at q place ≡ order_of (post_view q) (place / 16) (place % 16 + 1)
order_under q place = λ t. record {
  lane = place / 16;
  serial = place % 16 + 1;
  stamp = place_view q.stamps place t;
  word = place_view q.words place t;
}

-- and the other way round
order_at_lem : (q : posts.Post) (i n : ℕ) → 0 < n → n ≤ 16 → order_of (post_view q) i n ≡ order_at q (order_place i n)
order_at_lem q i n a b = λ t. record {
  lane = sym (order_lane i n a b) t;
  serial = sym (order_serial_lem i n a b) t;
  stamp = places_view q.stamps i n;
  word = places_view q.words i n;
}

-- members of a list of orders made from places
mem_orders : (f : ℕ → Order) (x : ℕ) (l : List ℕ) → Mem x l → Mem (f x) (map f l)
mem_orders f x [] m = absurd m
mem_orders f x (y ∷ l) (inl e) = inl (ap f e)
mem_orders f x (y ∷ l) (inr m) = inr (mem_orders f x l m)

-- ---- the due orders rise

-- of two taken orders the one with the lower key ranks lower: equal stamps are of different lanes
rank_rises : (q : posts.Post) → KeptRise (post_view q) → (x y : ℕ) → x < 128 → y < 128 → is_taken q y ≡ true → key_at q x < key_at q y
    → rank (order_at q x) < rank (order_at q y)
rank_rises q c x y a b t h = go (same_or_not (x / 16) (y / 16)) (below_or_not (x % 16) (y % 16))
  where
    last : y % 16 < last_of q (y / 16)
    last = ltb-true (y % 16) (last_of q (y / 16)) t

    go : (x / 16 ≡ y / 16) ⊎ (x / 16 ≢ y / 16) → (x % 16 < y % 16) ⊎ (y % 16 ≤ x % 16) → rank (order_at q x) < rank (order_at q y)
    go (inl e) (inl l) =
        let up = kept_rise (post_view q) c (y / 16) (x % 16 + 1) (y % 16 + 1) (omega arith) (omega arith) (omega (arith, last)) in
        let s : stamp_at q x < stamp_at q y = rw (place_view q.stamps x, place_view q.stamps y, e) up in
        omega arith
    go (inl e) (inr l) = omega arith
    go (inr e) l = omega arith

-- so the orders made from places with rising keys rise
orders_rise : (q : posts.Post) → KeptRise (post_view q) → (l : List ℕ) → RisingBy (key_at q) l
    → ((place : ℕ) → Mem place l → (place < 128) × (is_taken q place ≡ true))
    → Rising (map (order_at q) l)
orders_rise q c [] r h = tt
orders_rise q c (x ∷ l) r h = (λ o m. above o (mem_made (order_at q) o l m), orders_rise q c l r.1 (λ y m. h y (inr m)))
  where
    above : (o : Order) → ((y : ℕ) × Mem y l × (o ≡ order_at q y)) → rank (order_at q x) < rank o
    above o w =
        let t = h w.0 (inr w.1) in
        rw w.2 (rank_rises q c x w.0 (h x (inl refl)).0 t.0 t.1 (r.0 w.0 w.1))

-- ---- the same orders are due

-- the model's test
abbrev passes : Roles → Post → Order → Bool
passes R P o = ready R P o.stamp && not (has o.lane o.serial P.log)

-- an order of the model's that is taken, ready and not in the log is due
mem_due : (R : Roles) (P : Post) (i n : ℕ) → i < 8 → 0 < n → n ≤ P.last i → ready R P (P.stamps i n) ≡ true → has i n P.log ≡ false
    → Mem (order_of P i n) (due R P)
unfolding due
mem_due R P i n a b c r h =
    mem_those (passes R P) (order_of P i n) (taken_below P 8) (mem_taken P 8 i n a b c)
    (and_made (ready R P (P.stamps i n)) (not (has i n P.log)) r (ap not h))

-- no two of them rank alike
due_apart : (R : Roles) (P : Post) → KeptRise P → Apart (due R P)
unfolding due
due_apart R P c = apart_those (passes R P) (taken_below P 8) (apart_taken P c 8 (omega arith))

-- a record, and roles that agree with it on the sources
module _ (q : posts.Post) (s : Shaped q) (v : Valid q) (R : Roles) (sources : (i : ℕ) → i < 8 → R.source i ≡ is_source q i) where
  -- a place is in the log where its order is
  has_log : (place : ℕ) → has (place / 16) (place % 16 + 1) (orders_logged q) ≡ true → is_logged q place ≡ true
  has_log place e =
      let r = has_mem (place / 16) (place % 16 + 1) (orders_logged q) e in
      let w = mem_made (order_at q) r.0 (log_of q) r.1 in
      let lane : w.0 / 16 ≡ place / 16 = sym (ap (λ (o : Order). o.lane) w.2) ∙ r.2 in
      let serial : w.0 % 16 + 1 ≡ place % 16 + 1 = sym (ap (λ (o : Order). o.serial) w.2) ∙ r.3 in
      let same : w.0 ≡ place = omega arith in
      mem_logged q place v.logged s.log (rw same at w.1)

  -- what is due at a place is due in the model
  place_due : (place : ℕ) → place < 128 → is_due q place ≡ true → Mem (order_at q place) (due R (post_view q))
  place_due place b e =
      let d = is_due_lem q place e in
      rw (order_under q place)
      (mem_due R (post_view q) (place / 16) (place % 16 + 1) (omega arith) (omega arith)
      (omega (arith, ltb-true (place % 16) (last_of q (place / 16)) d.taken))
      (le_ready R (post_view q) ((post_view q).stamps (place / 16) (place % 16 + 1))
      (λ i l r. rw (← place_view q.stamps place) (d.agreed i l (sym (sources i l) ∙ r))))
      (new d.unlogged (true_or_false there)))
    where
      there : Bool
      there = has (place / 16) (place % 16 + 1) (orders_logged q)

      new : is_logged q place ≡ false → (there ≡ true) ⊎ (there ≡ false) → there ≡ false
      new u (inl h) = absurd (not_both (is_logged q place) (has_log place h) u)
      new u (inr h) = h

  -- what is due in the model is due at its place
  due_place : (x : Order) → Mem x (due R (post_view q)) → Mem x (map (order_at q) (due_places q))
  due_place x m =
      rw is (mem_orders (order_at q) place (due_places q)
      (due_places_lem q place (order_inside x.lane x.serial t.lane_below t.serial_from_one few)
      (due_is q place (record {
        taken = taken;
        unlogged = new (true_or_false (is_logged q place));
        agreed = λ i l r.
            rw (ap (λ (o : Order). o.stamp) is) at
            (ready_le R (post_view q) x.stamp (due_ready R (post_view q) x m) i l (sources i l ∙ r));
      }))))
    where
      t : TakenIn (post_view q) 8 x
      t = due_taken R (post_view q) x m

      few : x.serial ≤ 16
      few = omega (arith, t.serial_taken, v.last x.lane t.lane_below)

      place : ℕ
      place = order_place x.lane x.serial

      is : x ≡ order_at q place
      is = t.as_kept ∙ order_at_lem q x.lane x.serial t.serial_from_one few

      taken : is_taken q place ≡ true
      taken = order_taken q x.lane x.serial t.serial_from_one few t.serial_taken

      new : (is_logged q place ≡ true) ⊎ (is_logged q place ≡ false) → is_logged q place ≡ false
      new (inl e) =
          absurd (due_new R (post_view q) x m (rw is (mem_orders (order_at q) place (log_of q) (logged_mem q place v.logged s.log e))))
      new (inr e) = e

  -- so the two lists of due orders are one
  pub due_orders : KeptRise (post_view q) → map (order_at q) (due_places q) ≡ in_order (due R (post_view q))
  due_orders c =
      unique (map (order_at q) (due_places q)) (in_order (due R (post_view q)))
      (orders_rise q c (due_places q) (places_rise q) (λ place m. let d = places_due q place m in (d.0, (is_due_lem q place d.1).taken)))
      (in_order_rises (due R (post_view q)) (due_apart R (post_view q) c))
      (λ x m. mem_in_order x (due R (post_view q)) (there x (mem_made (order_at q) x (due_places q) m)))
      (λ x m. due_place x (in_order_mem x (due R (post_view q)) m))
    where
      there : (x : Order) → ((place : ℕ) × Mem place (due_places q) × (x ≡ order_at q place)) → Mem x (due R (post_view q))
      there x w = let d = places_due q w.0 w.1 in rw w.2 (place_due w.0 d.0 d.1)

  -- ---- the delivery

  -- the log after it
  log_delivered : R.dest q.lane ≡ is_dest q q.lane → KeptRise (post_view q)
      → map (order_at q) (log_of (delivered q).post) ≡ new_log R q.lane (post_view q)
  unfolding new_log
  log_delivered d c = rw (d, delivered_log q s v) (go (is_dest q q.lane))
    where
      go : (b : Bool) → map (order_at q) (log_of q ++ cond b (due_places q) []) ≡ cond b (orders_logged q ++ in_order (due R (post_view q))) (orders_logged q)
      go true = map-append (order_at q) (log_of q) (due_places q) ∙ ap (λ (l : List Order). orders_logged q ++ l) (due_orders c)
      go false = ap (map (order_at q)) (append-nil (log_of q))

  -- a delivery is the model's
  pub view_delivered : R.dest q.lane ≡ is_dest q q.lane → KeptRise (post_view q)
      → post_view (delivered q).post ≡ deliver R q.lane (post_view q)
  view_delivered d c = ap post_view (delivered_log_only q) ∙ λ t. record {
    clock = q.clock.0;
    own = q.serial.0;
    last = λ i. last_of q i;
    table = stamp_under q.table;
    stamps = places_view q.stamps;
    words = places_view q.words;
    log = log_delivered d c t;
  }
