-- The log of a valid record of a post, where it rises, is good for the desk. Assumes nothing.
use mathlib.Core.Path.{◌≡◌, refl}
use mathlib.Core.Bool.{Bool, true, false, cond}
use mathlib.Core.List.{List, [], ◌∷◌, map}
use mathlib.Core.Logic.{inl, inr}
use Prim.Native.Nat.{ℕ, ◌+◌, ◌*◌, ◌/◌, ◌%◌, ◌<◌, ◌≤◌}
use native.Mathlib.Omega.{arith}
use lib.Dec.{eqb}
use lib.ListN.{length, length-map}
use borrow.Author.Tests.{eqb-true}
use Rattle.post.specs.declared.Post.{Post}
use Rattle.roll.specs.Logs.{order_at, orders_logged, Rising}
use Rattle.laws.specs.Lists.{Mem, RisingBy}
use Rattle.laws.specs.LogAfter.{NoRepeat, log_of}
use Rattle.laws.specs.Records.{Shaped, Valid}
use Rattle.laws.proofs.ListLaws.{mem_made}
use Rattle.laws.proofs.ValidLog.{log_length, log_once, log_taken_lem, few_below}
use Rattle.csv_log.specs.declared.LogItem.{LogItem}
use Rattle.csv_log.specs.Log.{count_of_lane, GoodLog}
use Rattle.desk.specs.Desk.{item_of}
use Rattle.desk.proofs.GoodLogs.{Ranged, item_rank, good_log}

-- ---- lists made from lists

module _ {A B : Type 0} where
  -- a key that rises along what is made from a list
  made_rises : (f : A → B) (key : B → ℕ) (l : List A) → RisingBy (λ (x : A). key (f x)) l → RisingBy key (map f l)
  made_rises f key [] r = tt
  made_rises f key (x ∷ l) r = (λ y m. let o = mem_made f y l m in rw o.2 (r.0 o.0 o.1), made_rises f key l r.1)

-- ---- at most 16 orders of a lane

-- the places of a lane, counted from its own first
unfoldable slots_of : ℕ → List ℕ → List ℕ
slots_of lane [] = []
slots_of lane (place ∷ l) = let r = slots_of lane l in cond (eqb (place / 16) lane) (place % 16 ∷ r) r

-- each is below 16, and its place is there
slot_place : (lane slot : ℕ) (l : List ℕ) → Mem slot (slots_of lane l) → (slot < 16) × Mem (lane * 16 + slot) l
unfolding slots_of
slot_place lane slot [] m = absurd m
slot_place lane slot (place ∷ l) m = go (eqb (place / 16) lane) refl m (slot_place lane slot l)
  where
    go : (b : Bool) → eqb (place / 16) lane ≡ b → Mem slot (cond b (place % 16 ∷ slots_of lane l) (slots_of lane l))
        → (Mem slot (slots_of lane l) → (slot < 16) × Mem (lane * 16 + slot) l) → (slot < 16) × Mem (lane * 16 + slot) (place ∷ l)
    go true e (inl s) ih = (omega arith, inl (let q = eqb-true (place / 16) lane e in omega arith))
    go true e (inr k) ih = let r = ih k in (r.0, inr r.1)
    go false e k ih = let r = ih k in (r.0, inr r.1)

-- none stands twice
slots_once : (lane : ℕ) (l : List ℕ) → NoRepeat l → NoRepeat (slots_of lane l)
unfolding slots_of
slots_once lane [] n = tt
slots_once lane (place ∷ l) n = go (eqb (place / 16) lane) refl (slots_once lane l n.1)
  where
    go : (b : Bool) → eqb (place / 16) lane ≡ b → NoRepeat (slots_of lane l) → NoRepeat (cond b (place % 16 ∷ slots_of lane l) (slots_of lane l))
    go true e ih = (λ m. n.0 (rw (back (eqb-true (place / 16) lane e)) at (slot_place lane (place % 16) l m).1), ih)
      where
        back : place / 16 ≡ lane → lane * 16 + place % 16 ≡ place
        back q = omega arith
    go false e ih = ih

-- they are as many as the orders of the lane
slots_count : (p : Post) (lane : ℕ) (l : List ℕ) → count_of_lane lane (map item_of (map (order_at p) l)) ≡ length (slots_of lane l)
unfolding slots_of count_of_lane
slots_count p lane [] = refl
slots_count p lane (place ∷ l) = go (eqb (place / 16) lane) (slots_count p lane l)
  where
    go : (b : Bool) → count_of_lane lane (map item_of (map (order_at p) l)) ≡ length (slots_of lane l)
        → count_of_lane lane (map item_of (map (order_at p) l)) + cond b 1 0 ≡ length (cond b (place % 16 ∷ slots_of lane l) (slots_of lane l))
    go true ih = omega arith
    go false ih = omega arith

-- so they are at most 16
few_of_lane : (p : Post) (lane : ℕ) (l : List ℕ) → NoRepeat l → count_of_lane lane (map item_of (map (order_at p) l)) ≤ 16
few_of_lane p lane l n =
    rw (slots_count p lane l) (few_below (slots_of lane l) 16 (slots_once lane l n) (λ slot m. (slot_place lane slot l m).0))

-- ---- the log of a record

module _ (p : Post) (s : Shaped p) (v : Valid p) where
  -- the order at a place of the log
  place_ranged : (place : ℕ) → Mem place (log_of p) → Ranged (item_of (order_at p place))
  place_ranged place m =
      let t = log_taken_lem p s v place m in
      record {
        some = v.present place t.0 t.1;
        stamp = omega (arith, s.stamp_values place);
        lane = omega (arith, t.0);
        word = omega (arith, s.word_values place);
      }

  -- an order of the log
  item_ranged : (x : LogItem) → Mem x (map item_of (orders_logged p)) → Ranged x
  item_ranged x m =
      let o = mem_made item_of x (orders_logged p) m in
      let q = mem_made (order_at p) o.0 (log_of p) o.1 in
      rw (o.2, q.2) (place_ranged q.0 q.1)

  few_items : length (map item_of (orders_logged p)) ≤ 128
  few_items = omega (arith, length-map (orders_logged p) item_of, length-map (log_of p) (order_at p), log_length p s v, v.logged)

  -- a record of its type that refusal 12 does not turn down, and whose log rises
  pub post_good : Rising (orders_logged p) → GoodLog (map item_of (orders_logged p))
  post_good r =
      good_log (map item_of (orders_logged p)) item_ranged (made_rises item_of item_rank (orders_logged p) r) few_items
      (λ lane. few_of_lane p lane (log_of p) (log_once p s v))
