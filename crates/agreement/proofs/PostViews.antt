-- A post read as the model's post: taking an order, raising by entries and a fresh post are the model's. Assumes nothing.
use mathlib.Core.Path.{◌≡◌, refl, ap, ◌∙◌}
use mathlib.Core.Logic.{inl, inr, ◌≢◌}
use mathlib.Core.Bool.{Bool, true, false, cond, not, ◌&&◌}
use mathlib.Core.List.{List, [], ◌∷◌, map}
use Prim.Native.Nat.{ℕ, suc, ◌+◌, ◌/◌, ◌%◌, ◌<◌, ◌≤◌, max}
use native.Mathlib.Omega.{arith}
use native.Mathlib.Numerals.{add-one}
use lib.Dec.{eqb}
use lib.ListN.{length}
use borrow.Author.Tests.{ltb-true}
use Rattle.frame.specs.declared.Frame.{Frame}
use Rattle.frame.specs.Types.{Typed}
use Rattle.frame.specs.Refusals.{frame_refusal}
use Rattle.cells.specs.Tables.{stamp_under, with_stamp, order_place}
use Rattle.cells.proofs.Places.{order_lane, order_serial_lem}
use Rattle.post.specs.declared.Post.{Post}
use Rattle.post.specs.Record.{is_source, last_of, with_clock, fresh_post}
use Rattle.post.specs.Newest.{raised_below}
use Rattle.post.specs.Taking.{kept, ticked, own_taken, raised_post, taken}
use Rattle.deliver.specs.Delivery.{is_taken}
use Rattle.steps.specs.Refusals.{is_order, is_next}
use Rattle.state.specs.Yards.{no_post}
use Rattle.roll.specs.Runs.{Order}
use Rattle.roll.specs.Logs.{order_at, orders_logged}
use Rattle.laws.proofs.ListLaws.{Mem}
use Rattle.laws.proofs.TableLaws.{all_raised_length, kept_stamp_other, kept_word_other}
use Rattle.laws.proofs.LogLaws.{log_of}
use Rattle.laws.proofs.Valid.{Shaped, Valid}
use Rattle.laws.proofs.ValidLog.{log_taken_lem}
use Rattle.laws.proofs.Accepted.{GoodOrder, accepted}
use Rattle.laws.proofs.Hearable.{next_is}
use Rattle.model.proofs.Functions.{upd, upd2}
use Rattle.model.proofs.Model as model
use Rattle.agreement.proofs.Views.{post_view, frame_view, places_view}
use Rattle.agreement.proofs.ArrayViews.{lanes_set, table_set, serials_of, stamps_of, table_raised, places_set, lanes_zeros, table_zeros, places_zeros}

-- ---- the log while an order is taken

-- two lists made from one list, member by member alike, are one
map_same : (f g : ℕ → Order) (l : List ℕ) → ((x : ℕ) → Mem x l → f x ≡ g x) → map f l ≡ map g l
map_same f g [] h = refl
map_same f g (x ∷ l) h = rw (h x (inl refl), map_same f g l (λ y m. h y (inr m)))

-- the next order of a lane is not yet taken
not_yet : (p : Post) (q n place : ℕ) → n ≡ last_of p q + 1 → n ≤ 16 → is_taken p place ≡ true → place ≢ order_place q n
not_yet p q n place e b t k =
    let lane : place / 16 ≡ q = rw k (order_lane q n (omega arith) b) in
    let below : place % 16 < last_of p (place / 16) = ltb-true (place % 16) (last_of p (place / 16)) t in
    omega (arith, ap (last_of p) lane, order_serial_lem q n (omega arith) b)

-- so the orders in the log stay as they are when it is kept
kept_log : (p : Post) (clock serial : ℕ) (table : List ℕ) (q n stamp word : ℕ) → Shaped p → Valid p → n ≡ last_of p q + 1 → n ≤ 16
    → orders_logged (kept (with_clock p clock serial table) q n stamp word) ≡ orders_logged p
unfolding kept
kept_log p clock serial table q n stamp word s v e b =
    map_same (order_at x) (order_at p) (log_of p) (λ place m. same place (not_yet p q n place e b (log_taken_lem p s v place m).1))
  where
    w : Post
    w = with_clock p clock serial table

    x : Post
    x = kept w q n stamp word

    same : (place : ℕ) → place ≢ order_place q n → order_at x place ≡ order_at p place
    same place d = λ t. record {
      lane = place / 16;
      serial = place % 16 + 1;
      stamp = kept_stamp_other w q n stamp word place d t;
      word = kept_word_other w q n stamp word place d t;
    }

-- ---- the steps

-- an order
pub view_ordered : (p : Post) (word : ℕ) → Shaped p → Valid p → p.serial.0 < 16
    → post_view (own_taken p word) ≡ model.own_taken p.lane word (post_view p)
unfolding own_taken ticked kept
view_ordered p word s v h =
    let clock : ℕ = p.clock.0 + 1 in
    let serial : ℕ = p.serial.0 + 1 in
    let table : List ℕ = with_stamp p.table p.lane serial clock in
    rw (← add-one p.clock.0, ← add-one p.serial.0)
    (λ t. record {
      clock = clock;
      own = serial;
      last = lanes_set p.last p.lane serial s.last v.lane t;
      table = table_set p.table p.lane serial clock s.table v.lane (omega arith) t;
      stamps = places_set p.stamps p.lane serial clock s.stamps v.lane (omega arith) (omega arith) t;
      words = places_set p.words p.lane serial word s.words v.lane (omega arith) (omega arith) t;
      log = kept_log p clock serial table p.lane serial clock word s v (omega (arith, v.own)) (omega arith) t;
    })

-- the entries of a frame that is not refused
pub view_raised : (p : Post) (f : Frame) → Shaped p → frame_refusal f ≡ 0 → Typed f
    → post_view (raised_post p f) ≡ model.raised (post_view p) (frame_view f)
unfolding raised_post
view_raised p f s z c = λ t. record {
  clock = p.clock.0;
  own = p.serial.0;
  last = λ i. last_of p i;
  table = table_raised p.table f.entries s.table c.count (accepted f z).serials t;
  stamps = places_view p.stamps;
  words = places_view p.words;
  log = orders_logged p;
}

-- an order that was heard
pub view_taken : (p : Post) (f : Frame) → Shaped p → Valid p → frame_refusal f ≡ 0 → Typed f → is_next f (last_of p f.lane) ≡ true
    → (R : model.Roles) → R.source p.lane ≡ is_source p p.lane
    → post_view (taken p f) ≡ model.taken R p.lane (frame_view f).carried (model.raised (post_view p) (frame_view f))
unfolding taken raised_post ticked kept
view_taken p f s v z c n R r = rw r (go (is_source p p.lane))
  where
    next : f.serial.0 ≡ last_of p f.lane + 1
    next = (next_is f (last_of p f.lane) n).1

    order : GoodOrder f
    order = (accepted f z).order (next_is f (last_of p f.lane) n).0

    few : f.serial.0 < 17
    few = omega (arith, order.serial)

    -- what the post has after the entries: its table here and in the model
    table : List ℕ
    table = raised_below p.table f.entries 8

    raised : ℕ → ℕ → ℕ
    raised = model.raise (stamp_under p.table) (serials_of f.entries) (stamps_of f.entries)

    clock : ℕ
    clock = max p.clock.0 f.stamp.0 + 1

    -- the post with the order kept; a source ticks as well
    q : Post
    q = kept (raised_post p f) f.lane f.serial.0 f.stamp.0 f.word

    -- the table after the entries, and after the own entry too
    heard : stamp_under table ≡ raised
    heard = table_raised p.table f.entries s.table c.count (accepted f z).serials

    long : length table ≡ 136
    long = all_raised_length p.table f.entries 8 ∙ s.table

    own : stamp_under (with_stamp table p.lane p.serial.0 clock) ≡ upd2 raised p.lane p.serial.0 (suc (max p.clock.0 f.stamp.0))
    own =
        table_set table p.lane p.serial.0 clock long v.lane (omega (arith, v.serial))
        ∙ rw (add-one (max p.clock.0 f.stamp.0), heard)

    -- the parts that do not depend on the role
    log : orders_logged q ≡ orders_logged p
    log = kept_log p p.clock.0 p.serial.0 table f.lane f.serial.0 f.stamp.0 f.word s v next order.serial

    last : (λ (i : ℕ). last_of q i) ≡ upd (λ (i : ℕ). last_of p i) f.lane f.serial.0
    last = lanes_set p.last f.lane f.serial.0 s.last order.lane

    stamps : places_view q.stamps ≡ upd2 (places_view p.stamps) f.lane f.serial.0 f.stamp.0
    stamps = places_set p.stamps f.lane f.serial.0 f.stamp.0 s.stamps order.lane order.some few

    words : places_view q.words ≡ upd2 (places_view p.words) f.lane f.serial.0 f.word
    words = places_set p.words f.lane f.serial.0 f.word s.words order.lane order.some few

    roles : Bool → model.Roles
    roles b = record { source = λ i. b; dest = R.dest; present = R.present }

    go : (b : Bool) → post_view (cond b (ticked q p.serial.0 clock) q)
        ≡ model.taken (roles b) p.lane (frame_view f).carried (model.raised (post_view p) (frame_view f))
    go true = λ t. record {
      clock = add-one (max p.clock.0 f.stamp.0) t;
      own = p.serial.0;
      last = last t;
      table = own t;
      stamps = stamps t;
      words = words t;
      log = log t;
    }
    go false = λ t. record { clock = p.clock.0; own = p.serial.0; last = last t; table = heard t; stamps = stamps t; words = words t; log = log t }

-- whether an order is taken
pub view_takes : (p : Post) (f : Frame) → model.takes (model.raised (post_view p) (frame_view f)) (frame_view f) ≡ is_next f (last_of p f.lane)
view_takes p f = go (is_order f)
  where
    go : (b : Bool) → (not (not b) && eqb f.serial.0 (suc (last_of p f.lane))) ≡ (b && eqb f.serial.0 (last_of p f.lane + 1))
    go true = rw add-one
    go false = refl

-- ---- nothing yet

-- a fresh post
pub view_fresh : (lane posts sources dests : ℕ) → post_view (fresh_post lane posts sources dests) ≡ model.fresh_post
unfolding model.fresh_post
view_fresh lane posts sources dests = λ t. record {
  clock = 0;
  own = 0;
  last = lanes_zeros 8 t;
  table = table_zeros 136 t;
  stamps = places_zeros 128 t;
  words = places_zeros 128 t;
  log = [];
}

-- what stands past the last lane
pub view_none : post_view no_post ≡ model.fresh_post
unfolding model.fresh_post
view_none = λ t. record {
  clock = 0;
  own = 0;
  last = λ i. 0;
  table = table_zeros 0 t;
  stamps = places_zeros 0 t;
  words = places_zeros 0 t;
  log = [];
}
