-- A yard as functions of lanes and serials, without lengths and bounds: what the invariants are proved over.
-- The crate `agreement` shows that the yard of document 01 does what this one does; nobody has to believe this file. Assumes nothing.
use mathlib.Core.List.{List, [], ◌∷◌, ◌++◌}
use mathlib.Core.Bool.{Bool, true, false, cond, ◌&&◌, ◌||◌, not}
use Prim.Native.Nat.{ℕ, zero, suc, ◌+◌, max}
use lib.Dec.{ltb, leb, eqb}
use Rattle.state.specs.Yards.{spent}
use Rattle.yard.specs.Worlds.{Single, order, hear, beacon}
use Rattle.roll.specs.Runs.{Order}
use Rattle.roll.specs.Logs.{in_order}
use Rattle.model.proofs.Functions.{upd, upd2}

-- ---- the state

-- an entry's stamp 0 is none
pub record Frame : Type 0 where
  pub beacon : Bool
  pub sender : ℕ
  pub carried : Order
  pub entry_serial : ℕ → ℕ
  pub entry_stamp : ℕ → ℕ

-- `own` is the own serial; `stamps` and `words` are of the orders taken, by lane and serial
pub record Post : Type 0 where
  pub clock : ℕ
  pub own : ℕ
  pub last : ℕ → ℕ
  pub table : ℕ → ℕ → ℕ
  pub stamps : ℕ → ℕ → ℕ
  pub words : ℕ → ℕ → ℕ
  pub log : List Order

pub record Roles : Type 0 where
  pub source : ℕ → Bool
  pub dest : ℕ → Bool
  pub present : ℕ → Bool

-- `beacons` are those sent by each lane, `first` is the number of each order's first frame
pub record Yard : Type 0 where
  pub posts : ℕ → Post
  pub air : ℕ → Frame
  pub frames : ℕ
  pub beacons : ℕ → ℕ
  pub first : ℕ → ℕ → ℕ

-- ---- the newest entry of a lane

-- the serial up to k with the highest stamp, of equals the higher
unfoldable pub best : (ℕ → ℕ) → ℕ → ℕ
best T zero = zero
best T (suc k) = cond (leb (T (best T k)) (T (suc k))) (suc k) (best T k)

abbrev pub newest_stamp : (ℕ → ℕ) → ℕ
newest_stamp T = T (best T 16)

abbrev pub newest_serial : (ℕ → ℕ) → ℕ
newest_serial T = cond (eqb (newest_stamp T) 0) 0 (best T 16)

-- ---- delivery

unfoldable pub all_below : ℕ → (ℕ → Bool) → Bool
all_below zero f = true
all_below (suc n) f = f n && all_below n f

-- those of a list that pass a test
unfoldable pub those : {A : Type 0} → (A → Bool) → List A → List A
those f [] = []
those f (x ∷ l) = cond (f x) (x ∷ those f l) (those f l)

-- the order of lane i with serial n, as the post keeps it
abbrev pub order_of : Post → ℕ → ℕ → Order
order_of P i n = record { lane = i; serial = n; stamp = P.stamps i n; word = P.words i n }

unfoldable pub lane_orders : Post → ℕ → ℕ → List Order
lane_orders P i zero = []
lane_orders P i (suc n) = order_of P i (suc n) ∷ lane_orders P i n

unfoldable pub taken_below : Post → ℕ → List Order
taken_below P zero = []
taken_below P (suc i) = lane_orders P i (P.last i) ++ taken_below P i

-- the list has lane i's order with serial n
unfoldable pub has : ℕ → ℕ → List Order → Bool
has i n [] = false
has i n (x ∷ l) = (eqb x.lane i && eqb x.serial n) || has i n l

module _ (R : Roles) where
  -- lane i, if it is a source, agrees to the delivery of stamp t
  unfoldable pub agrees : Post → ℕ → ℕ → Bool
  agrees P t i = not (R.source i) || leb t (P.table i (P.last i))

  unfoldable pub ready : Post → ℕ → Bool
  ready P t = all_below 8 (agrees P t)

  unfoldable pub due : Post → List Order
  due P = those (λ o. ready P o.stamp && not (has o.lane o.serial P.log)) (taken_below P 8)

  unfoldable pub new_log : ℕ → Post → List Order
  new_log p P = cond (R.dest p) (P.log ++ in_order (due P)) P.log

  abbrev pub deliver : ℕ → Post → Post
  deliver p P = record {
    clock = P.clock;
    own = P.own;
    last = P.last;
    table = P.table;
    stamps = P.stamps;
    words = P.words;
    log = new_log p P;
  }

-- ---- what a broadcast carries

abbrev pub entries_frame : Bool → ℕ → Order → Post → Frame
entries_frame b p o P = record {
  beacon = b;
  sender = p;
  carried = o;
  entry_serial = λ i. newest_serial (P.table i);
  entry_stamp = λ i. newest_stamp (P.table i);
}

abbrev pub no_order_lem : Order
no_order_lem = record { lane = 0; serial = 0; stamp = 0; word = 0 }

-- ---- what the steps do to a post

-- entry (e i, s i) of each lane i raises the table
unfoldable pub raise : (ℕ → ℕ → ℕ) → (ℕ → ℕ) → (ℕ → ℕ) → ℕ → ℕ → ℕ
raise t e s i n = cond (eqb n (e i)) (max (t i n) (s i)) (t i n)

-- order
abbrev pub own_taken : ℕ → ℕ → Post → Post
own_taken p w P = record {
  clock = suc P.clock;
  own = suc P.own;
  last = upd P.last p (suc P.own);
  table = upd2 P.table p (suc P.own) (suc P.clock);
  stamps = upd2 P.stamps p (suc P.own) (suc P.clock);
  words = upd2 P.words p (suc P.own) w;
  log = P.log;
}

-- hear: the entries
abbrev pub raised : Post → Frame → Post
raised P f = record {
  clock = P.clock;
  own = P.own;
  last = P.last;
  table = raise P.table f.entry_serial f.entry_stamp;
  stamps = P.stamps;
  words = P.words;
  log = P.log;
}

module _ (R : Roles) where
  -- hear: clock and table of a post that takes an order with stamp t
  abbrev pub clock_after : ℕ → ℕ → ℕ → ℕ
  clock_after p c t = cond (R.source p) (suc (max c t)) c

  abbrev pub table_after : ℕ → Post → ℕ → (ℕ → ℕ → ℕ)
  table_after p P t = cond (R.source p) (upd2 P.table p P.own (suc (max P.clock t))) P.table

  -- hear: an order is taken
  abbrev pub taken : ℕ → Order → Post → Post
  taken p o P = record {
    clock = clock_after p P.clock o.stamp;
    own = P.own;
    last = upd P.last o.lane o.serial;
    table = table_after p P o.stamp;
    stamps = upd2 P.stamps o.lane o.serial o.stamp;
    words = upd2 P.words o.lane o.serial o.word;
    log = P.log;
  }

abbrev pub takes : Post → Frame → Bool
takes P f = not f.beacon && eqb f.carried.serial (suc (P.last f.carried.lane))

-- ---- what they do to the yard

-- post p became P, and broadcast nothing
abbrev pub silent : Yard → ℕ → Post → Yard
silent Y p P = record { posts = upd Y.posts p P; air = Y.air; frames = Y.frames; beacons = Y.beacons; first = Y.first }

-- post p became P, and broadcast f
abbrev pub spoken : Yard → ℕ → Post → Frame → Yard
spoken Y p P f = record {
  posts = upd Y.posts p P;
  air = upd Y.air Y.frames f;
  frames = suc Y.frames;
  beacons = Y.beacons;
  first = Y.first;
}

module _ (R : Roles) where
  unfoldable pub order_refused : Yard → ℕ → ℕ → ℕ
  order_refused Y p w =
      cond (ltb 7 p) 4
      (cond (ltb 65535 w) 5
      (cond (not (R.present p)) 21
      (cond (not (R.source p)) 22
      (cond (leb 16 (Y.posts p).own) 23
      0))))

  unfoldable pub hear_refused : Yard → ℕ → ℕ → ℕ
  hear_refused Y p k =
      cond (ltb 7 p) 4
      (cond (not (R.present p)) 21
      (cond (leb Y.frames k) 25
      (cond (eqb (Y.air k).sender p) 26
      0)))

  unfoldable pub beacon_refused : Yard → ℕ → ℕ
  beacon_refused Y p =
      cond (ltb 7 p) 4
      (cond (not (R.present p)) 21
      (cond (spent (Y.beacons p)) 27
      0))

  -- the steps, not refused
  abbrev pub order_done : Yard → ℕ → ℕ → Yard
  order_done Y p w =
      let P = own_taken p w (Y.posts p) in
      record {
        posts = upd Y.posts p (deliver R p P);
        air = upd Y.air Y.frames (entries_frame false p (order_of P p P.own) P);
        frames = suc Y.frames;
        beacons = Y.beacons;
        first = upd2 Y.first p P.own Y.frames;
      }

  abbrev pub beacon_done : Yard → ℕ → Yard
  beacon_done Y p = record {
    posts = Y.posts;
    air = upd Y.air Y.frames (entries_frame true p no_order_lem (Y.posts p));
    frames = suc Y.frames;
    beacons = upd Y.beacons p (suc (Y.beacons p));
    first = Y.first;
  }

  unfoldable pub hear_done : Yard → ℕ → Frame → Yard
  hear_done Y p f =
      let P = raised (Y.posts p) f in
      let Q = taken R p f.carried P in
      cond (takes P f) (spoken Y p (deliver R p Q) (entries_frame false p f.carried Q)) (silent Y p (deliver R p P))

  unfoldable pub step : Yard → Single → Yard
  step Y (order p w) = cond (eqb (order_refused Y p w) 0) (order_done Y p w) Y
  step Y (hear p k) = cond (eqb (hear_refused Y p k) 0) (hear_done Y p (Y.air k)) Y
  step Y (beacon p) = cond (eqb (beacon_refused Y p) 0) (beacon_done Y p) Y

  -- the order that a step sends, if any
  unfoldable pub sent_by : Yard → Single → List Order
  sent_by Y (order p w) =
      cond (eqb (order_refused Y p w) 0)
      (record { lane = p; serial = suc (Y.posts p).own; stamp = suc (Y.posts p).clock; word = w } ∷ [])
      []
  sent_by Y (hear p k) = []
  sent_by Y (beacon p) = []

  unfoldable pub run : Yard → List Single → Yard
  run Y [] = Y
  run Y (s ∷ l) = run (step Y s) l

  unfoldable pub sent : Yard → List Single → List Order
  sent Y [] = []
  sent Y (s ∷ l) = sent_by Y s ++ sent (step Y s) l

unfoldable pub fresh_post : Post
fresh_post = record { clock = 0; own = 0; last = λ i. 0; table = λ i n. 0; stamps = λ i n. 0; words = λ i n. 0; log = [] }

-- whatever the air holds, none of it is a frame yet
unfoldable pub fresh : (ℕ → Frame) → Yard
fresh air = record { posts = λ p. fresh_post; air = air; frames = 0; beacons = λ p. 0; first = λ i n. 0 }

-- ---- the roll call

-- post p hears serials 1 to n of lane q
unfoldable pub lane_hears : Yard → ℕ → ℕ → ℕ → List Single
lane_hears Y p q zero = []
lane_hears Y p q (suc n) = lane_hears Y p q n ++ (hear p (Y.first q (suc n)) ∷ [])

-- of the lanes below k
unfoldable pub lanes_hears : Yard → ℕ → ℕ → List Single
lanes_hears Y p zero = []
lanes_hears Y p (suc q) = lanes_hears Y p q ++ cond (eqb q p) [] (lane_hears Y p q (Y.posts q).own)

module _ (R : Roles) where
  -- the posts below k
  unfoldable pub posts_hear : Yard → ℕ → List Single
  posts_hear Y zero = []
  posts_hear Y (suc p) = posts_hear Y p ++ cond (R.present p) (lanes_hears Y p 8) []

  unfoldable pub beacons_sent : ℕ → List Single
  beacons_sent zero = []
  beacons_sent (suc i) = beacons_sent i ++ cond (R.source i) (beacon i ∷ []) []

  -- how many sources, and how many posts, stand below k
  unfoldable pub sources_below : ℕ → ℕ
  sources_below zero = 0
  sources_below (suc i) = sources_below i + cond (R.source i) 1 0

  unfoldable pub posts_below : ℕ → ℕ
  posts_below zero = 0
  posts_below (suc i) = posts_below i + cond (R.present i) 1 0

  -- post p hears the beacons, which stand on the air from c on
  unfoldable pub beacons_heard : ℕ → ℕ → ℕ → List Single
  beacons_heard c p zero = []
  beacons_heard c p (suc i) = beacons_heard c p i ++ cond (R.source i && not (eqb i p)) (hear p (c + sources_below i) ∷ []) []

  unfoldable pub posts_hear_beacons : ℕ → ℕ → List Single
  posts_hear_beacons c zero = []
  posts_hear_beacons c (suc p) = posts_hear_beacons c p ++ cond (R.present p) (beacons_heard c p 8) []

  unfoldable pub roll_steps : Yard → List Single
  roll_steps Y = posts_hear Y 8 ++ (beacons_sent 8 ++ posts_hear_beacons (run R Y (posts_hear Y 8)).frames 8)
