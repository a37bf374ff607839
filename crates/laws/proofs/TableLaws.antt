-- The flat arrays of a post: looking up after a change, raising by a frame's entries, keeping an order. Assumes nothing.
use mathlib.Core.Path.{◌≡◌, refl, sym, ap, ◌∙◌}
use mathlib.Core.Logic.{◌⊎◌, inl, inr, ◌≢◌}
use mathlib.Core.Bool.{true, cond}
use mathlib.Core.List.{List}
use Prim.Native.Nat.{ℕ, zero, suc, ◌%◌, ◌<◌, ◌≤◌, max}
use native.Mathlib.Omega.{arith}
use lib.Dec.{eqb}
use lib.ListN.{length, get_or, set, length-set}
use lib.Seq.{get_or-set_same, get_or-set_other, set_out}
use borrow.Author.Tests.{lt-ltb, eq-eqb, ne_eqb}
use Rattle.frame.specs.Layout.{no_entry}
use Rattle.frame.specs.declared.Entry.{Entry}
use Rattle.cells.specs.Tables.{entry_place, stamp_under, with_stamp, order_place}
use Rattle.cells.proofs.Places.{entry_inside, entry_places, entry_unread, entry_unwritten, order_lane, order_serial_lem}
use Rattle.post.specs.declared.Post.{Post}
use Rattle.post.specs.Record.{last_of}
use Rattle.post.specs.Newest.{raised, raised_below}
use Rattle.post.specs.Taking.{kept}
use Rattle.deliver.specs.Delivery.{is_taken, stamp_at}
use Rattle.judge.specs.Judgement.{word_at}
use Rattle.laws.proofs.TestLaws.{same_or_not, below_or_not}

-- ---- one number of a list is changed

-- at its own place and at another, or past the end, where nothing changes
pub set_case : (P : ℕ → Type 0) (l : List ℕ) (i v j : ℕ) → (j ≡ i → i < length l → P v) → P (get_or l j 0) → P (get_or (set l i v) j 0)
set_case P l i v j h k = go (same_or_not j i) (below_or_not i (length l))
  where
    go : (j ≡ i) ⊎ (j ≢ i) → (i < length l) ⊎ (length l ≤ i) → P (get_or (set l i v) j 0)
    go (inl e) (inl b) = rw (e, get_or-set_same l i v 0 b) (h e b)
    go (inl e) (inr b) = rw (set_out l i v b) k
    go (inr e) b = rw (get_or-set_other l i j v 0 e) k

-- all stay below a bound
pub set_below : (l : List ℕ) (i v bound : ℕ) → v < bound → ((j : ℕ) → get_or l j 0 < bound) → (j : ℕ) → get_or (set l i v) j 0 < bound
set_below l i v bound h k j = set_case (λ (x : ℕ). x < bound) l i v j (λ e b. h) (k j)

-- ---- one entry of the table is changed

-- the table is as long as before
pub stamp_length : (table : List ℕ) (lane serial stamp : ℕ) → length (with_stamp table lane serial stamp) ≡ length table
unfolding with_stamp
stamp_length table lane serial stamp = length-set table (entry_place lane serial) stamp

-- at its own place there is the new stamp
pub stamp_same : (table : List ℕ) (lane serial stamp : ℕ) → length table ≡ 136 → lane < 8 → serial < 17
    → stamp_under (with_stamp table lane serial stamp) lane serial ≡ stamp
unfolding stamp_under with_stamp
stamp_same table lane serial stamp l h k =
    get_or-set_same table (entry_place lane serial) stamp 0 (rw l (entry_inside lane serial h (omega arith)))

-- in another lane, or at another serial of it, the old one
pub stamp_apart : (table : List ℕ) (lane serial stamp lane' serial' : ℕ) → length table ≡ 136 → (lane' ≡ lane → serial' ≢ serial)
    → stamp_under (with_stamp table lane serial stamp) lane' serial' ≡ stamp_under table lane' serial'
unfolding stamp_under with_stamp
stamp_apart table lane serial stamp lane' serial' l n = go (below_or_not serial 17) (below_or_not serial' 17)
  where
    go : (serial < 17) ⊎ (17 ≤ serial) → (serial' < 17) ⊎ (17 ≤ serial')
        → stamp_under (with_stamp table lane serial stamp) lane' serial' ≡ stamp_under table lane' serial'
    go (inl a) (inl b) =
        get_or-set_other table (entry_place lane serial) (entry_place lane' serial') stamp 0
        (λ e. let r = entry_places lane' serial' lane serial (omega arith) (omega arith) e in n r.0 r.1)
    go (inl a) (inr b) =
        entry_unread (with_stamp table lane serial stamp) lane' serial' (stamp_length table lane serial stamp ∙ l) (omega arith)
        ∙ sym (entry_unread table lane' serial' l (omega arith))
    go (inr a) b = ap (λ (t : List ℕ). stamp_under t lane' serial') (entry_unwritten table lane serial stamp l (omega arith))

-- all stamps stay below a bound
pub stamp_below : (table : List ℕ) (lane serial stamp bound : ℕ) → stamp < bound → ((j : ℕ) → get_or table j 0 < bound)
    → (j : ℕ) → get_or (with_stamp table lane serial stamp) j 0 < bound
unfolding with_stamp
stamp_below table lane serial stamp bound h k = set_below table (entry_place lane serial) stamp bound h k

-- ---- the table is raised

-- by an entry, at its own place
pub raised_same : (table : List ℕ) (lane : ℕ) (e : Entry) → length table ≡ 136 → lane < 8 → e.serial.0 < 17
    → stamp_under (raised table lane e) lane e.serial.0 ≡ max (stamp_under table lane e.serial.0) e.stamp.0
unfolding raised
raised_same table lane e l h k =
    stamp_same table lane e.serial.0 (max (stamp_under table lane e.serial.0) e.stamp.0) l h k

-- and at another
pub raised_apart : (table : List ℕ) (lane : ℕ) (e : Entry) (lane' serial' : ℕ) → length table ≡ 136 → (lane' ≡ lane → serial' ≢ e.serial.0)
    → stamp_under (raised table lane e) lane' serial' ≡ stamp_under table lane' serial'
unfolding raised
raised_apart table lane e lane' serial' l n =
    stamp_apart table lane e.serial.0 (max (stamp_under table lane e.serial.0) e.stamp.0) lane' serial' l n

-- raising keeps the table's length
pub raised_length : (table : List ℕ) (lane : ℕ) (e : Entry) → length (raised table lane e) ≡ length table
unfolding raised
raised_length table lane e = stamp_length table lane e.serial.0 (max (stamp_under table lane e.serial.0) e.stamp.0)

-- raising lowers nothing
pub raised_rises : (table : List ℕ) (lane : ℕ) (e : Entry) (lane' serial' : ℕ)
    → stamp_under table lane' serial' ≤ stamp_under (raised table lane e) lane' serial'
unfolding raised with_stamp stamp_under
raised_rises table lane e lane' serial' =
    let here : ℕ = entry_place lane e.serial.0 in
    let there : ℕ = entry_place lane' serial' in
    set_case (λ (x : ℕ). get_or table there 0 ≤ x) table here (max (get_or table here 0) e.stamp.0) there
    (λ q b. rw q (omega arith))
    (omega arith)

-- raising keeps all stamps below a bound
pub raised_under : (table : List ℕ) (lane : ℕ) (e : Entry) (bound : ℕ) → e.stamp.0 < bound → ((j : ℕ) → get_or table j 0 < bound)
    → (j : ℕ) → get_or (raised table lane e) j 0 < bound
unfolding raised stamp_under
raised_under table lane e bound h k =
    stamp_below table lane e.serial.0 (max (get_or table (entry_place lane e.serial.0) 0) e.stamp.0) bound
    (omega (arith, k (entry_place lane e.serial.0)))
    k

-- a stamp, raised by an entry where the serial is the entry's
abbrev pub raised_to : ℕ → Entry → ℕ → ℕ
raised_to old e serial = cond (eqb e.serial.0 serial) (max old e.stamp.0) old

-- one entry raises its lane at its serial, and nowhere else
raised_lane : (table : List ℕ) (lane : ℕ) (e : Entry) (serial : ℕ) → length table ≡ 136 → lane < 8 → serial < 17
    → stamp_under (raised table lane e) lane serial ≡ raised_to (stamp_under table lane serial) e serial
raised_lane table lane e serial l h k = go (same_or_not e.serial.0 serial)
  where
    go : (e.serial.0 ≡ serial) ⊎ (e.serial.0 ≢ serial)
        → stamp_under (raised table lane e) lane serial ≡ raised_to (stamp_under table lane serial) e serial
    go (inl q) = rw (eq-eqb e.serial.0 serial q, ← q) (raised_same table lane e l h (omega arith))
    go (inr q) = rw (ne_eqb e.serial.0 serial q) (raised_apart table lane e lane serial l (λ a b. q (sym b)))

-- raising by entries keeps the table's length
pub all_raised_length : (table : List ℕ) (entries : List Entry) (n : ℕ) → length (raised_below table entries n) ≡ length table
unfolding raised_below
all_raised_length table entries zero = refl
all_raised_length table entries (suc n) =
    raised_length (raised_below table entries n) n (get_or entries n no_entry) ∙ all_raised_length table entries n

-- raising by entries lowers nothing
pub all_raised_rises : (table : List ℕ) (entries : List Entry) (n lane serial : ℕ)
    → stamp_under table lane serial ≤ stamp_under (raised_below table entries n) lane serial
unfolding raised_below
all_raised_rises table entries zero lane serial = omega arith
all_raised_rises table entries (suc n) lane serial =
    omega (
      arith,
      all_raised_rises table entries n lane serial,
      raised_rises (raised_below table entries n) n (get_or entries n no_entry) lane serial,
    )

-- raising by entries keeps all stamps below a bound
pub all_raised_under : (table : List ℕ) (entries : List Entry) (n bound : ℕ) → ((i : ℕ) → (get_or entries i no_entry).stamp.0 < bound)
    → ((j : ℕ) → get_or table j 0 < bound)
    → (j : ℕ) → get_or (raised_below table entries n) j 0 < bound
unfolding raised_below
all_raised_under table entries zero bound h k = k
all_raised_under table entries (suc n) bound h k =
    raised_under (raised_below table entries n) n (get_or entries n no_entry) bound (h n) (all_raised_under table entries n bound h k)

-- a lane whose entry has not been looked at
all_raised_above : (table : List ℕ) (entries : List Entry) (n lane serial : ℕ) → length table ≡ 136 → n ≤ lane
    → stamp_under (raised_below table entries n) lane serial ≡ stamp_under table lane serial
unfolding raised_below
all_raised_above table entries zero lane serial t k = refl
all_raised_above table entries (suc n) lane serial t k =
    raised_apart (raised_below table entries n) n (get_or entries n no_entry) lane serial (all_raised_length table entries n ∙ t)
    (λ e. absurd (omega arith))
    ∙ all_raised_above table entries n lane serial t (omega arith)

-- a lane whose entry has been looked at
all_raised_below : (table : List ℕ) (entries : List Entry) (n lane serial : ℕ) → length table ≡ 136 → n ≤ 8 → lane < n → serial < 17
    → stamp_under (raised_below table entries n) lane serial ≡ raised_to (stamp_under table lane serial) (get_or entries lane no_entry) serial
unfolding raised_below
all_raised_below table entries zero lane serial t k l s = absurd (omega arith)
all_raised_below table entries (suc n) lane serial t k l s =
    go (same_or_not lane n) (λ m. all_raised_below table entries n lane serial t (omega arith) m s)
  where
    long : length (raised_below table entries n) ≡ 136
    long = all_raised_length table entries n ∙ t

    go : (lane ≡ n) ⊎ (lane ≢ n)
        → (lane < n → stamp_under (raised_below table entries n) lane serial ≡ raised_to (stamp_under table lane serial) (get_or entries lane no_entry) serial)
        → stamp_under (raised (raised_below table entries n) n (get_or entries n no_entry)) lane serial
        ≡ raised_to (stamp_under table lane serial) (get_or entries lane no_entry) serial
    go (inl e) ih =
        rw (
          e,
          raised_lane (raised_below table entries n) n (get_or entries n no_entry) serial long (omega arith) s,
          all_raised_above table entries n n serial t (omega arith),
        )
    go (inr e) ih =
        raised_apart (raised_below table entries n) n (get_or entries n no_entry) lane serial long (λ q. absurd (e q)) ∙ ih (omega arith)

-- after raising by all entries: the larger of the old stamp and the frame's, if the frame's entry of that lane has this serial, else the old one
pub all_raised : (table : List ℕ) (entries : List Entry) (lane serial : ℕ) → length table ≡ 136 → lane < 8 → serial < 17
    → stamp_under (raised_below table entries 8) lane serial ≡ raised_to (stamp_under table lane serial) (get_or entries lane no_entry) serial
all_raised table entries lane serial t l s = all_raised_below table entries 8 lane serial t (omega arith) l s

-- ---- an order is kept

-- an order up to the last taken from its lane is taken
pub order_taken : (p : Post) (q n : ℕ) → 0 < n → n ≤ 16 → n ≤ last_of p q → is_taken p (order_place q n) ≡ true
order_taken p q n a b h =
    let serial = order_serial_lem q n a b in
    rw (order_lane q n a b) (lt-ltb (order_place q n % 16) (last_of p q) (omega arith))

-- "last taken from q becomes n"
pub kept_last_same : (p : Post) (q n stamp word : ℕ) → length p.last ≡ 8 → q < 8 → last_of (kept p q n stamp word) q ≡ n
unfolding kept
kept_last_same p q n stamp word l h = get_or-set_same p.last q n 0 (omega arith)

-- that of every other lane stays
pub kept_last_other : (p : Post) (q n stamp word i : ℕ) → i ≢ q → last_of (kept p q n stamp word) i ≡ last_of p i
unfolding kept
kept_last_other p q n stamp word i h = get_or-set_other p.last q i n 0 h

-- the stamp at the order's place is the order's
pub kept_stamp_same : (p : Post) (q n stamp word : ℕ) → length p.stamps ≡ 128 → order_place q n < 128
    → stamp_at (kept p q n stamp word) (order_place q n) ≡ stamp
unfolding kept
kept_stamp_same p q n stamp word l h = get_or-set_same p.stamps (order_place q n) stamp 0 (rw l h)

-- the stamp at another place stays
pub kept_stamp_other : (p : Post) (q n stamp word place : ℕ) → place ≢ order_place q n → stamp_at (kept p q n stamp word) place ≡ stamp_at p place
unfolding kept
kept_stamp_other p q n stamp word place h = get_or-set_other p.stamps (order_place q n) place stamp 0 h

-- the word at the order's place is the order's
pub kept_word_same : (p : Post) (q n stamp word : ℕ) → length p.words ≡ 128 → order_place q n < 128
    → word_at (kept p q n stamp word) (order_place q n) ≡ word
unfolding kept
kept_word_same p q n stamp word l h = get_or-set_same p.words (order_place q n) word 0 (rw l h)

-- the word at another place stays
pub kept_word_other : (p : Post) (q n stamp word place : ℕ) → place ≢ order_place q n → word_at (kept p q n stamp word) place ≡ word_at p place
unfolding kept
kept_word_other p q n stamp word place h = get_or-set_other p.words (order_place q n) place word 0 h
