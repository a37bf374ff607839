-- The newest entry of a lane is its greatest stamp with the last serial that it stands under. Assumes nothing.
use mathlib.Core.Path.{◌≡◌, refl, ap, ap₂, sym, ◌∙◌}
use mathlib.Core.Bool.{Bool, true, false, cond, ◌&&◌}
use mathlib.Core.List.{List}
use Prim.Native.Nat.{ℕ, zero, suc, ◌+◌, ◌*◌, ◌%◌, ◌<◌, ◌≤◌, max}
use native.Mathlib.Numerals.{add-one}
use native.Mathlib.Omega.{arith}
use lib.Dec.{eqb, ltb, leb}
use lib.ListN.{get_or, set, replicate, take, drop}
use borrow.Author.Tests.{eqb-true, eqb-false, eq-eqb, ne_eqb, ltb-false, lt-ltb, le-ltb, leb-true, leb-false}
use Rattle.frame.specs.Layout.{no_entry}
use Rattle.frame.specs.declared.Entry.{Entry}
use Rattle.frame.specs.declared.Serial.{Serial}
use Rattle.frame.specs.declared.Stamp.{Stamp}
use Rattle.cells.specs.Tables.{stamp_under}
use Rattle.cells.proofs.Places.{entry_read}
use Rattle.row.specs.Rows.{part}
use Rattle.row.proofs.Laws.{part_get}
use Rattle.post.specs.Newest.{newer, newest_below, newest, newest_entries}
use Rattle.newest.specs.Loops.{greatest_below, last_below, entries_below}

-- a stamp and a serial are their numbers
pub stamp_is_lem : (s : Stamp) (n : ℕ) → s.0 ≡ n → s ≡ record { 0 = n }
stamp_is_lem s n p = ap (λ m. record { 0 = m }) p

pub serial_is : (s : Serial) (n : ℕ) → s.0 ≡ n → s ≡ record { 0 = n }
serial_is s n p = ap (λ m. record { 0 = m }) p

-- one stamp more
pub greatest_more : (table : List ℕ) (first n k g r : ℕ) → k ≡ first + n → g ≡ greatest_below table first n
    → r ≡ max g (get_or table k 0) → r ≡ greatest_below table first (n + 1)
unfolding greatest_below
greatest_more table first n k g r e p q = rw (add-one, ← p, ← e) q

-- no stamp is greater
bound_more : (table : List ℕ) (first n k g : ℕ) → k < suc n → (k < n → get_or table (first + k) 0 ≤ g)
    → get_or table (first + k) 0 ≤ max g (get_or table (first + n) 0)
bound_more table first n k g h ih = go (eqb k n) refl where
  go : (t : Bool) → eqb k n ≡ t → get_or table (first + k) 0 ≤ max g (get_or table (first + n) 0)
  go true e = let q : k ≡ n = eqb-true k n e in rw q (omega arith)
  go false e = omega (arith, ih (omega (arith, eqb-false k n e)))

pub greatest_bound : (table : List ℕ) (first n k : ℕ) → k < n → get_or table (first + k) 0 ≤ greatest_below table first n
unfolding greatest_below
greatest_bound table first zero k h = absurd (omega arith)
greatest_bound table first (suc n) k h = bound_more table first n k _ h (greatest_bound table first n k)

-- the flag of a last serial, where 0 says that there is none
abbrev pub flag_of : ℕ → ℕ
flag_of l = cond (ltb 0 l) (32 + l) 0

pub flag_last : (l : ℕ) → l < 32 → flag_of l % 32 ≡ l
flag_last zero h = refl
flag_last (suc l) h = rw (lt-ltb 0 (suc l) (omega arith)) (omega arith)

pub last_one : (table : List ℕ) (first m : ℕ) → ◌≡◌ {A = ℕ} 0 (last_below table first m 1)
unfolding last_below
last_one table first m = go (eqb (get_or table (first + 0) 0) m) where
  go : (t : Bool) → ◌≡◌ {A = ℕ} 0 (max 0 (cond t 0 0))
  go true = refl
  go false = refl

-- one serial more
flag_more : (l n : ℕ) (t : Bool) → 0 < n → max (flag_of l) (cond t (32 + n) 0) ≡ flag_of (max l (cond t n 0))
flag_more zero n true h = let z : max 0 n ≡ n = omega arith in rw (z, lt-ltb 0 n h) (omega arith)
flag_more zero n false h = refl
flag_more (suc l) n true h = rw (lt-ltb 0 (max (suc l) n) (omega arith), lt-ltb 0 (suc l) (omega arith)) (omega arith)
flag_more (suc l) n false h = let z : max (suc l) 0 ≡ suc l = omega arith in rw (z, lt-ltb 0 (suc l) (omega arith)) (omega arith)

pub last_more_lem : (table : List ℕ) (first m n k l v r : ℕ) → 0 < n → k ≡ first + n → l ≡ flag_of (last_below table first m n)
    → v ≡ cond (eqb (get_or table k 0) m) (32 + n) 0 → r ≡ max l v
    → r ≡ flag_of (last_below table first m (n + 1))
unfolding last_below
last_more_lem table first m n k l v r h f p q e =
    e ∙ ap₂ max p (rw f at q) ∙ flag_more (last_below table first m n) n (eqb (get_or table (first + n) 0) m) h ∙ ap (λ k. flag_of (last_below table first m k)) (sym (add-one n))

-- the last serial below n is not above n
larger_bound : (l n : ℕ) (t : Bool) → l ≤ n → max l (cond t n 0) ≤ suc n
larger_bound l n true h = omega arith
larger_bound l n false h = omega arith

pub last_bound : (table : List ℕ) (first m n : ℕ) → last_below table first m n ≤ n
unfolding last_below
last_bound table first m zero = omega arith
last_bound table first m (suc n) = larger_bound (last_below table first m n) n (eqb (get_or table (first + n) 0) m) (last_bound table first m n)

-- the entry of a serial and a stamp
abbrev entry_of : ℕ → ℕ → Entry
entry_of serial stamp = record { serial = record { 0 = serial }; stamp = record { 0 = stamp } }

-- the entry of the greatest stamp g, where `last` gives a stamp's last serial
abbrev entry_by : (ℕ → ℕ) → ℕ → Entry
entry_by last g = entry_of (cond (ltb 0 g) (last g) 0) g

-- of the greatest stamp below n and the stamp x under n
newer_is : (last : ℕ → ℕ) (g x n : ℕ) → ((m : ℕ) → last m ≤ n)
    → cond (ltb 0 x && leb g x) (entry_of n x) (entry_by last g) ≡ entry_by (λ m. max (last m) (cond (eqb x m) n 0)) (max g x)
newer_is last g x n h = go (ltb 0 x) (leb g x) (eqb x g) refl refl refl where
  go : (a b c : Bool) → ltb 0 x ≡ a → leb g x ≡ b → eqb x g ≡ c
      → cond (ltb 0 x && leb g x) (entry_of n x) (entry_by last g) ≡ entry_by (λ m. max (last m) (cond (eqb x m) n 0)) (max g x)
  go true true c p q e =
      let m : max g x ≡ x = omega (arith, leb-true g x q) in
      let l : max (last x) n ≡ n = omega (arith, h x) in
      rw (p, q, m, p, eq-eqb x x refl, l)
  go true false c p q e =
      let m : max g x ≡ g = omega (arith, leb-false g x q) in
      let l : max (last g) 0 ≡ last g = omega arith in
      let f : eqb x g ≡ false = ne_eqb x g (λ i. omega (arith, leb-false g x q)) in
      rw (p, q, m, f, l)
  go false b true p q e =
      let z : x ≡ 0 = omega (arith, ltb-false 0 x p) in
      let i : x ≡ g = eqb-true x g e in
      let m : max g x ≡ g = omega arith in
      let o : ltb 0 g ≡ false = le-ltb 0 g (omega arith) in
      rw (p, m, o)
  go false b false p q e =
      let m : max g x ≡ g = omega (arith, ltb-false 0 x p) in
      let l : max (last g) 0 ≡ last g = omega arith in
      rw (p, m, e, l)

-- so the newest entry below n is known from the two loops
step_is : (table : List ℕ) (lane n : ℕ) (best : Entry) (last : ℕ → ℕ) (g x : ℕ) → ((m : ℕ) → last m ≤ n)
    → best ≡ entry_by last g → stamp_under table lane n ≡ x
    → newer table lane n best ≡ entry_by (λ m. max (last m) (cond (eqb x m) n 0)) (max g x)
unfolding newer
step_is table lane n best last g x h e q = rw (e, q) (newer_is last g x n h)

newest_below_lem : (table : List ℕ) (lane n : ℕ) → n ≤ 17
    → newest_below table lane n ≡ entry_by (λ m. last_below table (lane * 17) m n) (greatest_below table (lane * 17) n)
unfolding newest_below greatest_below last_below
newest_below_lem table lane zero b = refl
newest_below_lem table lane (suc n) b =
    step_is table lane n _ (λ m. last_below table (lane * 17) m n) (greatest_below table (lane * 17) n) _
    (λ m. last_bound table (lane * 17) m n) (newest_below_lem table lane n (omega arith)) (entry_read table lane n (omega arith))

-- the two ways out
pub newest_none : (table : List ℕ) (lane first g : ℕ) (r : Entry) → first ≡ lane * 17 → g ≡ greatest_below table first 17
    → g ≡ 0 → r ≡ no_entry → r ≡ newest table lane
newest_none table lane first g r e p z q =
    let k : greatest_below table (lane * 17) 17 ≡ 0 = cc in
    rw (newest_below_lem table lane 17 (omega arith), k) q

pub newest_found : (table : List ℕ) (lane first g l : ℕ) → first ≡ lane * 17 → g ≡ greatest_below table first 17 → 0 < g
    → l ≡ last_below table first g 17 → entry_of l g ≡ newest table lane
newest_found table lane first g l e p h q =
    let k : greatest_below table (lane * 17) 17 ≡ g = cc in
    let o : ltb 0 g ≡ true = lt-ltb 0 g h in
    rw (newest_below_lem table lane 17 (omega arith), k, o, ← e, ← q)

-- no lane yet, and one lane more
pub entries_first : (table : List ℕ) (e : Entry) → e ≡ no_entry → replicate 8 e ≡ entries_below table 0
unfolding entries_below
entries_first table e p = rw p

pub entries_more : (table : List ℕ) (n : ℕ) (es r : List Entry) (e : Entry) → es ≡ entries_below table n → e ≡ newest table n
    → r ≡ set es n e → r ≡ entries_below table (n + 1)
unfolding entries_below
entries_more table n es r e p q s = rw (add-one, ← p, ← q) s

pub entries_all : (table : List ℕ) → entries_below table 8 ≡ newest_entries table
unfolding entries_below newest_entries
entries_all table = refl

-- the newest of a lane's stamps alone is that of the lane in the table
lane_stamp : (table : List ℕ) (m lane n : ℕ) → m ≡ 17 → n ≤ 16
    → stamp_under (take m (drop (lane * 17) table)) 0 n ≡ stamp_under table lane n
unfolding part
lane_stamp table m lane n w h =
    let e : 0 * 17 + n ≡ n = omega arith in
    (rw e at (entry_read (take m (drop (lane * 17) table)) 0 n h)) ∙ part_get table (lane * 17) m n (omega arith) ∙ sym (entry_read table lane n h)

pub lane_newest : (table : List ℕ) (m lane n : ℕ) → m ≡ 17 → n ≤ 17
    → newest_below (take m (drop (lane * 17) table)) 0 n ≡ newest_below table lane n
unfolding newest_below newer
lane_newest table m lane zero w h = refl
lane_newest table m lane (suc n) w h = rw (lane_stamp table m lane n w (omega arith), lane_newest table m lane n w (omega arith))
