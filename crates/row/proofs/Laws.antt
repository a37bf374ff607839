-- Cells of a row: writing one changes exactly the field that it belongs to. Assumes nothing.
use Prim.Native.Nat.{ℕ, ◌+◌, ◌-◌, ◌<◌, ◌≤◌}
use mathlib.Core.Path.{◌≡◌, refl, ◌∙◌}
use mathlib.Core.Bool.{Bool, true, false, cond, ◌||◌}
use mathlib.Core.List.{List}
use native.Mathlib.Omega.{arith}
use borrow.Author.Tests.{ltb-true, ltb-false, leb-true}
use lib.Dec.{ltb, leb}
use lib.ListN.{length, get_or, set, take, drop, length-take, length-set, get_or-eq_default}
use lib.Seq.{set_out, get_or-set_same, get_or-set_other, drop-set-add, take-set-lt, take-set-le, drop-set-lt, get_or-take, get_or-drop}
use Rattle.cells.specs.Tables.{entry_place, with_stamp, order_place}
use Rattle.post.specs.Record.{with_clock, with_orders, with_log}
use Rattle.post.specs.Taking.{kept, ticked}
use Rattle.row.specs.Rows.{part, put_in, post_in, known_in, past_in, with_table, ticked_row}

-- ---- one law over an offset and a length

-- the m cells from b on are apart from the n cells from a on
abbrev pub apart : ℕ → ℕ → ℕ → ℕ → Bool
apart a n b m = leb (a + n) b || leb (b + m) a

-- reading in a part
pub part_get : (l : List ℕ) (a n i : ℕ) → i < n → get_or (part l a n) i 0 ≡ get_or l (a + i) 0
unfolding part
part_get l a n i h = get_or-take n (drop a l) i 0 h ∙ get_or-drop a l i 0

pub part_out : (l : List ℕ) (a n i : ℕ) → n ≤ i → get_or (part l a n) i 0 ≡ 0
unfolding part
part_out l a n i h = get_or-eq_default (take n (drop a l)) 0 {n = i} (simp length-take (omega arith))

-- writing in a part is writing its list
pub part_put : (l : List ℕ) (a n i v : ℕ) → part (put_in l a n i v) a n ≡ set (part l a n) i v
unfolding part put_in
part_put l a n i v = go (ltb i n) refl
  where
    go : (t : Bool) → ltb i n ≡ t → take n (drop a (cond (ltb i n) (set l (a + i) v) l)) ≡ set (take n (drop a l)) i v
    go true e =
        let h : i < n = ltb-true i n e in
        rw (e, drop-set-add, take-set-lt)
    go false e =
        let h : length (take n (drop a l)) ≤ i = simp length-take (omega (arith, ltb-false i n e)) in
        rw (e, set_out (take n (drop a l)) i v h)

-- and nothing else
pub part_apart : (l : List ℕ) (a n i v b m : ℕ) → apart a n b m ≡ true → part (put_in l a n i v) b m ≡ part l b m
unfolding part put_in
part_apart l a n i v b m s = go (ltb i n) (leb (a + n) b) refl refl s
  where
    go : (t u : Bool) → ltb i n ≡ t → leb (a + n) b ≡ u → (leb (a + n) b || leb (b + m) a) ≡ true
        → take m (drop b (cond (ltb i n) (set l (a + i) v) l)) ≡ take m (drop b l)
    go false u e g s = rw e
    go true true e g s =
        let h : a + i < b = omega (arith, ltb-true i n e, leb-true (a + n) b g) in
        rw (e, drop-set-lt)
    go true false e g s =
        let k : leb (b + m) a ≡ true = rw g at s in
        let q : a + i ≡ b + ((a - b) + i) = omega (arith, leb-true (b + m) a k) in
        let h : m ≤ (a - b) + i = omega (arith, leb-true (b + m) a k) in
        rw (e, q, drop-set-add, take-set-le)

pub cell_apart : (l : List ℕ) (a n i v k : ℕ) → apart a n k 1 ≡ true → get_or (put_in l a n i v) k 0 ≡ get_or l k 0
unfolding put_in
cell_apart l a n i v k s = go (ltb i n) (leb (a + n) k) refl refl s
  where
    go : (t u : Bool) → ltb i n ≡ t → leb (a + n) k ≡ u → (leb (a + n) k || leb (k + 1) a) ≡ true
        → get_or (cond (ltb i n) (set l (a + i) v) l) k 0 ≡ get_or l k 0
    go false u e g s = rw e
    go true true e g s = rw e (get_or-set_other l (a + i) k v 0 (λ (q : k ≡ a + i). omega (arith, q, ltb-true i n e, leb-true (a + n) k g)))
    go true false e g s =
        let z : leb (k + 1) a ≡ true = rw g at s in
        rw e (get_or-set_other l (a + i) k v 0 (λ (q : k ≡ a + i). omega (arith, q, leb-true (k + 1) a z)))

-- a number is written where the row has its cell
module _ (l : List ℕ) (v : ℕ) (h : 543 ≤ length l) where
  pub put_clock : post_in (set l 3 v) ≡ with_clock (post_in l) v (post_in l).serial.0 (post_in l).table
  unfolding post_in put_in
  put_clock =
      let cell = cell_apart l 3 1 0 v in
      let other = part_apart l 3 1 0 v in
      rw (cell 0 refl, cell 542 refl, cell 1 refl, cell 2 refl, get_or-set_same l 3 v 0 (omega arith), cell 4 refl, cell 5 refl, other 6 8 refl, other 22 136 refl, other 158 128 refl, other 286 128 refl, other 414 128 refl)

  pub put_serial : post_in (set l 4 v) ≡ with_clock (post_in l) (post_in l).clock.0 v (post_in l).table
  unfolding post_in put_in
  put_serial =
      let cell = cell_apart l 4 1 0 v in
      let other = part_apart l 4 1 0 v in
      rw (cell 0 refl, cell 542 refl, cell 1 refl, cell 2 refl, cell 3 refl, get_or-set_same l 4 v 0 (omega arith), cell 5 refl, other 6 8 refl, other 22 136 refl, other 158 128 refl, other 286 128 refl, other 414 128 refl)

  pub put_logged : post_in (set l 5 v) ≡ with_log (post_in l) (post_in l).log v
  unfolding post_in put_in
  put_logged =
      let cell = cell_apart l 5 1 0 v in
      let other = part_apart l 5 1 0 v in
      rw (cell 0 refl, cell 542 refl, cell 1 refl, cell 2 refl, cell 3 refl, cell 4 refl, get_or-set_same l 5 v 0 (omega arith), other 6 8 refl, other 22 136 refl, other 158 128 refl, other 286 128 refl, other 414 128 refl)

-- ---- the fields

module _ (l : List ℕ) (i v : ℕ) where
  pub put_last : post_in (put_in l 6 8 i v) ≡ with_orders (post_in l) (set (post_in l).last i v) (post_in l).stamps (post_in l).words
  unfolding post_in
  put_last =
      let cell = cell_apart l 6 8 i v in
      let other = part_apart l 6 8 i v in
      rw (cell 0 refl, cell 542 refl, cell 1 refl, cell 2 refl, cell 3 refl, cell 4 refl, cell 5 refl, part_put, other 22 136 refl, other 158 128 refl, other 286 128 refl, other 414 128 refl)

  pub put_table : post_in (put_in l 22 136 i v) ≡ with_table (post_in l) (set (post_in l).table i v)
  unfolding post_in
  put_table =
      let cell = cell_apart l 22 136 i v in
      let other = part_apart l 22 136 i v in
      rw (cell 0 refl, cell 542 refl, cell 1 refl, cell 2 refl, cell 3 refl, cell 4 refl, cell 5 refl, other 6 8 refl, part_put, other 158 128 refl, other 286 128 refl, other 414 128 refl)

  pub put_stamps : post_in (put_in l 158 128 i v) ≡ with_orders (post_in l) (post_in l).last (set (post_in l).stamps i v) (post_in l).words
  unfolding post_in
  put_stamps =
      let cell = cell_apart l 158 128 i v in
      let other = part_apart l 158 128 i v in
      rw (cell 0 refl, cell 542 refl, cell 1 refl, cell 2 refl, cell 3 refl, cell 4 refl, cell 5 refl, other 6 8 refl, other 22 136 refl, part_put, other 286 128 refl, other 414 128 refl)

  pub put_words : post_in (put_in l 286 128 i v) ≡ with_orders (post_in l) (post_in l).last (post_in l).stamps (set (post_in l).words i v)
  unfolding post_in
  put_words =
      let cell = cell_apart l 286 128 i v in
      let other = part_apart l 286 128 i v in
      rw (cell 0 refl, cell 542 refl, cell 1 refl, cell 2 refl, cell 3 refl, cell 4 refl, cell 5 refl, other 6 8 refl, other 22 136 refl, other 158 128 refl, part_put, other 414 128 refl)

  pub put_log : post_in (put_in l 414 128 i v) ≡ with_log (post_in l) (set (post_in l).log i v) (post_in l).logged
  unfolding post_in
  put_log =
      let cell = cell_apart l 414 128 i v in
      let other = part_apart l 414 128 i v in
      rw (cell 0 refl, cell 542 refl, cell 1 refl, cell 2 refl, cell 3 refl, cell 4 refl, cell 5 refl, other 6 8 refl, other 22 136 refl, other 158 128 refl, other 286 128 refl, part_put)

-- ---- the parts of a step

pub tick_row : (l a b m : List ℕ) (lane place serial clock : ℕ) → lane ≡ (post_in l).lane → place ≡ entry_place lane serial → a ≡ set l 3 clock → b ≡ set a 4 serial
    → m ≡ put_in b 22 136 place clock → m ≡ ticked_row l serial clock
tick_row l a b m lane place serial clock q e ea eb em = rw (em, eb, ea, e, q)

pub tick_post : (l m : List ℕ) (serial clock : ℕ) → 543 ≤ length l → m ≡ ticked_row l serial clock → post_in m ≡ ticked (post_in l) serial clock
unfolding ticked with_stamp
tick_post l m serial clock h e =
    let a : List ℕ = set l 3 clock in
    let ha : 543 ≤ length a = rw length-set h in
    rw (e, put_table (set a 4 serial) (entry_place (post_in l).lane serial) clock, put_serial a serial ha, put_clock l clock h)

-- what is known stays where another part is written, and what is past the record where the record is
pub same_known : (l m : List ℕ) (a n i v : ℕ) → apart a n 14 8 ≡ true → m ≡ put_in l a n i v → known_in m ≡ known_in l
unfolding known_in
same_known l m a n i v h e = rw e (part_apart l a n i v 14 8 h)

pub same_known_cell : (l m : List ℕ) (k v : ℕ) → apart k 1 14 8 ≡ true → k ≡ k + 0 → m ≡ set l k v → known_in m ≡ known_in l
unfolding known_in put_in
same_known_cell l m k v h z e = rw (e, z) (part_apart l k 1 0 v 14 8 h)

pub same_past_cell : (l m : List ℕ) (k v : ℕ) → k < 543 → m ≡ set l k v → past_in m ≡ past_in l
unfolding past_in
same_past_cell l m k v h e = rw (e, drop-set-lt)

pub same_past : (l m : List ℕ) (a n i v : ℕ) → a + n ≤ 543 → m ≡ put_in l a n i v → past_in m ≡ past_in l
unfolding put_in
same_past l m a n i v h e = go (ltb i n) refl
  where
    go : (t : Bool) → ltb i n ≡ t → past_in m ≡ past_in l
    go true q = same_past_cell l m (a + i) v (omega (arith, ltb-true i n q)) (rw q at e)
    go false q = rw (e, q)

pub log_put : (l m : List ℕ) (i v : ℕ) → m ≡ put_in l 414 128 i v
    → (post_in m ≡ with_log (post_in l) (set (post_in l).log i v) (post_in l).logged) × ((known_in m ≡ known_in l) × (past_in m ≡ past_in l))
log_put l m i v e = (rw e (put_log l i v), (same_known l m 414 128 i v refl e, same_past l m 414 128 i v (omega arith) e))

pub keep_is : (l a b m : List ℕ) (place lane serial stamp word : ℕ) → place ≡ order_place lane serial → a ≡ put_in l 6 8 lane serial
    → b ≡ put_in a 158 128 place stamp → m ≡ put_in b 286 128 place word
    → (post_in m ≡ kept (post_in l) lane serial stamp word) × ((known_in m ≡ known_in l) × (past_in m ≡ past_in l))
unfolding kept
keep_is l a b m place lane serial stamp word q ea eb em = (
  rw (em, put_words b place word, eb, put_stamps a place stamp, ea, put_last l lane serial, q),
  (
    same_known b m 286 128 place word refl em ∙ same_known a b 158 128 place stamp refl eb ∙ same_known l a 6 8 lane serial refl ea,
    same_past b m 286 128 place word (omega arith) em ∙ same_past a b 158 128 place stamp (omega arith) eb ∙ same_past l a 6 8 lane serial (omega arith) ea,
  ),
)

pub tick_known : (l m : List ℕ) (serial clock : ℕ) → m ≡ ticked_row l serial clock → known_in m ≡ known_in l
tick_known l m serial clock e =
    same_known (set (set l 3 clock) 4 serial) m 22 136 (entry_place (post_in l).lane serial) clock refl e
    ∙ same_known_cell (set l 3 clock) (set (set l 3 clock) 4 serial) 4 serial refl refl refl
    ∙ same_known_cell l (set l 3 clock) 3 clock refl refl refl

pub tick_past : (l m : List ℕ) (serial clock : ℕ) → m ≡ ticked_row l serial clock → past_in m ≡ past_in l
tick_past l m serial clock e =
    same_past (set (set l 3 clock) 4 serial) m 22 136 (entry_place (post_in l).lane serial) clock (omega arith) e
    ∙ same_past_cell (set l 3 clock) (set (set l 3 clock) 4 serial) 4 serial (omega arith) refl
    ∙ same_past_cell l (set l 3 clock) 3 clock (omega arith) refl

pub logged_put : (l m : List ℕ) (v : ℕ) → 543 ≤ length l → m ≡ set l 5 v
    → (post_in m ≡ with_log (post_in l) (post_in l).log v) × (known_in m ≡ known_in l) × (past_in m ≡ past_in l)
logged_put l m v h e = (rw e (put_logged l v h), same_known_cell l m 5 v refl refl e, same_past_cell l m 5 v (omega arith) e)
