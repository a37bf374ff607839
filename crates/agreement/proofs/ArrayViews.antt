-- The arrays of a post read as functions: one number changed, the table raised, zeros. Assumes nothing.
use mathlib.Core.Path.{◌≡◌, refl, sym, ap, ◌∙◌, fun_ext}
use mathlib.Core.Logic.{◌⊎◌, inl, inr, ◌≢◌}
use mathlib.Core.Bool.{Bool, true, false, cond}
use mathlib.Core.List.{List}
use Prim.Native.Nat.{ℕ, ◌+◌, ◌*◌, ◌<◌, ◌≤◌, max}
use native.Mathlib.Omega.{arith}
use lib.Dec.{eqb}
use lib.ListN.{length, get_or, set, replicate, length-set, get_or-eq_default}
use lib.Seq.{get_or-set_same, get_or-set_other}
use borrow.Author.Tests.{eq-eqb, ne_eqb}
use Rattle.frame.specs.Layout.{no_entry}
use Rattle.frame.specs.declared.Entry.{Entry}
use Rattle.cells.specs.Tables.{entry_place, stamp_under, with_stamp, order_place}
use Rattle.cells.proofs.Places.{entry_read, entry_unread, order_inside, order_places, order_unread}
use Rattle.post.specs.Newest.{raised_below}
use Rattle.laws.proofs.TestLaws.{same_or_not, below_or_not}
use Rattle.laws.proofs.TableLaws.{stamp_same, stamp_apart, raised_to, all_raised, all_raised_length}
use Rattle.laws.proofs.ValidFresh.{zeros}
use Rattle.model.proofs.Functions.{upd, upd2, upd_case, upd2_case}
use Rattle.model.proofs.Model.{raise}
use Rattle.agreement.proofs.Views.{places_view}

-- ---- a number for each lane: last serials taken, beacons sent

-- that of one lane is changed
pub lanes_set : (l : List ℕ) (i v : ℕ) → length l ≡ 8 → i < 8 → (λ (j : ℕ). get_or (set l i v) j 0) ≡ upd (λ (j : ℕ). get_or l j 0) i v
lanes_set l i v e h =
    fun_ext (λ j. upd_case (λ (x : ℕ). get_or (set l i v) j 0 ≡ x) (λ (j : ℕ). get_or l j 0) i v j
    (λ q. rw q (get_or-set_same l i v 0 (omega arith)))
    (λ q. get_or-set_other l i j v 0 q))

-- ---- the table

-- past the lanes it is 0
pub table_past : (t : List ℕ) (i n : ℕ) → length t ≡ 136 → 8 ≤ i → stamp_under t i n ≡ 0
table_past t i n e h = go (below_or_not n 17)
  where
    go : (n < 17) ⊎ (17 ≤ n) → stamp_under t i n ≡ 0
    go (inl l) = entry_read t i n (omega arith) ∙ get_or-eq_default t 0 {n = i * 17 + n} (omega arith)
    go (inr l) = entry_unread t i n e (omega arith)

-- one entry is changed
pub table_set : (t : List ℕ) (i n v : ℕ) → length t ≡ 136 → i < 8 → n < 17 → stamp_under (with_stamp t i n v) ≡ upd2 (stamp_under t) i n v
table_set t i n v e h k =
    fun_ext (λ j. fun_ext (λ m.
    upd2_case (λ (x : ℕ). stamp_under (with_stamp t i n v) j m ≡ x) (stamp_under t) i n v j m
    (λ a b. rw (a, b) (stamp_same t i n v e h k))
    (λ d. stamp_apart t i n v j m e d)))

-- the two ways to say that an entry raises one stamp of its lane
raise_is : (t : ℕ → ℕ → ℕ) (e s : ℕ → ℕ) (i n old : ℕ) (x : Entry) → t i n ≡ old → e i ≡ x.serial.0 → s i ≡ x.stamp.0
    → raise t e s i n ≡ raised_to old x n
unfolding raise
raise_is t e s i n old x a b c = rw (a, b, c) (go (same_or_not n x.serial.0))
  where
    go : (n ≡ x.serial.0) ⊎ (n ≢ x.serial.0)
        → cond (eqb n x.serial.0) (max old x.stamp.0) old ≡ cond (eqb x.serial.0 n) (max old x.stamp.0) old
    go (inl q) = rw (eq-eqb n x.serial.0 q, eq-eqb x.serial.0 n (sym q))
    go (inr q) = rw (ne_eqb n x.serial.0 q, ne_eqb x.serial.0 n (λ z. q (sym z)))

-- at another serial than the entry's nothing is raised
raise_not : (t : ℕ → ℕ → ℕ) (e s : ℕ → ℕ) (i n : ℕ) → n ≢ e i → raise t e s i n ≡ t i n
unfolding raise
raise_not t e s i n h = rw (ne_eqb n (e i) h)

-- an entry without stamp raises nothing
raise_none : (t : ℕ → ℕ → ℕ) (e s : ℕ → ℕ) (i n : ℕ) → s i ≡ 0 → raise t e s i n ≡ t i n
unfolding raise
raise_none t e s i n h = go (eqb n (e i))
  where
    go : (b : Bool) → cond b (max (t i n) (s i)) (t i n) ≡ t i n
    go true = omega arith
    go false = refl

-- the serials and the stamps of a frame's entries
abbrev pub serials_of : List Entry → ℕ → ℕ
serials_of entries i = (get_or entries i no_entry).serial.0

abbrev pub stamps_of : List Entry → ℕ → ℕ
stamps_of entries i = (get_or entries i no_entry).stamp.0

-- the table is raised by a frame's eight entries
pub table_raised : (t : List ℕ) (entries : List Entry) → length t ≡ 136 → length entries ≡ 8
    → ((i : ℕ) → i < 8 → (get_or entries i no_entry).serial.0 ≤ 16)
    → stamp_under (raised_below t entries 8) ≡ raise (stamp_under t) (serials_of entries) (stamps_of entries)
table_raised t entries e c h = fun_ext (λ i. fun_ext (λ n. go i n (below_or_not i 8) (below_or_not n 17)))
  where
    long : length (raised_below t entries 8) ≡ 136
    long = all_raised_length t entries 8 ∙ e

    none : (i : ℕ) → 8 ≤ i → stamps_of entries i ≡ 0
    none i l = ap (λ (x : Entry). x.stamp.0) (get_or-eq_default entries no_entry {n = i} (omega arith))

    go : (i n : ℕ) → (i < 8) ⊎ (8 ≤ i) → (n < 17) ⊎ (17 ≤ n)
        → stamp_under (raised_below t entries 8) i n ≡ raise (stamp_under t) (serials_of entries) (stamps_of entries) i n
    go i n (inl a) (inl b) =
        all_raised t entries i n e a b
        ∙ sym (raise_is (stamp_under t) (serials_of entries) (stamps_of entries) i n (stamp_under t i n) (get_or entries i no_entry) refl refl refl)
    go i n (inl a) (inr b) =
        entry_unread (raised_below t entries 8) i n long (omega arith)
        ∙ sym (entry_unread t i n e (omega arith))
        ∙ sym (raise_not (stamp_under t) (serials_of entries) (stamps_of entries) i n (λ q. omega (arith, h i a)))
    go i n (inr a) b =
        table_past (raised_below t entries 8) i n long a
        ∙ sym (table_past t i n e a)
        ∙ sym (raise_none (stamp_under t) (serials_of entries) (stamps_of entries) i n (none i a))

-- ---- the orders taken

-- a serial is one of 1 to 16, or not
kept_or_not : (n : ℕ) → ((0 < n) × (n ≤ 16)) ⊎ (0 < n → 16 < n)
kept_or_not n = go (below_or_not 0 n) (below_or_not n 17)
  where
    go : (0 < n) ⊎ (n ≤ 0) → (n < 17) ⊎ (17 ≤ n) → ((0 < n) × (n ≤ 16)) ⊎ (0 < n → 16 < n)
    go (inl a) (inl b) = inl (a, omega arith)
    go (inl a) (inr b) = inr (λ h. omega arith)
    go (inr a) b = inr (λ h. absurd (omega arith))

-- one order is kept
pub places_set : (l : List ℕ) (i n v : ℕ) → length l ≡ 128 → i < 8 → 0 < n → n < 17
    → places_view (set l (order_place i n) v) ≡ upd2 (places_view l) i n v
places_set l i n v e h a b =
    fun_ext (λ j. fun_ext (λ m.
    upd2_case (λ (x : ℕ). places_view (set l (order_place i n) v) j m ≡ x) (places_view l) i n v j m
    (λ p q. rw (p, q) (get_or-set_same l (order_place i n) v 0 (rw e (order_inside i n h a (omega arith)))))
    (λ d. other j m d (kept_or_not m))))
  where
    other : (j m : ℕ) → (j ≡ i → m ≢ n) → ((0 < m) × (m ≤ 16)) ⊎ (0 < m → 16 < m)
        → places_view (set l (order_place i n) v) j m ≡ places_view l j m
    other j m d (inl k) =
        get_or-set_other l (order_place i n) (order_place j m) v 0
        (λ q. let r = order_places j m i n k.0 k.1 a (omega arith) q in d r.0 r.1)
    other j m d (inr k) =
        order_unread (set l (order_place i n) v) j m (length-set l (order_place i n) v ∙ e) k ∙ sym (order_unread l j m e k)

-- ---- nothing yet

-- a table with 0 everywhere
pub table_zero : (t : List ℕ) → ((j : ℕ) → get_or t j 0 ≡ 0) → stamp_under t ≡ (λ (i n : ℕ). 0)
unfolding stamp_under
table_zero t h = fun_ext (λ i. fun_ext (λ n. h (entry_place i n)))

-- orders with 0 everywhere
pub places_zero : (l : List ℕ) → ((j : ℕ) → get_or l j 0 ≡ 0) → places_view l ≡ (λ (i n : ℕ). 0)
places_zero l h = fun_ext (λ i. fun_ext (λ n. h (order_place i n)))

-- zeros of any length: as a number for each lane
pub lanes_zeros : (n : ℕ) → ◌≡◌ {A = ℕ → ℕ} (λ j. get_or (replicate n 0) j 0) (λ j. 0)
lanes_zeros n = fun_ext (λ j. zeros n j)

-- as a table
pub table_zeros : (n : ℕ) → stamp_under (replicate n 0) ≡ (λ (i m : ℕ). 0)
table_zeros n = table_zero (replicate n 0) (zeros n)

-- as orders taken
pub places_zeros : (n : ℕ) → places_view (replicate n 0) ≡ (λ (i m : ℕ). 0)
places_zeros n = places_zero (replicate n 0) (zeros n)
