-- The log of a valid record: taken orders, none twice, room for all that is due; and delivery keeps the record valid. Assumes nothing.
use mathlib.Core.Path.{◌≡◌, refl, sym, ap, ◌∙◌}
use mathlib.Core.List.{List, [], ◌∷◌, ◌++◌, append-nil}
use mathlib.Core.Logic.{◌⊎◌, inl, inr, ◌≢◌}
use mathlib.Core.Bool.{true, false}
use Prim.Native.Nat.{ℕ, zero, suc, ◌+◌, ◌<◌, ◌≤◌}
use native.Mathlib.Omega.{arith}
use lib.ListN.{length, get_or, take, length-append}
use lib.Seq.{length-take-le, get_or-take}
use Rattle.post.specs.declared.Post.{Post}
use Rattle.post.specs.Record.{is_dest, with_log}
use Rattle.deliver.specs.Delivery.{is_taken, is_logged, due_places, due_log, delivered}
use Rattle.judge.specs.Judgement.{logged_at}
pub use Rattle.laws.specs.LogAfter.{joining}
use Rattle.laws.proofs.TestLaws.{same_or_not, true_or_false, not_both}
use Rattle.laws.proofs.ListLaws.{Mem, NoRepeat, mem_append, mem_at, mem_which, no_repeat_append, no_repeat_at, at_no_repeat, no_longer}
use Rattle.laws.proofs.LogLaws.{log_of, mem_logged, is_due_lem, places_due, places_once, Joined, delivered_joins, delivered_stays}
use Rattle.laws.proofs.Valid.{Shaped, Valid}

-- ---- the log as a list

-- it has as many places as are logged
pub log_length : (p : Post) → Shaped p → Valid p → length (log_of p) ≡ p.logged
log_length p s v = length-take-le p.logged p.log (omega (arith, s.log, v.logged))

-- its k-th place
pub log_at_lem : (p : Post) (k : ℕ) → k < p.logged → get_or (log_of p) k 0 ≡ logged_at p k
log_at_lem p k h = get_or-take p.logged p.log k 0 h

-- no order stands in it twice
pub log_once : (p : Post) → Shaped p → Valid p → NoRepeat (log_of p)
log_once p s v = at_no_repeat 0 (log_of p) differ
  where
    differ : (j k : ℕ) → j < k → k < length (log_of p) → get_or (log_of p) j 0 ≢ get_or (log_of p) k 0
    differ j k h b e =
        let c : k < p.logged = omega (arith, log_length p s v) in
        v.once j k h c (sym (log_at_lem p j (omega arith)) ∙ e ∙ log_at_lem p k c)

-- every order in it is taken
pub log_taken_lem : (p : Post) → Shaped p → Valid p → (place : ℕ) → Mem place (log_of p) → (place < 128) × (is_taken p place ≡ true)
log_taken_lem p s v place m =
    let r = mem_which 0 place (log_of p) m in
    let b : r.0 < p.logged = omega (arith, r.1, log_length p s v) in
    let e : logged_at p r.0 ≡ place = sym (log_at_lem p r.0 b) ∙ r.2 in
    (rw e at (v.places r.0 b), rw e at (v.taken r.0 b))

-- ---- room for what is due

-- the numbers below n
numbers_below : ℕ → List ℕ
numbers_below zero = []
numbers_below (suc n) = n ∷ numbers_below n

-- there are n of them
numbers_count : (n : ℕ) → length (numbers_below n) ≡ n
unfolding numbers_below
numbers_count zero = refl
numbers_count (suc n) = ap suc (numbers_count n)

-- each of them is there
numbers_mem : (n x : ℕ) → x < n → Mem x (numbers_below n)
unfolding numbers_below
numbers_mem zero x h = absurd (omega arith)
numbers_mem (suc n) x h = go (same_or_not x n) (numbers_mem n x)
  where
    go : (x ≡ n) ⊎ (x ≢ n) → (x < n → Mem x (numbers_below n)) → Mem x (n ∷ numbers_below n)
    go (inl e) ih = inl e
    go (inr e) ih = inr (ih (omega arith))

-- at most n numbers below n, where none stands twice
pub few_below : (l : List ℕ) (n : ℕ) → NoRepeat l → ((x : ℕ) → Mem x l → x < n) → length l ≤ n
few_below l n once h = rw (numbers_count n) at (no_longer l (numbers_below n) once (λ x m. numbers_mem n x (h x m)))

-- the log and what is due have no order in common, and none twice
pub joined_once : (p : Post) → Shaped p → Valid p → NoRepeat (log_of p ++ due_places p)
joined_once p s v =
    no_repeat_append (log_of p) (due_places p) (log_once p s v) (places_once p)
    (λ place m n.
    not_both (is_logged p place) (mem_logged p place v.logged s.log m) (is_due_lem p place (places_due p place n).1).unlogged)

-- each order of the log, and each that is due, is taken
joined_taken : (p : Post) → Shaped p → Valid p → (place : ℕ) → Mem place (log_of p ++ due_places p) → (place < 128) × (is_taken p place ≡ true)
joined_taken p s v place m = go (mem_append place (log_of p) (due_places p) m)
  where
    go : Mem place (log_of p) ⊎ Mem place (due_places p) → (place < 128) × (is_taken p place ≡ true)
    go (inl a) = log_taken_lem p s v place a
    go (inr a) = let r = places_due p place a in (r.0, (is_due_lem p place r.1).taken)

-- in a valid record there is room in the log for all that is due
pub log_room : (p : Post) → Shaped p → Valid p → p.logged + length (due_places p) ≤ 128
log_room p s v =
    omega (
      arith,
      few_below (log_of p ++ due_places p) 128 (joined_once p s v) (λ place m. (joined_taken p s v place m).0),
      length-append (log_of p) (due_places p),
      log_length p s v,
    )

-- ---- another log

-- a record with another log of 128 places is one of its type
pub log_shaped : (p : Post) (log : List ℕ) (logged : ℕ) → length log ≡ 128 → Shaped p → Shaped (with_log p log logged)
log_shaped p log logged l s = record {
  last = s.last;
  table = s.table;
  stamps = s.stamps;
  words = s.words;
  log = l;
  table_values = s.table_values;
  stamp_values = s.stamp_values;
  word_values = s.word_values;
  clock = s.clock;
  posts = s.posts;
  sources = s.sources;
  dests = s.dests;
}

-- a valid record with another log of taken orders, none twice, and zeros past its end, is valid
pub log_valid : (p : Post) (log : List ℕ) (logged : ℕ) → logged ≤ 128 → length log ≡ 128 → NoRepeat (take logged log)
    → ((place : ℕ) → Mem place (take logged log) → (place < 128) × (is_taken p place ≡ true))
    → ((k : ℕ) → logged ≤ k → k < 128 → get_or log k 0 ≡ 0) → Valid p
    → Valid (with_log p log logged)
log_valid p log logged b l once all rest v = record {
  lane = v.lane;
  serial = v.serial;
  logged = b;
  last = v.last;
  sources = v.sources;
  dests = v.dests;
  own = v.own;
  present = v.present;
  beyond = v.beyond;
  once = λ j k h c e.
      no_repeat_at 0 (take logged log) once j k h (rw long c)
      (get_or-take logged log j 0 (omega arith) ∙ e ∙ sym (get_or-take logged log k 0 c));
  places = λ k c. rw (get_or-take logged log k 0 c) at (all (get_or (take logged log) k 0) (mem_at 0 (take logged log) k (rw long c))).0;
  taken = λ k c. rw (get_or-take logged log k 0 c) at (all (get_or (take logged log) k 0) (mem_at 0 (take logged log) k (rw long c))).1;
  rest = rest;
}
  where
    long : length (take logged log) ≡ logged
    long = length-take-le logged log (omega arith)

-- ---- delivery

-- delivery changes the log alone
pub delivered_log_only : (p : Post) → (delivered p).post ≡ with_log p (delivered p).post.log (delivered p).post.logged
unfolding delivered
delivered_log_only p = go (true_or_false (is_dest p p.lane))
  where
    go : (is_dest p p.lane ≡ true) ⊎ (is_dest p p.lane ≡ false)
        → (delivered p).post ≡ with_log p (delivered p).post.log (delivered p).post.logged
    go (inl d) = rw d
    go (inr d) = rw d

-- the count delivered is how many join
pub delivered_count : (p : Post) → (delivered p).count ≡ length (joining p)
unfolding delivered due_log
delivered_count p = go (true_or_false (is_dest p p.lane))
  where
    go : (is_dest p p.lane ≡ true) ⊎ (is_dest p p.lane ≡ false) → (delivered p).count ≡ length (joining p)
    go (inl d) = rw d
    go (inr d) = rw d

-- the log after delivery is the log before it, and then what joins
pub delivered_log : (p : Post) → Shaped p → Valid p → log_of (delivered p).post ≡ log_of p ++ joining p
delivered_log p s v = go (true_or_false (is_dest p p.lane))
  where
    go : (is_dest p p.lane ≡ true) ⊎ (is_dest p p.lane ≡ false) → log_of (delivered p).post ≡ log_of p ++ joining p
    go (inl d) = rw d (delivered_joins p d s.log (log_room p s v)).log
    go (inr d) = rw (delivered_stays p d, d) (sym (append-nil (log_of p)))

-- "A post's record" stays one of its type, and valid
pub delivered_shaped : (p : Post) → Shaped p → Valid p → Shaped (delivered p).post
delivered_shaped p s v = go (true_or_false (is_dest p p.lane))
  where
    go : (is_dest p p.lane ≡ true) ⊎ (is_dest p p.lane ≡ false) → Shaped (delivered p).post
    go (inl d) =
        rw (delivered_log_only p)
        (log_shaped p (delivered p).post.log (delivered p).post.logged ((delivered_joins p d s.log (log_room p s v)).long ∙ s.log) s)
    go (inr d) = rw (delivered_stays p d) s

-- delivery keeps a valid record valid
pub delivered_valid : (p : Post) → Shaped p → Valid p → Valid (delivered p).post
delivered_valid p s v = go (true_or_false (is_dest p p.lane))
  where
    joins : is_dest p p.lane ≡ true → Joined p (delivered p).post
    joins d = delivered_joins p d s.log (log_room p s v)

    go : (is_dest p p.lane ≡ true) ⊎ (is_dest p p.lane ≡ false) → Valid (delivered p).post
    go (inl d) =
        let j = joins d in
        rw (delivered_log_only p)
        (log_valid p (delivered p).post.log (delivered p).post.logged
        (omega (arith, j.logged, log_room p s v))
        (j.long ∙ s.log)
        (rw j.log (joined_once p s v))
        (λ place m. joined_taken p s v place (rw j.log at m))
        (λ k a b. j.past k a ∙ v.rest k (omega (arith, j.logged)) b)
        v)
    go (inr d) = rw (delivered_stays p d) v
