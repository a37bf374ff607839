-- Delivery: which orders are due, in which order they join the log, and the log that results. Assumes nothing.
use mathlib.Core.Path.{◌≡◌, refl, sym, ap, ◌∙◌}
use mathlib.Core.List.{List, ◌∷◌, ◌++◌}
use mathlib.Core.Logic.{◌⊎◌, inl, inr, ◌≢◌}
use mathlib.Core.Bool.{Bool, true, false, cond, not, ◌&&◌, ◌||◌}
use Prim.Native.Nat.{ℕ, zero, suc, ◌+◌, ◌<◌, ◌≤◌, min}
use native.Mathlib.Omega.{arith}
use lib.Dec.{leb, eqb}
use lib.ListN.{length, get_or, take, drop, length-append}
use lib.Seq.{sets, sets-eq, length-take-le, take_at, get_or-take, length-sets}
use borrow.Author.Tests.{leb-true, le-leb, eqb-true, eq-eqb, not-true}
use Rattle.cells.specs.Tables.{stamp_under}
use Rattle.post.specs.declared.Post.{Post}
use Rattle.post.specs.Record.{is_source, is_dest, last_of}
use Rattle.deliver.specs.Delivery.{all_below, is_taken, is_logged, stamp_at, agrees, is_due, due_below, comes_before, due_places, due_log, delivered}
use Rattle.deliver.specs.Keys.{key_at}
use Rattle.deliver.proofs.Keys.{before_key}
pub use Rattle.laws.specs.LogAfter.{log_of}
use Rattle.laws.proofs.TestLaws.{same_or_not, not_both, and_parts, and_made, or_second, some_which, which_some, all_each, each_all}
use Rattle.laws.proofs.ListLaws.{Mem, NoRepeat, RisingBy, mem_at, mem_which, rising_once, sets_past}
use Rattle.laws.proofs.SortLaws.{sort_mem, mem_sort, ApartBy, sort_rises}

-- ---- the log by index

-- what is marked as logged stands in the log
pub logged_mem : (p : Post) (place : ℕ) → p.logged ≤ 128 → length p.log ≡ 128 → is_logged p place ≡ true → Mem place (log_of p)
unfolding is_logged
logged_mem p place l h e =
    let r = some_which (λ (k : ℕ). eqb (get_or p.log k 0) place) (min p.logged 128) e in
    let k : ℕ = r.0 in
    let b : k < p.logged = omega (arith, r.1) in
    let at : get_or (take p.logged p.log) k 0 ≡ place = get_or-take p.logged p.log k 0 b ∙ eqb-true (get_or p.log k 0) place r.2 in
    rw at at (mem_at 0 (log_of p) k (rw (length-take-le p.logged p.log (omega arith)) b))

-- what stands in the log is marked as logged
pub mem_logged : (p : Post) (place : ℕ) → p.logged ≤ 128 → length p.log ≡ 128 → Mem place (log_of p) → is_logged p place ≡ true
unfolding is_logged
mem_logged p place l h m =
    let r = mem_which 0 place (log_of p) m in
    let b : r.0 < p.logged = omega (arith, r.1, length-take-le p.logged p.log (omega arith)) in
    which_some (λ (k : ℕ). eqb (get_or p.log k 0) place) (min p.logged 128) r.0 (omega arith)
    (eq-eqb (get_or p.log r.0 0) place (sym (get_or-take p.logged p.log r.0 0 b) ∙ r.2))

-- ---- which orders are due

-- "An order taken and not yet delivered is ready when, for every source i, the table entry (i, last taken from i) is at least the order's stamp."
pub record Due (p : Post) (place : ℕ) : Type 0 where
  pub taken : is_taken p place ≡ true
  pub unlogged : is_logged p place ≡ false
  pub agreed : (i : ℕ) → i < 8 → is_source p i ≡ true → stamp_at p place ≤ stamp_under p.table i (last_of p i)

-- the test says just that
pub is_due_lem : (p : Post) (place : ℕ) → is_due p place ≡ true → Due p place
unfolding is_due
is_due_lem p place e =
    let a = and_parts (is_taken p place && not (is_logged p place)) (all_below (agrees p (stamp_at p place)) 8) e in
    let b = and_parts (is_taken p place) (not (is_logged p place)) a.0 in
    record {
      taken = b.0;
      unlogged = not-true (is_logged p place) b.1;
      agreed = λ i l s.
          leb-true (stamp_at p place) (stamp_under p.table i (last_of p i))
          (or_second (not (is_source p i)) (leb (stamp_at p place) (stamp_under p.table i (last_of p i)))
          (all_each (agrees p (stamp_at p place)) 8 a.1 i l) (ap not s));
    }

-- a test of sources alone holds where each source passes it
agrees_made : (source ready : Bool) → (source ≡ true → ready ≡ true) → (not source || ready) ≡ true
agrees_made true ready h = h refl
agrees_made false ready h = refl

-- and the other way round
pub due_is : (p : Post) (place : ℕ) → Due p place → is_due p place ≡ true
unfolding is_due
due_is p place d =
    and_made (is_taken p place && not (is_logged p place)) (all_below (agrees p (stamp_at p place)) 8)
    (and_made (is_taken p place) (not (is_logged p place)) d.taken (ap not d.unlogged))
    (each_all (agrees p (stamp_at p place)) 8
    (λ i l. agrees_made (is_source p i) (leb (stamp_at p place) (stamp_under p.table i (last_of p i)))
    (λ s. le-leb (stamp_at p place) (stamp_under p.table i (last_of p i)) (d.agreed i l s))))

-- ---- the places of the due orders

-- they are due
due_below_lem : (p : Post) (n place : ℕ) → Mem place (due_below p n) → (place < n) × (is_due p place ≡ true)
unfolding due_below
due_below_lem p zero place m = absurd m
due_below_lem p (suc n) place m = go (is_due p n) refl m (due_below_lem p n place)
  where
    up : (place < n) × (is_due p place ≡ true) → (place < suc n) × (is_due p place ≡ true)
    up r = (omega (arith, r.0), r.1)

    go : (b : Bool) → is_due p n ≡ b → Mem place (cond b (n ∷ due_below p n) (due_below p n))
        → (Mem place (due_below p n) → (place < n) × (is_due p place ≡ true)) → (place < suc n) × (is_due p place ≡ true)
    go true e (inl k) ih = (omega arith, rw k e)
    go true e (inr k) ih = up (ih k)
    go false e k ih = up (ih k)

-- and all that are due
below_due : (p : Post) (n place : ℕ) → place < n → is_due p place ≡ true → Mem place (due_below p n)
unfolding due_below
below_due p zero place h d = absurd (omega arith)
below_due p (suc n) place h d = go (is_due p n) refl (same_or_not place n) (λ l. below_due p n place l d)
  where
    go : (b : Bool) → is_due p n ≡ b → (place ≡ n) ⊎ (place ≢ n) → (place < n → Mem place (due_below p n))
        → Mem place (cond b (n ∷ due_below p n) (due_below p n))
    go true e (inl q) ih = inl q
    go true e (inr q) ih = inr (ih (omega arith))
    go false e (inl q) ih = absurd (not_both (is_due p n) (rw q at d) e)
    go false e (inr q) ih = ih (omega arith)

-- their keys differ
due_apart : (p : Post) (n : ℕ) → n ≤ 128 → ApartBy (key_at p) (due_below p n)
unfolding due_below
due_apart p zero h = tt
due_apart p (suc n) h = go (is_due p n) (due_apart p n (omega arith))
  where
    go : (b : Bool) → ApartBy (key_at p) (due_below p n) → ApartBy (key_at p) (cond b (n ∷ due_below p n) (due_below p n))
    go true ih = (λ y m e. omega (arith, (due_below_lem p n y m).0), ih)
    go false ih = ih

-- in the order of delivery each is due
pub places_due : (p : Post) (place : ℕ) → Mem place (due_places p) → (place < 128) × (is_due p place ≡ true)
unfolding due_places
places_due p place m = due_below_lem p 128 place (sort_mem (comes_before p) place (due_below p 128) m)

-- each that is due is one of them
pub due_places_lem : (p : Post) (place : ℕ) → place < 128 → is_due p place ≡ true → Mem place (due_places p)
unfolding due_places
due_places_lem p place h d = mem_sort (comes_before p) place (due_below p 128) (below_due p 128 place h d)

-- "lowest stamp first, equal stamps by lower lane": their keys rise strictly
pub places_rise : (p : Post) → RisingBy (key_at p) (due_places p)
unfolding due_places
places_rise p =
    sort_rises (comes_before p) (key_at p) (due_below p 128)
    (λ x y m n. before_key p x y (due_below_lem p 128 x m).0 (due_below_lem p 128 y n).0)
    (due_apart p 128 (omega arith))

-- none stands twice
pub places_once : (p : Post) → NoRepeat (due_places p)
places_once p = rising_once (key_at p) (due_places p) (places_rise p)

-- ---- the log after delivery

-- what is written from place i on follows the first i
sets_follow : (l vs : List ℕ) (i : ℕ) → i + length vs ≤ length l → take (i + length vs) (sets l i vs) ≡ take i l ++ vs
sets_follow l vs i h =
    rw (sets-eq vs l i h)
    (take_at (take i l ++ vs) (drop (i + length vs) l) (i + length vs)
    (length-append (take i l) vs ∙ ap (λ (k : ℕ). k + length vs) (length-take-le i l (omega arith))))

-- what delivery at a destination leaves
pub record Joined (p q : Post) : Type 0 where
  pub logged : q.logged ≡ p.logged + length (due_places p)
  pub log : log_of q ≡ log_of p ++ due_places p
  pub past : (k : ℕ) → q.logged ≤ k → get_or q.log k 0 ≡ get_or p.log k 0
  pub long : length q.log ≡ length p.log

-- the log after delivery at a destination is the old log, and then the due orders, lowest key first; past the end it is as before
pub delivered_joins : (p : Post) → is_dest p p.lane ≡ true → length p.log ≡ 128 → p.logged + length (due_places p) ≤ 128
    → Joined p (delivered p).post
unfolding delivered due_log
delivered_joins p d l h =
    let e : min (p.logged + length (due_places p)) 128 ≡ p.logged + length (due_places p) = omega arith in
    rw d (record {
      logged = e;
      log = rw e (sets_follow p.log (due_places p) p.logged (omega arith));
      past = λ k b. sets_past p.log (due_places p) p.logged k (omega arith);
      long = length-sets p.log p.logged (due_places p);
    })

-- elsewhere the post stays
pub delivered_stays : (p : Post) → is_dest p p.lane ≡ false → (delivered p).post ≡ p
unfolding delivered
delivered_stays p d = rw d
