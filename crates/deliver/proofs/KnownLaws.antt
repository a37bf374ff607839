-- Passing over orders known to be logged changes no delivery, and what is known stays so. Assumes nothing.
use mathlib.Core.Path.{◌≡◌, refl, sym, ap, ◌∙◌}
use mathlib.Core.List.{List, [], ◌∷◌}
use mathlib.Core.Bool.{Bool, true, false, cond, not, ◌&&◌, ◌||◌}
use Prim.Native.Nat.{ℕ, zero, suc, ◌+◌, ◌-◌, ◌*◌, ◌/◌, ◌%◌, ◌<◌, ◌≤◌, min}
use native.Mathlib.Omega.{arith}
use native.Mathlib.Decide.{ℕ_discrete, dec_lt, dec_le}
use lib.Dec.{ltb, eqb}
use lib.ListN.{length, get_or, set, replicate, get_or-replicate}
use lib.Seq.{sets, get_or-set_same, get_or-set_other, set_out}
use borrow.Author.Tests.{ltb-true, eqb-true, eq-eqb}
use Rattle.frame.specs.Lanes.{any_below}
use Rattle.post.specs.declared.Post.{Post}
use Rattle.post.specs.Record.{is_dest, with_log}
use Rattle.deliver.specs.Delivery.{NewLog}
use Rattle.deliver.specs.Delivery.{Delivered}
use Rattle.deliver.specs.Delivery.{all_below, agrees, is_taken, is_logged, is_due, stamp_at, due_below, due_places, due_log, delivered}
use Rattle.deliver.specs.Known.{Known, is_due_from, due_below_from, due_places_from, due_log_from, joined_from, advanced, known_below, known_after}

-- ---- a test at some number below n

both : (a : Bool) → a ≡ true → a ≡ false → ⊥
both a p q = let z : ◌≡◌ {A = ℕ} 0 1 = cc in omega arith

or_left : (a b : Bool) → a ≡ true → (a || b) ≡ true
or_left a b e = rw e

or_right : (a b : Bool) → b ≡ true → (a || b) ≡ true
or_right true b e = refl
or_right false b e = e

-- it holds at a number
pub some_at : (test : ℕ → Bool) (n : ℕ) → any_below test n ≡ true → (i : ℕ) × (i < n) × (test i ≡ true)
unfolding any_below
some_at test zero e = absurd (both false e refl)
some_at test (suc n) e = go (any_below test n) refl e (some_at test n)
  where
    go : (b : Bool) → any_below test n ≡ b → (b || test n) ≡ true → (any_below test n ≡ true → (i : ℕ) × (i < n) × (test i ≡ true))
        → (i : ℕ) × (i < suc n) × (test i ≡ true)
    go true p q ih = let r = ih p in (r.0, omega (arith, r.1), r.2)
    go false p q ih = (n, omega arith, q)

-- and the other way round
pub at_some : (test : ℕ → Bool) (n i : ℕ) → i < n → test i ≡ true → any_below test n ≡ true
unfolding any_below
at_some test zero i h e = absurd (omega arith)
at_some test (suc n) i h e = go (ℕ_discrete i n) (λ l. at_some test n i l e)
  where
    go : Dec (i ≡ n) → (i < n → any_below test n ≡ true) → (any_below test n || test n) ≡ true
    go (yes q) ih = or_right (any_below test n) (test n) (rw (← q) e)
    go (no q) ih = or_left (any_below test n) (test n) (ih (omega arith))

-- ---- what is known

-- nothing is
pub known_none : (p : Post) → Known (replicate 8 0) p
known_none p = record { logged = λ i k h l. absurd (omega (arith, get_or-replicate {A = ℕ} 8 i 0 0 h)) }

logged_same : (p q : Post) (place : ℕ) → q.log ≡ p.log → q.logged ≡ p.logged → is_logged q place ≡ is_logged p place
unfolding is_logged
logged_same p q place e l = rw (e, l)

-- it is a matter of the log alone
pub known_log : (known : List ℕ) (p q : Post) → q.log ≡ p.log → q.logged ≡ p.logged → Known known p → Known known q
known_log known p q e l h = record { logged = λ i k a b. logged_same p q (i * 16 + k) e l ∙ h.logged i k a b }

-- ---- a delivery

due_unlogged : (taken logged agreed : Bool) → logged ≡ true → (taken && not logged && agreed) ≡ false
due_unlogged true logged agreed e = rw e
due_unlogged false logged agreed e = refl

-- an order known to be logged is not due
due_from : (known : List ℕ) (p : Post) (place : ℕ) → place < 128 → Known known p → is_due_from known p place ≡ is_due p place
unfolding is_due_from is_due
due_from known p place h all = go (ltb (place % 16) (get_or known (place / 16) 0)) refl
  where
    due : Bool
    due = is_taken p place && not (is_logged p place) && all_below (agrees p (stamp_at p place)) 8

    and_yes : (a : Bool) → (a && true) ≡ a
    and_yes true = refl
    and_yes false = refl

    and_no : (a : Bool) → (a && false) ≡ false
    and_no true = refl
    and_no false = refl

    go : (b : Bool) → ltb (place % 16) (get_or known (place / 16) 0) ≡ b → (due && not b) ≡ due
    go true e =
        let l = all.logged (place / 16) (place % 16) (omega arith) (ltb-true (place % 16) (get_or known (place / 16) 0) e) in
        let m : place / 16 * 16 + place % 16 ≡ place = omega arith in
        and_no due ∙ sym (due_unlogged (is_taken p place) (is_logged p place) (all_below (agrees p (stamp_at p place)) 8) (rw m at l))
    go false e = and_yes due

below_from : (known : List ℕ) (p : Post) (n : ℕ) → n ≤ 128 → Known known p → due_below_from known p n ≡ due_below p n
unfolding due_below_from due_below
below_from known p zero h all = refl
below_from known p (suc n) h all = rw (due_from known p n (omega arith) all, below_from known p n (omega arith) all)

log_from : (known : List ℕ) (p : Post) → Known known p → due_log_from known p ≡ due_log p
unfolding due_log_from due_log due_places_from due_places
log_from known p all = rw (below_from known p 128 (omega arith) all)

pub joined_is : (known : List ℕ) (p : Post) → Known known p
    → ◌≡◌ {A = Delivered} (record { post = with_log p (joined_from known p).log (joined_from known p).logged; count = (joined_from known p).count }) (delivered p)
unfolding joined_from delivered
joined_is known p all = rw (log_from known p all) (go (is_dest p p.lane))
  where
    go : (b : Bool)
        → ◌≡◌ {A = Delivered} (record {
          post = with_log p (cond b (due_log p) (record { log = p.log; logged = p.logged; count = 0 })).log (cond b (due_log p) (record { log = p.log; logged = p.logged; count = 0 })).logged;
          count = (cond b (due_log p) (record { log = p.log; logged = p.logged; count = 0 })).count;
        }) (cond b (record { post = with_log p (due_log p).log (due_log p).logged; count = (due_log p).count }) (record { post = p; count = 0 }))
    go true = refl
    go false = refl

-- the post is that of a delivery that knows nothing
pub joined_post : (known : List ℕ) (p : Post) → Known known p → with_log p (joined_from known p).log (joined_from known p).logged ≡ (delivered p).post
joined_post known p all = ap (λ (d : Delivered). d.post) (joined_is known p all)

-- ---- what is known after it

-- what is written from place i on leaves the places below
sets_before : (l vs : List ℕ) (i k : ℕ) → k < i → get_or (sets l i vs) k 0 ≡ get_or l k 0
sets_before l [] i k h = refl
sets_before l (a ∷ vs) i k h = sets_before (set l i a) vs (suc i) k (omega arith) ∙ get_or-set_other l i k a 0 (λ e. absurd (omega arith))

-- a log that has grown has what it had
logged_stays : (p : Post) (vs : List ℕ) (logged place : ℕ) → min p.logged 128 ≤ min logged 128 → is_logged p place ≡ true
    → is_logged (with_log p (sets p.log p.logged vs) logged) place ≡ true
unfolding is_logged
logged_stays p vs logged place h e =
    let r = some_at (λ (k : ℕ). eqb (get_or p.log k 0) place) (min p.logged 128) e in
    let k : ℕ = r.0 in
    let s : get_or (sets p.log p.logged vs) k 0 ≡ get_or p.log k 0 = sets_before p.log vs p.logged k (omega (arith, r.1)) in
    at_some (λ (j : ℕ). eqb (get_or (sets p.log p.logged vs) j 0) place) (min logged 128) k (omega (arith, r.1)) (rw s r.2)

logged_at_lem : (p : Post) (k : ℕ) → k < min p.logged 128 → is_logged p (get_or p.log k 0) ≡ true
unfolding is_logged
logged_at_lem p k h =
    at_some (λ (j : ℕ). eqb (get_or p.log j 0) (get_or p.log k 0)) (min p.logged 128) k h (eq-eqb (get_or p.log k 0) (get_or p.log k 0) refl)

-- one logged order more
advanced_known : (known : List ℕ) (p : Post) (place : ℕ) → is_logged p place ≡ true → Known known p → Known (advanced known place) p
unfolding advanced
advanced_known known p place e all = go (eqb (get_or known (place / 16) 0) (place % 16)) refl
  where
    more : List ℕ
    more = set known (place / 16) (place % 16 + 1)

    there : get_or known (place / 16) 0 ≡ place % 16 → place / 16 < length known → (i k : ℕ) → i < 8 → k < get_or more i 0
        → Dec (i ≡ place / 16) → Dec (k ≡ place % 16) → is_logged p (i * 16 + k) ≡ true
    there q l i k a b (yes s) (yes t) = let m : i * 16 + k ≡ place = omega arith in rw m e
    there q l i k a b (yes s) (no t) =
        let g : get_or more i 0 ≡ place % 16 + 1 = rw s (get_or-set_same known (place / 16) (place % 16 + 1) 0 l) in
        let h : get_or known i 0 ≡ place % 16 = rw s q in
        all.logged i k a (omega arith)
    there q l i k a b (no s) t = all.logged i k a (rw (get_or-set_other known (place / 16) i (place % 16 + 1) 0 s) at b)

    next : get_or known (place / 16) 0 ≡ place % 16 → Dec (place / 16 < length known) → Known more p
    next q (no l) = rw (set_out known (place / 16) (place % 16 + 1) (omega arith)) all
    next q (yes l) = record { logged = λ i k a b. there q l i k a b (ℕ_discrete i (place / 16)) (ℕ_discrete k (place % 16)) }

    go : (b : Bool) → eqb (get_or known (place / 16) 0) (place % 16) ≡ b → Known (cond b more known) p
    go true q = next (eqb-true (get_or known (place / 16) 0) (place % 16) q) (dec_lt (place / 16) (length known))
    go false q = all

-- n logged orders more
pub below_known : (known : List ℕ) (p : Post) (from n : ℕ) → from + n ≤ min p.logged 128 → Known known p → Known (known_below known p.log from n) p
unfolding known_below
below_known known p from zero h all = all
below_known known p from (suc n) h all =
    advanced_known (known_below known p.log from n) p (get_or p.log (from + n) 0) (logged_at_lem p (from + n) (omega arith))
    (below_known known p from n (omega arith) all)

-- what is known after a delivery is so
pub known_stays : (known : List ℕ) (p : Post) → Known known p → Known (known_after known p) (with_log p (joined_from known p).log (joined_from known p).logged)
unfolding known_after joined_from due_log_from known_below
known_stays known p all = go (is_dest p p.lane)
  where
    vs : List ℕ
    vs = due_places_from known p

    new : NewLog
    new = record { log = sets p.log p.logged vs; logged = min (p.logged + length vs) 128; count = length vs }

    old : NewLog
    old = record { log = p.log; logged = p.logged; count = 0 }

    grown : Known known (with_log p new.log new.logged)
    grown = record { logged = λ i k a b. logged_stays p vs new.logged (i * 16 + k) (omega arith) (all.logged i k a b) }

    more : Dec (p.logged ≤ new.logged) → Known (known_below known new.log p.logged (new.logged - p.logged)) (with_log p new.log new.logged)
    more (yes h) = below_known known (with_log p new.log new.logged) p.logged (new.logged - p.logged) (omega arith) grown
    more (no h) = let z : new.logged - p.logged ≡ 0 = omega arith in rw z grown

    go : (b : Bool)
        → Known (known_below known (cond b new old).log p.logged ((cond b new old).logged - p.logged)) (with_log p (cond b new old).log (cond b new old).logged)
    go true = more (dec_le p.logged new.logged)
    go false = let z : p.logged - p.logged ≡ 0 = omega arith in rw z all
