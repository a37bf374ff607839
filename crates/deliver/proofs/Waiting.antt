-- Whether any order waits and is ready; where none is, none is due. Assumes nothing.
use mathlib.Core.Path.{◌≡◌, refl, ap, ap₂, sym, ◌∙◌}
use mathlib.Core.List.{List, []}
use mathlib.Core.Bool.{Bool, true, false, not, ◌&&◌, ◌||◌}
use Prim.Native.Nat.{ℕ, zero, suc, ◌+◌, ◌-◌, ◌*◌, ◌/◌, ◌%◌, ◌<◌, ◌≤◌, min}
use native.Mathlib.Numerals.{add-one}
use native.Mathlib.Omega.{arith}
use native.Mathlib.Decide.{ℕ_discrete, dec_lt}
use lib.Dec.{ltb}
use lib.ListN.{get_or}
use borrow.Author.Tests.{ltb-true, eqb-true, lt-ltb, le-ltb}
use Rattle.frame.specs.Lanes.{any_below}
use Rattle.post.specs.declared.Post.{Post}
use Rattle.std.specs.Prelude.{Option}
use Rattle.frame.specs.declared.Stamp.{Stamp}
use Rattle.deliver.specs.Delivery.{NewLog}
use Rattle.deliver.specs.Delivery.{is_taken, is_logged, is_due, stamp_at, all_below, agrees, sort_by}
use Rattle.deliver.specs.Known.{is_due_from, due_below_from, due_places_from, due_log_from}
use Rattle.deliver.specs.Loops.{same_at, up_to, ready_at, ready_in, least_below}
use Rattle.deliver.proofs.Gathering.{agree_all}

-- ---- a test at the numbers below n

pub any_more : (test : ℕ → Bool) (n : ℕ) (b x : Bool) → b ≡ any_below test n → x ≡ test n → (b || x) ≡ any_below test (n + 1)
unfolding any_below
any_more test n b x p q = rw add-one (ap₂ ◌||◌ p q)

pub none_yet : (test : ℕ → Bool) → false ≡ any_below test 0
unfolding any_below
none_yet test = refl

and_parts : (a b : Bool) → (a && b) ≡ true → (a ≡ true) × (b ≡ true)
and_parts true b e = (refl, e)
and_parts false b e = absurd (let z : ◌≡◌ {A = ℕ} 0 1 = cc in omega arith)

-- every lane
pub all_at : (test : ℕ → Bool) (n i : ℕ) → all_below test n ≡ true → i < n → test i ≡ true
unfolding all_below
all_at test zero i e h = absurd (omega arith)
all_at test (suc n) i e h = go (and_parts (all_below test n) (test n) e) (ℕ_discrete i n) (λ q l. all_at test n i q l)
  where
    go : (all_below test n ≡ true) × (test n ≡ true) → Dec (i ≡ n) → (all_below test n ≡ true → i < n → test i ≡ true) → test i ≡ true
    go b (yes q) ih = rw q b.1
    go b (no q) ih = ih b.0 (omega arith)

or_parts : (a b : Bool) → (a || b) ≡ false → (a ≡ false) × (b ≡ false)
or_parts true b e = absurd (let z : ◌≡◌ {A = ℕ} 0 1 = cc in omega arith)
or_parts false b e = (refl, e)

-- it holds at none
none_at : (test : ℕ → Bool) (n i : ℕ) → any_below test n ≡ false → i < n → test i ≡ false
unfolding any_below
none_at test zero i e h = absurd (omega arith)
none_at test (suc n) i e h = go (or_parts (any_below test n) (test n) e) (ℕ_discrete i n) (λ q l. none_at test n i q l)
  where
    go : (any_below test n ≡ false) × (test n ≡ false) → Dec (i ≡ n) → (any_below test n ≡ false → i < n → test i ≡ false) → test i ≡ false
    go b (yes q) ih = rw q b.1
    go b (no q) ih = ih b.0 (omega arith)

or_no : (a : Bool) → (a || false) ≡ a
or_no true = refl
or_no false = refl

-- m numbers more at which it does not hold
any_past : (test : ℕ → Bool) (n m : ℕ) → ((i : ℕ) → n ≤ i → i < n + m → test i ≡ false) → any_below test (n + m) ≡ any_below test n
unfolding any_below
any_past test n zero h = let e : n + 0 ≡ n = omega arith in rw e
any_past test n (suc m) h =
    let e : n + suc m ≡ suc (n + m) = omega arith in
    rw (e, h (n + m) (omega arith) (omega arith), or_no) (any_past test n m (λ i a b. h i a (omega arith)))

-- ---- one turn more

module _ (known last stamps : List ℕ) (least : Option Stamp) (lane : ℕ) where
  abbrev test : ℕ → Bool
  test = ready_at known last stamps least lane

  and_no : (a : Bool) → (a && false) ≡ false
  and_no true = refl
  and_no false = refl

  and_yes : (a : Bool) → (a && true) ≡ a
  and_yes true = refl
  and_yes false = refl

  known_not : (k : ℕ) → k < get_or known lane 0 → test k ≡ false
  unfolding ready_at
  known_not k h = rw (lt-ltb k (get_or known lane 0) h, and_no)

  untaken_not : (k : ℕ) → get_or last lane 0 ≤ k → test k ≡ false
  unfolding ready_at
  untaken_not k h = rw (le-ltb k (get_or last lane 0) h)

  pub ready_first : (s : ℕ) → s ≡ get_or known lane 0 → false ≡ any_below test (min s 16)
  ready_first s e =
      let n : ℕ = min s 16 in
      let z : 0 + n ≡ n = omega arith in
      none_yet test ∙ sym (any_past test 0 n (λ i a b. known_not i (omega arith))) ∙ ap (any_below test) z

  pub ready_more : (k j : ℕ) (b x : Bool) (s : ℕ) → j ≡ k + 1 → get_or known lane 0 ≤ k → k < min (get_or last lane 0) 16 → b ≡ any_below test (min k 16)
      → s ≡ get_or stamps (lane * 16 + k) 0 → x ≡ up_to least s → (b || x) ≡ any_below test (min j 16)
  unfolding ready_at
  ready_more k n b x s g h l p e q =
      let i : min n 16 ≡ k + 1 = omega arith in
      let j : min k 16 ≡ k = omega arith in
      let t : ltb k (get_or last lane 0) ≡ true = lt-ltb k (get_or last lane 0) (omega arith) in
      let u : ltb k (get_or known lane 0) ≡ false = le-ltb k (get_or known lane 0) h in
      rw i (any_more test k b x (rw j at p) (rw (t, u, and_yes) (rw e at q)))

  pub ready_rest : (b : Bool) (n : ℕ) → min (get_or last lane 0) 16 ≤ n → b ≡ any_below test (min n 16) → b ≡ ready_in known last stamps least lane
  unfolding ready_in
  ready_rest b n h p = go (dec_lt n 16)
    where
      go : Dec (n < 16) → b ≡ any_below test 16
      go (yes l) =
          let m : min n 16 ≡ n = omega arith in
          let q : n + (16 - n) ≡ 16 = omega arith in
          rw m at p ∙ sym (any_past test n (16 - n) (λ i a c. untaken_not i (omega arith))) ∙ ap (any_below test) q
      go (no l) = let q : min n 16 ≡ 16 = omega arith in rw q at p

-- ---- where none waits, or none is ready, none is due

module _ (known : List ℕ) (p : Post) where
  below_none : (n : ℕ) → n ≤ 128 → ((place : ℕ) → place < 128 → is_due_from known p place ≡ false) → due_below_from known p n ≡ []
  unfolding due_below_from
  below_none zero h none = refl
  below_none (suc n) h none = rw (none n (omega arith)) (below_none n (omega arith) none)

  log_none : ((place : ℕ) → place < 128 → is_due_from known p place ≡ false)
      → ◌≡◌ {A = NewLog} (record { log = p.log; logged = min p.logged 128; count = 0 }) (due_log_from known p)
  unfolding due_log_from due_places_from sort_by
  log_none none = let z : p.logged + 0 ≡ p.logged = omega arith in rw (below_none 128 (omega arith) none, z)

  not_waiting : (taken logged agreed passed : Bool) → (taken ≡ true → passed ≡ true) → (taken && not logged && agreed && not passed) ≡ false
  not_waiting false logged agreed passed h = refl
  not_waiting true true agreed passed h = refl
  not_waiting true false false passed h = refl
  not_waiting true false true passed h = ap not (h refl)

  pub none_waits : all_below (same_at known p.last) 8 ≡ true
      → ◌≡◌ {A = NewLog} (record { log = p.log; logged = min p.logged 128; count = 0 }) (due_log_from known p)
  unfolding is_due_from is_due
  none_waits e = log_none (λ place h.
      let l = eqb-true (get_or known (place / 16) 0) (get_or p.last (place / 16) 0) (all_at (same_at known p.last) 8 (place / 16) e (omega arith)) in
      not_waiting (is_taken p place) (is_logged p place) (all_below (agrees p (stamp_at p place)) 8) (ltb (place % 16) (get_or known (place / 16) 0))
      (λ t. lt-ltb (place % 16) (get_or known (place / 16) 0) (omega (arith, l, ltb-true (place % 16) (get_or p.last (place / 16) 0) t))))

  not_ready : (taken logged agreed passed : Bool) → (taken && agreed && not passed) ≡ false → (taken && not logged && agreed && not passed) ≡ false
  not_ready false logged agreed passed h = refl
  not_ready true true agreed passed h = refl
  not_ready true false agreed passed h = h

  abbrev least : Option Stamp
  least = least_below p.sources p.last p.table 8

  ready_there : (place : ℕ) → place < 128 → any_below (ready_in known p.last p.stamps least) 8 ≡ false
      → (is_taken p place && up_to least (stamp_at p place) && not (ltb (place % 16) (get_or known (place / 16) 0))) ≡ false
  unfolding ready_in ready_at
  ready_there place h e =
      let m : place / 16 * 16 + place % 16 ≡ place = omega arith in
      rw m at (none_at (ready_at known p.last p.stamps least (place / 16)) 16 (place % 16)
      (none_at (ready_in known p.last p.stamps least) 8 (place / 16) e (omega arith)) (omega arith))

  pub none_ready : any_below (ready_in known p.last p.stamps least) 8 ≡ false
      → ◌≡◌ {A = NewLog} (record { log = p.log; logged = min p.logged 128; count = 0 }) (due_log_from known p)
  unfolding is_due_from is_due
  none_ready e = log_none (λ place h.
      rw (agree_all p (stamp_at p place) 8)
      (not_ready (is_taken p place) (is_logged p place) (up_to least (stamp_at p place)) (ltb (place % 16) (get_or known (place / 16) 0)) (ready_there place h e)))
