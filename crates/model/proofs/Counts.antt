-- How many single steps a roll call runs, and how many orders were sent. Assumes nothing.
use mathlib.Core.Path.{◌≡◌, refl}
use mathlib.Core.List.{List, [], ◌∷◌, ◌++◌, append-nil}
use mathlib.Core.Logic.{◌⊎◌, inl, inr, ◌≢◌}
use mathlib.Core.Bool.{Bool, true, false, cond, ◌&&◌, not}
use Prim.Native.Nat.{ℕ, zero, suc, ◌+◌, ◌-◌, ◌*◌, ◌≤◌, ◌<◌}
use native.Mathlib.Omega.{arith}
use lib.Dec.{eqb}
use lib.ListN.{length, length-append}
use borrow.Author.Tests.{eqb-true, eq-eqb, ne_eqb}
use Rattle.laws.proofs.TestLaws.{same_or_not, not_both}
use Rattle.yard.specs.Worlds.{Single, order, hear, beacon}
use Rattle.model.proofs.Functions.{upd, upd_same, upd_other, sum_below, sum_same, sum_more}
use Rattle.model.proofs.Model.{Post, Roles, Yard, deliver, own_taken, order_refused, order_done, hear_done, step, sent_by, run, sent, lane_hears}
use Rattle.model.proofs.Model.{lanes_hears, posts_hear, beacons_sent, sources_below, posts_below, beacons_heard, posts_hear_beacons, roll_steps}
use Rattle.model.proofs.Invariants.{RolesOk, YardOk}
use Rattle.model.proofs.Hearing.{hear_own}
use Rattle.model.proofs.Steps.{order_pass, hear_or_refused, beacon_or_refused}
use Rattle.model.proofs.SentOrders.{next_order}

-- all orders sent, by the own serials
abbrev pub orders : Yard → ℕ
orders Y = sum_below 8 (λ i. (Y.posts i).own)

-- ---- the hearings of the orders

-- of one lane
lane_count : (Y : Yard) (p i n : ℕ) → length (lane_hears Y p i n) ≡ n
unfolding lane_hears
lane_count Y p i zero = refl
lane_count Y p i (suc n) = simp length-append (omega (arith, lane_count Y p i n))

-- by post p, of the lanes below k, none of which is its own
lanes_before : (Y : Yard) (p k : ℕ) → k ≤ p → length (lanes_hears Y p k) ≡ sum_below k (λ i. (Y.posts i).own)
unfolding lanes_hears sum_below
lanes_before Y p zero l = refl
lanes_before Y p (suc k) l =
    rw (ne_eqb k p (omega arith), length-append, lane_count Y p k (Y.posts k).own) (omega (arith, lanes_before Y p k (omega arith)))

-- of the lanes below k, one of which is its own
lanes_after : (Y : Yard) (p k : ℕ) → p < k → length (lanes_hears Y p k) + (Y.posts p).own ≡ sum_below k (λ i. (Y.posts i).own)
unfolding lanes_hears sum_below
lanes_after Y p zero l = absurd (omega arith)
lanes_after Y p (suc k) l = go (same_or_not k p) (lanes_after Y p k)
  where
    go : (k ≡ p) ⊎ (k ≢ p) → (p < k → length (lanes_hears Y p k) + (Y.posts p).own ≡ sum_below k (λ i. (Y.posts i).own))
        → length (lanes_hears Y p k ++ cond (eqb k p) [] (lane_hears Y p k (Y.posts k).own)) + (Y.posts p).own
        ≡ (Y.posts k).own + sum_below k (λ i. (Y.posts i).own)
    go (inl q) ih = rw (eq-eqb k p q, append-nil, q) (omega (arith, lanes_before Y p p (omega arith)))
    go (inr q) ih = rw (ne_eqb k p q, length-append, lane_count Y p k (Y.posts k).own) (omega (arith, ih (omega arith)))

module _ (R : Roles) (ro : RolesOk R) where
  -- a lane without a post is no source
  no_source_lem : (p : ℕ) → R.present p ≡ false → R.source p ≡ false
  no_source_lem p e = go (R.source p) refl
    where
      go : (b : Bool) → R.source p ≡ b → R.source p ≡ false
      go true b = absurd (not_both (R.present p) (ro.sources_present p b) e)
      go false b = b

  -- by the posts below k: each hears all orders but its own
  hears_count : (Y : Yard) → YardOk R Y → (k : ℕ) → k ≤ 8
      → length (posts_hear R Y k) + sum_below k (λ i. (Y.posts i).own) ≡ posts_below R k * orders Y
  unfolding posts_hear posts_below
  hears_count Y y zero l = unfold sum_below in omega arith
  hears_count Y y (suc p) l = go (R.present p) refl (hears_count Y y p (omega arith))
    where
      sum : sum_below (suc p) (λ i. (Y.posts i).own) ≡ (Y.posts p).own + sum_below p (λ i. (Y.posts i).own)
      sum = unfold sum_below in refl

      go : (b : Bool) → R.present p ≡ b → length (posts_hear R Y p) + sum_below p (λ i. (Y.posts i).own) ≡ posts_below R p * orders Y
          → length (posts_hear R Y p ++ cond b (lanes_hears Y p 8) []) + sum_below (suc p) (λ i. (Y.posts i).own)
          ≡ (posts_below R p + cond b 1 0) * orders Y
      go true e ih = rw (length-append, sum) (omega (arith, ih, lanes_after Y p 8 (omega arith)))
      go false e ih = rw (append-nil, sum) (omega (arith, ih, ((y.selves p).idle_unless_source (no_source_lem p e)).0))

  -- ---- the beacons, and their hearings

  -- one beacon of each source
  beacons_count : (k : ℕ) → length (beacons_sent R k) ≡ sources_below R k
  unfolding beacons_sent sources_below
  beacons_count zero = refl
  beacons_count (suc k) = go (R.source k) (beacons_count k)
    where
      go : (b : Bool) → length (beacons_sent R k) ≡ sources_below R k
          → length (beacons_sent R k ++ cond b (beacon k ∷ []) []) ≡ sources_below R k + cond b 1 0
      go true ih = rw length-append (omega (arith, ih))
      go false ih = rw append-nil (omega (arith, ih))

  -- by post p, of the sources below k, none of which it is
  heard_before : (c p k : ℕ) → k ≤ p → length (beacons_heard R c p k) ≡ sources_below R k
  unfolding beacons_heard sources_below
  heard_before c p zero l = refl
  heard_before c p (suc k) l = rw (ne_eqb k p (omega arith)) (go (R.source k) (heard_before c p k (omega arith)))
    where
      go : (b : Bool) → length (beacons_heard R c p k) ≡ sources_below R k
          → length (beacons_heard R c p k ++ cond (b && true) (hear p (c + sources_below R k) ∷ []) []) ≡ sources_below R k + cond b 1 0
      go true ih = rw length-append (omega (arith, ih))
      go false ih = rw append-nil (omega (arith, ih))

  -- of the sources below k, one of which it may be
  heard_after : (c p k : ℕ) → p < k → length (beacons_heard R c p k) + cond (R.source p) 1 0 ≡ sources_below R k
  unfolding beacons_heard sources_below
  heard_after c p zero l = absurd (omega arith)
  heard_after c p (suc k) l = go (same_or_not k p) (R.source k) refl (heard_after c p k)
    where
      no : (b : Bool) → b && false ≡ false
      no true = refl
      no false = refl

      go : (k ≡ p) ⊎ (k ≢ p) → (b : Bool) → R.source k ≡ b
          → (p < k → length (beacons_heard R c p k) + cond (R.source p) 1 0 ≡ sources_below R k)
          → length (beacons_heard R c p k ++ cond (b && not (eqb k p)) (hear p (c + sources_below R k) ∷ []) []) + cond (R.source p) 1 0
          ≡ sources_below R k + cond b 1 0
      go (inl q) b e ih = rw (← e, eq-eqb k p q, no (R.source k), append-nil, q) (omega (arith, heard_before c p p (omega arith)))
      go (inr q) true e ih = rw (ne_eqb k p q, length-append) (omega (arith, ih (omega arith)))
      go (inr q) false e ih = rw append-nil (omega (arith, ih (omega arith)))

  -- by the posts below k: each hears all beacons but its own
  posts_count : (c k : ℕ) → k ≤ 8 → length (posts_hear_beacons R c k) + sources_below R k ≡ posts_below R k * sources_below R 8
  unfolding posts_hear_beacons posts_below
  posts_count c zero l = unfold sources_below in omega arith
  posts_count c (suc p) l = go (R.present p) refl (posts_count c p (omega arith))
    where
      one : sources_below R (suc p) ≡ sources_below R p + cond (R.source p) 1 0
      one = unfold sources_below in refl

      none : R.present p ≡ false → ◌≡◌ {A = ℕ} (cond (R.source p) 1 0) 0
      none e = rw (no_source_lem p e) refl

      go : (b : Bool) → R.present p ≡ b → length (posts_hear_beacons R c p) + sources_below R p ≡ posts_below R p * sources_below R 8
          → length (posts_hear_beacons R c p ++ cond b (beacons_heard R c p 8) []) + sources_below R (suc p)
          ≡ (posts_below R p + cond b 1 0) * sources_below R 8
      go true e ih = rw (length-append, one) (omega (arith, ih, heard_after c p 8 (omega arith)))
      go false e ih = rw (append-nil, one) (omega (arith, ih, none e))

  -- ---- the roll call

  -- with N posts, M orders sent and S sources: (N − 1) × M + N × S single steps
  pub roll_count_lem : (Y : Yard) → YardOk R Y → 0 < posts_below R 8
      → length (roll_steps R Y) ≡ (posts_below R 8 - 1) * orders Y + posts_below R 8 * sources_below R 8
  unfolding roll_steps
  roll_count_lem Y y n = rw (length-append, length-append)
      (go (posts_below R 8) n (hears_count Y y 8 (omega arith)) (posts_count (run R Y (posts_hear R Y 8)).frames 8 (omega arith)))
    where
      go : (N : ℕ) → 0 < N → length (posts_hear R Y 8) + orders Y ≡ N * orders Y
          → length (posts_hear_beacons R (run R Y (posts_hear R Y 8)).frames 8) + sources_below R 8 ≡ N * sources_below R 8
          → length (posts_hear R Y 8) + (length (beacons_sent R 8) + length (posts_hear_beacons R (run R Y (posts_hear R Y 8)).frames 8))
          ≡ (N - 1) * orders Y + N * sources_below R 8
      go zero h e f = absurd (omega arith)
      go (suc N) h e f = let d : suc N - 1 ≡ N = omega arith in rw d (omega (arith, e, f, beacons_count 8))

-- ---- the orders sent are as many as the own serials tell

module _ (R : Roles) where
  -- by a step
  pub step_orders : (Y : Yard) (s : Single) → orders (step R Y s) ≡ orders Y + length (sent_by R Y s)
  unfolding step sent_by
  step_orders Y (order p w) = go (eqb (order_refused R Y p w) 0) refl
    where
      D : Post
      D = deliver R p (own_taken p w (Y.posts p))

      more : p < 8 → orders (order_done R Y p w) ≡ suc (orders Y)
      more l = sum_more (λ i. (Y.posts i).own) (λ i. (upd Y.posts p D i).own) 8 p l
          (λ i n. rw (upd_other Y.posts p D i n) refl) (rw upd_same refl)

      go : (b : Bool) → eqb (order_refused R Y p w) 0 ≡ b
          → orders (cond b (order_done R Y p w) Y) ≡ orders Y + length (cond b (next_order Y p w ∷ []) [])
      go true e = omega (arith, more (order_pass R Y p w (eqb-true (order_refused R Y p w) 0 e)).0)
      go false e = omega arith
  step_orders Y (hear p k) = hear_or_refused R Y (λ Z. orders Z ≡ orders Y + 0) p k (λ e. omega (arith, same)) (omega arith)
    where
      same : orders (hear_done R Y p (Y.air k)) ≡ orders Y
      same = sum_same (λ i. (Y.posts i).own) (λ i. ((hear_done R Y p (Y.air k)).posts i).own) 8 (λ i l. hear_own R Y p (Y.air k) i)
  step_orders Y (beacon p) = beacon_or_refused R Y (λ Z. orders Z ≡ orders Y + 0) p (λ e. omega arith) (omega arith)

  -- by a list of them
  pub run_orders : (Y : Yard) (l : List Single) → orders (run R Y l) ≡ orders Y + length (sent R Y l)
  unfolding run sent
  run_orders Y [] = omega arith
  run_orders Y (s ∷ l) = rw length-append (omega (arith, run_orders (step R Y s) l, step_orders Y s))
