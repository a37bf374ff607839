-- How many beacons of lane o a step sends, in any world: an order and a hearing none, a beacon one at most, a roll call too. Assumes nothing.
use Prim.Native.Nat.{ℕ, zero, suc, ◌+◌, ◌≤◌}
use mathlib.Core.Path.{◌≡◌, refl, ap, ◌∙◌}
use mathlib.Core.Bool.{Bool, true, false, cond, not, ◌&&◌}
use mathlib.Core.List.{List, [], ◌∷◌, ◌++◌}
use mathlib.Core.Logic.{◌⊎◌, inl, inr, ◌≢◌}
use native.Mathlib.Omega.{arith}
use lib.Dec.{eqb}
use lib.ListN.{get_or}
use borrow.Author.Tests.{eq-eqb, ne_eqb}
use Rattle.cells.specs.Sets.{has_lane}
use Rattle.state.specs.Yards.{Yard, post_at, beacons_at}
use Rattle.yard.specs.Worlds.{World, Single, order, hear, beacon, single, singles}
use Rattle.roll.specs.RollCall.{lane_hears, lanes_hears, posts_hear, beacons_sent, sources_below, beacons_heard, posts_hear_beacons, roll_steps, roll_refusal, roll_call}
use Rattle.roll.specs.Runs.{one, roll, answer, step}
use Rattle.steps.specs.Answers.{beacon_number}
use Rattle.roll.specs.Answers.{answer_number}
use Rattle.laws.proofs.TestLaws.{same_or_not}
use Rattle.agreement.proofs.BeaconCounts.{stops_at, answers_to, beacon_answer, beacon_counts, order_counts, hear_counts, other_count, own_few}

-- ---- single steps

-- at most so many of lane o
abbrev most : ℕ → Single → ℕ
most o (order lane word) = 0
most o (hear lane k) = 0
most o (beacon lane) = cond (eqb lane o) 1 0

-- lane o's beacons in two worlds, at most n more
abbrev pub Sends : ℕ → World → World → ℕ → Type 0
Sends o w v n = (beacons_at w.yard o ≤ beacons_at v.yard o) × (beacons_at v.yard o ≤ beacons_at w.yard o + n)

-- two worlds with the same counts
sends_none : (o : ℕ) (w v : World) → beacons_at v.yard o ≡ beacons_at w.yard o → Sends o w v 0
sends_none o w v e = (omega (arith, e), omega (arith, e))

same_counts : (o : ℕ) (w v : World) → v.yard.beacons ≡ w.yard.beacons → Sends o w v 0
same_counts o w v e = sends_none o w v (ap (λ (l : List ℕ). get_or l o 0) e)

-- each single step
pub single_sends : (o : ℕ) (w : World) (x : Single) → Sends o w (single w x) (most o x)
single_sends o w (order lane word) = same_counts o w (single w (order lane word)) (order_counts w lane word)
single_sends o w (hear lane k) = same_counts o w (single w (hear lane k)) (hear_counts w lane k)
single_sends o w (beacon lane) = go (same_or_not lane o)
  where
    go : (lane ≡ o) ⊎ (lane ≢ o) → Sends o w (single w (beacon lane)) (cond (eqb lane o) 1 0)
    go (inl e) = rw (e, eq-eqb o o refl) (own_few w o)
    go (inr n) = rw (ne_eqb lane o n) (sends_none o w (single w (beacon lane)) (other_count w lane o n))

-- a beacon's number, and one that is refused sends none
pub beacon_number_lem : (w : World) (lane : ℕ) → answer_number (answer w (one (beacon lane))) ≡ stops_at w lane (beacons_at w.yard lane)
unfolding answer
beacon_number_lem w lane = rw (beacon_answer w lane) (go (same_or_not n 0))
  where
    n : ℕ
    n = stops_at w lane (beacons_at w.yard lane)

    go : (n ≡ 0) ⊎ (n ≢ 0) → beacon_number (answers_to n) ≡ n
    go (inl z) = rw z
    go (inr m) = rw (ne_eqb n 0 m)

pub beacon_refused_none : (o : ℕ) (w : World) (lane : ℕ) → answer_number (answer w (one (beacon lane))) ≢ 0 → Sends o w (single w (beacon lane)) 0
beacon_refused_none o w lane n =
    same_counts o w (single w (beacon lane)) (beacon_counts w lane ∙ rw (ne_eqb (stops_at w lane (beacons_at w.yard lane)) 0 (λ z. n (beacon_number_lem w lane ∙ z))))

-- ---- lists of them

-- at most so many in all
unfoldable most_of : ℕ → List Single → ℕ
most_of o [] = 0
most_of o (x ∷ l) = most o x + most_of o l

-- of two lists
most_append : (o : ℕ) (l m : List Single) → most_of o (l ++ m) ≡ most_of o l + most_of o m
unfolding most_of
most_append o [] m = omega arith
most_append o (x ∷ l) m = omega (arith, most_append o l m)

-- run one after another
singles_send : (o : ℕ) (w : World) (l : List Single) → Sends o w (singles w l) (most_of o l)
unfolding singles most_of
singles_send o w [] = (omega arith, omega arith)
singles_send o w (x ∷ l) =
    let a = single_sends o w x in
    let b = singles_send o (single w x) l in
    (omega (arith, a.0, b.0), omega (arith, a.1, b.1))

-- ---- the roll call's list

-- the hearings of one lane's orders
lane_none : (o : ℕ) (first : List ℕ) (p q n : ℕ) → most_of o (lane_hears first p q n) ≡ 0
unfolding lane_hears
lane_none o first p q zero = unfold most_of in refl
lane_none o first p q (suc n) = rw (most_append, lane_none o first p q n) (unfold most_of in refl)

-- of the lanes below k
lanes_none : (o : ℕ) (y : Yard) (p k : ℕ) → most_of o (lanes_hears y p k) ≡ 0
unfolding lanes_hears
lanes_none o y p zero = unfold most_of in refl
lanes_none o y p (suc q) = rw (most_append, lanes_none o y p q) (go (eqb q p))
  where
    go : (b : Bool) → ◌≡◌ {A = ℕ} (0 + most_of o (cond b [] (lane_hears y.first p q (post_at y q).serial.0))) 0
    go true = unfold most_of in refl
    go false = rw (lane_none o y.first p q (post_at y q).serial.0) refl

-- by the posts below k
hears_none : (o : ℕ) (y : Yard) (k : ℕ) → most_of o (posts_hear y k) ≡ 0
unfolding posts_hear
hears_none o y zero = unfold most_of in refl
hears_none o y (suc p) = rw (most_append, hears_none o y p) (go (has_lane y.present p))
  where
    go : (b : Bool) → ◌≡◌ {A = ℕ} (0 + most_of o (cond b (lanes_hears y p 8) [])) 0
    go true = rw (lanes_none o y p 8) refl
    go false = unfold most_of in refl

-- the beacon of lane i, if it is a source
one_beacon : (o i : ℕ) (b : Bool) → most_of o (cond b (beacon i ∷ []) []) ≤ cond (eqb i o) 1 0
unfolding most_of
one_beacon o i true = omega arith
one_beacon o i false = omega arith

-- the beacons of the sources below k: none of lane o, unless that is below k
beacons_before : (o sources k : ℕ) → k ≤ o → most_of o (beacons_sent sources k) ≡ 0
unfolding beacons_sent
beacons_before o sources zero l = unfold most_of in refl
beacons_before o sources (suc i) l =
    rw most_append (omega (arith, beacons_before o sources i (omega arith), rw (ne_eqb i o (omega arith)) at (one_beacon o i (has_lane sources i))))

beacons_few : (o sources k : ℕ) → most_of o (beacons_sent sources k) ≤ 1
unfolding beacons_sent
beacons_few o sources zero = unfold most_of in omega arith
beacons_few o sources (suc i) = rw most_append (go (same_or_not i o) (beacons_few o sources i))
  where
    go : (i ≡ o) ⊎ (i ≢ o) → most_of o (beacons_sent sources i) ≤ 1 → most_of o (beacons_sent sources i) + most_of o (cond (has_lane sources i) (beacon i ∷ []) []) ≤ 1
    go (inl e) few = omega (arith, beacons_before o sources i (omega arith), rw (eq-eqb i o e) at (one_beacon o i (has_lane sources i)))
    go (inr n) few = omega (arith, few, rw (ne_eqb i o n) at (one_beacon o i (has_lane sources i)))

-- the hearings of the beacons
heard_none : (o : ℕ) (sources from p k : ℕ) → most_of o (beacons_heard sources from p k) ≡ 0
unfolding beacons_heard
heard_none o sources from p zero = unfold most_of in refl
heard_none o sources from p (suc i) = rw (most_append, heard_none o sources from p i) (go (has_lane sources i && not (eqb i p)))
  where
    go : (b : Bool) → ◌≡◌ {A = ℕ} (0 + most_of o (cond b (hear p (from + sources_below sources i) ∷ []) [])) 0
    go true = unfold most_of in refl
    go false = unfold most_of in refl

-- by the posts below k
posts_none : (o : ℕ) (present sources from k : ℕ) → most_of o (posts_hear_beacons present sources from k) ≡ 0
unfolding posts_hear_beacons
posts_none o present sources from zero = unfold most_of in refl
posts_none o present sources from (suc p) = rw (most_append, posts_none o present sources from p) (go (has_lane present p))
  where
    go : (b : Bool) → ◌≡◌ {A = ℕ} (0 + most_of o (cond b (beacons_heard sources from p 8) [])) 0
    go true = rw (heard_none o sources from p 8) refl
    go false = unfold most_of in refl

-- so one in all
roll_few : (o : ℕ) (w : World) → most_of o (roll_steps w) ≤ 1
unfolding roll_steps
roll_few o w =
    rw (most_append, most_append)
    (omega (
      arith,
      hears_none o w.yard 8,
      beacons_few o w.yard.sources 8,
      posts_none o w.yard.present w.yard.sources (singles w (posts_hear w.yard 8)).yard.frames 8,
    ))

-- ---- a roll call

-- its number
pub roll_number_lem : (w : World) → answer_number (answer w roll) ≡ roll_refusal w
unfolding answer roll_call
roll_number_lem w = go (same_or_not (roll_refusal w) 0)
  where
    go : (roll_refusal w ≡ 0) ⊎ (roll_refusal w ≢ 0) → answer_number (answer w roll) ≡ roll_refusal w
    go (inl z) = rw z
    go (inr n) = rw (ne_eqb (roll_refusal w) 0 n)

-- one that is refused sends none
pub refused_none : (o : ℕ) (w : World) → roll_refusal w ≢ 0 → Sends o w (step w roll) 0
refused_none o w n = same_counts o w (step w roll) (unfold step roll_call in rw (ne_eqb (roll_refusal w) 0 n))

-- refused or not
pub roll_sends : (o : ℕ) (w : World) → Sends o w (step w roll) 1
roll_sends o w = go (same_or_not (roll_refusal w) 0)
  where
    ran : roll_refusal w ≡ 0 → beacons_at (step w roll).yard o ≡ beacons_at (singles w (roll_steps w)).yard o
    ran z = unfold step roll_call in rw (eq-eqb (roll_refusal w) 0 z)

    go : (roll_refusal w ≡ 0) ⊎ (roll_refusal w ≢ 0) → Sends o w (step w roll) 1
    go (inl z) = let s = singles_send o w (roll_steps w) in (omega (arith, ran z, s.0), omega (arith, ran z, s.1, roll_few o w))
    go (inr n) = let s = refused_none o w n in (s.0, omega (arith, s.1))
