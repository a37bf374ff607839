-- One turn more of the roll call's loops on a state. Assumes nothing.
use mathlib.Core.Path.{◌≡◌, refl, sym, ap, ◌∙◌}
use mathlib.Core.Bool.{true, false}
use mathlib.Core.List.{List, [], ◌∷◌, ◌++◌, append-nil}
use Prim.Native.Nat.{ℕ, suc, ◌+◌, ◌*◌, ◌<◌}
use native.Mathlib.Numerals.{add-one}
use native.Mathlib.Omega.{arith}
use borrow.Author.Tests.{eq-eqb, ne_eqb}
use lib.ListN.{length, get_or, length-append}
use Rattle.cells.specs.Sets.{has_lane}
use Rattle.cells.specs.Tables.{order_place}
use Rattle.row.specs.Rows.{part, post_in}
use Rattle.row.proofs.Laws.{part_get}
use Rattle.steps.specs.HearAnswer as hearings
use Rattle.steps.specs.BeaconAnswer as beaconing
use Rattle.state.specs.Yards.{post_at}
use Rattle.yard.specs.Worlds.{Single, hear, beacon}
use Rattle.state.specs.States.{Held, held_in, yard_in}
use Rattle.yard.specs.InState.{After, after, hears_in, beacons_in, Here, here_in, single_in, singles_in}
use Rattle.state.proofs.StateLaws.{held_whole, at_yard}
use Rattle.roll.specs.RollCall.{lane_hears, lanes_hears, posts_hear, beacons_sent, sources_below, beacons_heard, posts_hear_beacons}
use Rattle.roll.specs.Calls.{lane_heard, ran_in}
use Rattle.roll.proofs.Kept.{singles_append, first_of, serial_of, Same, lane_keeps, lanes_keep, posts_keep, lanes_same}

-- ---- no step, one step, one list after another

pub none_ran : (s air : List ℕ) → after {Answer = ℕ} 0 s air ≡ ran_in (here_in s air) []
unfolding ran_in singles_in
none_ran s air = refl

-- what is left is what the list leaves
pub ran_left : (h : Here) (s air : List ℕ) (n : ℕ) (l : List Single) → after n s air ≡ ran_in h l → here_in s air ≡ singles_in h l
unfolding ran_in
ran_left h s air n l e = ap (λ (x : After ℕ). record { held = x.held; air = x.air }) e

pub then : (h : Here) (s air t exit : List ℕ) (n m : ℕ) (l k : List Single) → after n s air ≡ ran_in h l → after m t exit ≡ ran_in (here_in s air) k
    → after (n + m) t exit ≡ ran_in h (l ++ k)
unfolding ran_in
then h s air t exit n m l k e er =
    let a : n ≡ length l = ap (λ (x : After ℕ). x.answer) e in
    let b : m ≡ length k = ap (λ (x : After ℕ). x.answer) er in
    let c : here_in t exit ≡ singles_in h (l ++ k)
    = ran_left (here_in s air) t exit m k er ∙ ap (λ (x : Here). singles_in x k) (ran_left h s air n l e) ∙ sym (singles_append h l k)
    in
    rw (a, b, length-append, ← c)

pub hear_ran : (s air t exit : List ℕ) (p k : ℕ) (r : hearings.HearAnswer) → after r t exit ≡ hears_in (held_in s) air p k
    → after {Answer = ℕ} 1 t exit ≡ ran_in (here_in s air) (hear p k ∷ [])
unfolding ran_in singles_in single_in
hear_ran s air t exit p k r e = ap (λ (x : After hearings.HearAnswer). record { answer = 1; held = x.held; air = x.air }) e

pub beacon_ran : (s air t exit : List ℕ) (i : ℕ) (r : beaconing.BeaconAnswer) → after r t exit ≡ beacons_in (held_in s) air i
    → after {Answer = ℕ} 1 t exit ≡ ran_in (here_in s air) (beacon i ∷ [])
unfolding ran_in singles_in single_in
beacon_ran s air t exit i r e = ap (λ (x : After beaconing.BeaconAnswer). record { answer = 1; held = x.held; air = x.air }) e

-- ---- what the hearings keep stands in the state as it stood

first_in : (s : List ℕ) → length s ≡ 4483 → first_of (held_in s) ≡ (yard_in s).first
unfolding first_of
first_in s h = ap first_of (held_whole s h)

serial_in : (s : List ℕ) → length s ≡ 4483 → (q : ℕ) → serial_of (held_in s) q ≡ (post_at (yard_in s) q).serial.0
unfolding serial_of
serial_in s h q = ap (λ (x : Held). serial_of x q) (held_whole s h)

-- where a state has the sets of posts and sources, the first frames, and an own serial
pub sets_in : (s : List ℕ) → ((yard_in s).present ≡ get_or s 0 0) × ((yard_in s).sources ≡ get_or s 1 0)
unfolding yard_in
sets_in s = (refl, refl)

first_part : (s : List ℕ) → (yard_in s).first ≡ part s 11 128
unfolding yard_in
first_part s = refl

serial_cell : (s : List ℕ) (q : ℕ) → q < 8 → (post_at (yard_in s) q).serial.0 ≡ get_or s (139 + 543 * q + 4) 0
unfolding post_in
serial_cell s q low = rw (at_yard s q low, part_get s (139 + 543 * q) 543 4 (omega arith))

module _ (s₀ air₀ s air : List ℕ) (n : ℕ) (l : List Single) (h₀ : length s₀ ≡ 4483) (h : length s ≡ 4483) (e : after n s air ≡ ran_in (here_in s₀ air₀) l)
    (k : Same (singles_in (here_in s₀ air₀) l).held (held_in s₀)) where
  left : held_in s ≡ (singles_in (here_in s₀ air₀) l).held
  left = ap (λ (x : Here). x.held) (ran_left (here_in s₀ air₀) s air n l e)

  pub same_first : (yard_in s).first ≡ (yard_in s₀).first
  same_first = sym (first_in s h) ∙ ap first_of left ∙ k.first ∙ first_in s₀ h₀

  pub same_serial : (q : ℕ) → (post_at (yard_in s) q).serial.0 ≡ (post_at (yard_in s₀) q).serial.0
  same_serial q = sym (serial_in s h q) ∙ ap (λ (x : Held). serial_of x q) left ∙ k.serial q ∙ serial_in s₀ h₀ q

-- ---- the hearings of first frames: serial by serial, lane by lane, post by post

pub lane_more : (s₀ air₀ s air t exit : List ℕ) (p q n place k : ℕ) (r : hearings.HearAnswer) → length s₀ ≡ 4483 → length s ≡ 4483
    → after n s air ≡ ran_in (here_in s₀ air₀) (lane_hears (yard_in s₀).first p q n)
    → place ≡ order_place q (n + 1) → k ≡ get_or (part s 11 128) place 0 → after r t exit ≡ hears_in (held_in s) air p k
    → after (n + 1) t exit ≡ ran_in (here_in s₀ air₀) (lane_hears (yard_in s₀).first p q (n + 1))
unfolding lane_hears
lane_more s₀ air₀ s air t exit p q n place k r h₀ h e ep ek er =
    let f = same_first s₀ air₀ s air n (lane_hears (yard_in s₀).first p q n) h₀ h e (lane_keeps (here_in s₀ air₀) (yard_in s₀).first p q n) in
    let g : k ≡ get_or (yard_in s₀).first (order_place q (suc n)) 0 = rw (← first_part s, f, ep, add-one n) at ek in
    let w = then (here_in s₀ air₀) s air t exit n 1 (lane_hears (yard_in s₀).first p q n) (hear p k ∷ []) e (hear_ran s air t exit p k r er) in
    rw (add-one n) (rw (g, add-one n) at w)

-- what is heard of a lane: nothing of its own, else as many as the cell of its serial says
pub lane_own : (s air : List ℕ) (p q : ℕ) → q ≡ p → after {Answer = ℕ} 0 s air ≡ ran_in (here_in s air) (lane_heard (yard_in s) p q)
lane_own s air p q e = rw (eq-eqb q p e) (none_ran s air)

pub lane_other : (s air t exit : List ℕ) (p q i : ℕ) → (q ≡ p → ⊥) → q < 8 → i ≡ get_or s (139 + 543 * q + 4) 0
    → after i t exit ≡ ran_in (here_in s air) (lane_hears (yard_in s).first p q i)
    → after (get_or s (139 + 543 * q + 4) 0) t exit ≡ ran_in (here_in s air) (lane_heard (yard_in s) p q)
lane_other s air t exit p q i ne low ei e = rw (ne_eqb q p ne, serial_cell s q low, ← ei) e

pub lanes_more : (s₀ air₀ s air t exit : List ℕ) (n m p q : ℕ) → length s₀ ≡ 4483 → length s ≡ 4483
    → after n s air ≡ ran_in (here_in s₀ air₀) (lanes_hears (yard_in s₀) p q) → after m t exit ≡ ran_in (here_in s air) (lane_heard (yard_in s) p q)
    → after (n + m) t exit ≡ ran_in (here_in s₀ air₀) (lanes_hears (yard_in s₀) p (q + 1))
unfolding lanes_hears
lanes_more s₀ air₀ s air t exit n m p q h₀ h e er =
    let k = lanes_keep (here_in s₀ air₀) (yard_in s₀) p q in
    let f = same_first s₀ air₀ s air n (lanes_hears (yard_in s₀) p q) h₀ h e k in
    let g = same_serial s₀ air₀ s air n (lanes_hears (yard_in s₀) p q) h₀ h e k q in
    rw (add-one q) (then (here_in s₀ air₀) s air t exit n m (lanes_hears (yard_in s₀) p q) (lane_heard (yard_in s₀) p q) e (rw (f, g) at er))

pub posts_more : (s₀ air₀ s air t exit : List ℕ) (n m present p : ℕ) → length s₀ ≡ 4483 → length s ≡ 4483 → present ≡ (yard_in s₀).present
    → after n s air ≡ ran_in (here_in s₀ air₀) (posts_hear (yard_in s₀) p) → has_lane present p ≡ true
    → after m t exit ≡ ran_in (here_in s air) (lanes_hears (yard_in s) p 8)
    → after (n + m) t exit ≡ ran_in (here_in s₀ air₀) (posts_hear (yard_in s₀) (p + 1))
unfolding posts_hear
posts_more s₀ air₀ s air t exit n m present p h₀ h ep e has er =
    let k = posts_keep (here_in s₀ air₀) (yard_in s₀) p in
    let f = same_first s₀ air₀ s air n (posts_hear (yard_in s₀) p) h₀ h e k in
    let g = same_serial s₀ air₀ s air n (posts_hear (yard_in s₀) p) h₀ h e k in
    let l = lanes_same (yard_in s) (yard_in s₀) p 8 f g in
    let there : has_lane (yard_in s₀).present p ≡ true = rw ep at has in
    rw (add-one p, there)
    (then (here_in s₀ air₀) s air t exit n m (posts_hear (yard_in s₀) p) (lanes_hears (yard_in s₀) p 8) e (rw l at er))

pub posts_absent : (s : List ℕ) (present p : ℕ) → present ≡ (yard_in s).present → has_lane present p ≡ false → posts_hear (yard_in s) (p + 1) ≡ posts_hear (yard_in s) p
unfolding posts_hear
posts_absent s present p ep out = let absent : has_lane (yard_in s).present p ≡ false = rw ep at out in rw (add-one p, absent) (append-nil _)

-- ---- beacons, and their hearings

module _ (h : Here) (s air t exit : List ℕ) (n : ℕ) where
  pub sent_more : (sources i : ℕ) → after n s air ≡ ran_in h (beacons_sent sources i) → has_lane sources i ≡ true
      → after {Answer = ℕ} 1 t exit ≡ ran_in (here_in s air) (beacon i ∷ [])
      → after (n + 1) t exit ≡ ran_in h (beacons_sent sources (i + 1))
  unfolding beacons_sent
  sent_more sources i e has er = rw (add-one i, has) (then h s air t exit n 1 (beacons_sent sources i) (beacon i ∷ []) e er)

  pub heard_more : (sources from p i k : ℕ) → after n s air ≡ ran_in h (beacons_heard sources from p i) → k ≡ from + sources_below sources i
      → has_lane sources i ≡ true → (i ≡ p → ⊥) → after {Answer = ℕ} 1 t exit ≡ ran_in (here_in s air) (hear p k ∷ [])
      → after (n + 1) t exit ≡ ran_in h (beacons_heard sources from p (i + 1))
  unfolding beacons_heard
  heard_more sources from p i k e ek has ne er =
      rw (add-one i, ← ek, has, ne_eqb i p ne) (then h s air t exit n 1 (beacons_heard sources from p i) (hear p k ∷ []) e er)

  pub posts_heard : (present sources from p m : ℕ) → after n s air ≡ ran_in h (posts_hear_beacons present sources from p) → has_lane present p ≡ true
      → after m t exit ≡ ran_in (here_in s air) (beacons_heard sources from p 8)
      → after (n + m) t exit ≡ ran_in h (posts_hear_beacons present sources from (p + 1))
  unfolding posts_hear_beacons
  posts_heard present sources from p m e has er =
      rw (add-one p, has) (then h s air t exit n m (posts_hear_beacons present sources from p) (beacons_heard sources from p 8) e er)

-- no beacon of a lane that is no source, and none for a lane without a post
pub sent_none : (sources i : ℕ) → has_lane sources i ≡ false → beacons_sent sources (i + 1) ≡ beacons_sent sources i
unfolding beacons_sent
sent_none sources i out = rw (add-one i, out) (append-nil _)

pub heard_none : (sources from p i : ℕ) → has_lane sources i ≡ false → beacons_heard sources from p (i + 1) ≡ beacons_heard sources from p i
unfolding beacons_heard
heard_none sources from p i out = rw (add-one i, out) (append-nil _)

pub heard_own : (sources from p i : ℕ) → has_lane sources i ≡ true → i ≡ p → beacons_heard sources from p (i + 1) ≡ beacons_heard sources from p i
unfolding beacons_heard
heard_own sources from p i has e = rw (add-one i, has, eq-eqb i p e) (append-nil _)

pub heard_absent : (present sources from p : ℕ) → has_lane present p ≡ false → posts_hear_beacons present sources from (p + 1) ≡ posts_hear_beacons present sources from p
unfolding posts_hear_beacons
heard_absent present sources from p out = rw (add-one p, out) (append-nil _)

-- the beacon of the next source
pub below_one : (sources i : ℕ) → has_lane sources i ≡ true → sources_below sources (i + 1) ≡ sources_below sources i + 1
unfolding sources_below
below_one sources i has = rw (add-one i, has)

pub below_none : (sources i : ℕ) → has_lane sources i ≡ false → sources_below sources (i + 1) ≡ sources_below sources i
unfolding sources_below
below_none sources i out = rw (add-one i, out) (omega arith)
