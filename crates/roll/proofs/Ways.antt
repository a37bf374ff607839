-- The ways through the roll call on a state: refused with 12, 13 or 27, and run. Assumes nothing.
use mathlib.Core.Path.{◌≡◌, refl, sym, ap, ◌∙◌}
use mathlib.Core.Bool.{Bool, true, false, cond, ◌&&◌, ◌||◌}
use mathlib.Core.Logic.{◌⊎◌, inl, inr}
use mathlib.Core.List.{List, ◌++◌}
use Prim.Native.Nat.{ℕ, zero, suc, ◌+◌, ◌%◌, ◌<◌, ◌≤◌}
use native.Mathlib.Nat.{add_assoc}
use native.Mathlib.Numerals.{add-one}
use native.Mathlib.Omega.{arith}
use borrow.Author.Tests.{eq-eqb, ne_eqb, lt-ltb, le-ltb, lt-leb, le-leb}
use lib.Count.{ones}
use lib.Dec.{ltb, eqb}
use lib.ListN.{length, get_or}
use Rattle.frame.specs.Lanes.{any_below}
use Rattle.cells.specs.Sets.{has_lane}
use Rattle.laws.proofs.TestLaws.{below_or_not}
use Rattle.laws.proofs.LaneCounts.{lanes_below, lanes_ones_256}
use Rattle.row.specs.Rows.{part}
use Rattle.state.specs.Yards.{Yard, beacons_at, spent}
use Rattle.state.specs.States.{Held, held_in, yard_in}
use Rattle.yard.specs.InState.{After, after, Here, here_in, singles_in}
use Rattle.state.proofs.StateLaws.{held_whole, held_other, frames_in_lem, beacons_in_lem}
use Rattle.roll.specs.RollAnswer as calling
use Rattle.roll.specs.RollCall.{posts_hear, beacons_sent, posts_hear_beacons, source_spent, roll_refusal}
use Rattle.roll.specs.Answers.{roll_number}
use Rattle.roll.specs.Calls.{frames_in, roll_steps_in, ran_in, roll_refusal_in, calls_in}
use Rattle.roll.specs.Values.{roll_count, roll_count_in}
use Rattle.roll.proofs.Turns.{sets_in, ran_left, then}

-- ---- the list

-- how many frames are on the air
frames_held : (s : List ℕ) → length s ≡ 4483 → frames_in (held_in s) ≡ get_or s 2 0
unfolding frames_in
frames_held s h = ap frames_in (held_whole s h) ∙ frames_in_lem s

-- its three parts
pub all_ran : (s air s₁ air₁ s₂ air₂ s₃ air₃ : List ℕ) (present sources from n₁ n₂ n₃ : ℕ) → length s ≡ 4483 → length s₁ ≡ 4483
    → present ≡ get_or s 0 0 → sources ≡ get_or s 1 0
    → after n₁ s₁ air₁ ≡ ran_in (here_in s air) (posts_hear (yard_in s) 8) → from ≡ get_or s₁ 2 0
    → after n₂ s₂ air₂ ≡ ran_in (here_in s₁ air₁) (beacons_sent sources 8)
    → after n₃ s₃ air₃ ≡ ran_in (here_in s₂ air₂) (posts_hear_beacons present sources from 8)
    → after (n₁ + n₂ + n₃) s₃ air₃ ≡ ran_in (here_in s air) (roll_steps_in (held_in s) air)
unfolding roll_steps_in
all_ran s air s₁ air₁ s₂ air₂ s₃ air₃ present sources from n₁ n₂ n₃ h h₁ ep es e₁ ef e₂ e₃ =
    let w = held_whole s h in
    let f : frames_in (singles_in (here_in s air) (posts_hear (yard_in s) 8)).held ≡ from
    = sym (ap (λ (x : Here). frames_in x.held) (ran_left (here_in s air) s₁ air₁ n₁ (posts_hear (yard_in s) 8) e₁)) ∙ frames_held s₁ h₁ ∙ sym ef
    in
    let b = then (here_in s₁ air₁) s₂ air₂ s₃ air₃ n₂ n₃ (beacons_sent sources 8) (posts_hear_beacons present sources from 8) e₂ e₃ in
    let c = then (here_in s air) s₁ air₁ s₃ air₃ n₁ (n₂ + n₃) (posts_hear (yard_in s) 8) (beacons_sent sources 8 ++ posts_hear_beacons present sources from 8) e₁ b in
    let d : roll_steps_in (held_in s) air ≡ posts_hear (yard_in s) 8 ++ (beacons_sent sources 8 ++ posts_hear_beacons present sources from 8)
    = rw (ep, es, ← (sets_in s).0, ← (sets_in s).1, w, ← (rw w at f))
    in
    rw (d, add_assoc) c

-- ---- some source has no beacon left

-- how many sources below k have one left
unfoldable pub left_below : Yard → ℕ → ℕ
left_below y zero = 0
left_below y (suc i) = left_below y i + cond (has_lane y.sources i && ltb (beacons_at y i) 128) 1 0

-- one lane more, which counts one at most
one_most : (b : Bool) (m : ℕ) → m ≡ cond b 1 0 → m ≤ 1
one_most true m e = omega arith
one_most false m e = omega arith

pub left_more : (s : List ℕ) (here : Bool) (n m i sources sent : ℕ) → n ≡ left_below (yard_in s) i → sources ≡ get_or s 1 0 → sent ≡ get_or (part s 3 8) i 0
    → here ≡ has_lane sources i → m ≡ cond (here && ltb sent 128) 1 0 → (n + m ≡ left_below (yard_in s) (i + 1)) × (m ≤ 1)
unfolding left_below
left_more s here n m i sources sent e es et eh em =
    let c : m ≡ cond (has_lane (yard_in s).sources i && ltb (beacons_at (yard_in s) i) 128) 1 0 = rw ((sets_in s).1, beacons_in_lem s, ← es, ← et, ← eh) em in
    (rw (add-one i, e, c), one_most (here && ltb sent 128) m em)

or_no : (b : Bool) → (b || false) ≡ b
or_no true = refl
or_no false = refl

or_yes : (b : Bool) → (b || true) ≡ true
or_yes true = refl
or_yes false = refl

both_more : (f g : ℕ) → ltb (f + 1) (g + 1) ≡ ltb f g
both_more f g = go (below_or_not f g)
  where
    go : (f < g) ⊎ (g ≤ f) → ltb (f + 1) (g + 1) ≡ ltb f g
    go (inl l) = lt-ltb (f + 1) (g + 1) (omega arith) ∙ sym (lt-ltb f g l)
    go (inr l) = le-ltb (f + 1) (g + 1) (omega arith) ∙ sym (le-ltb f g l)

-- they are fewer than the sources just where some source has none left
few_left : (y : Yard) (k : ℕ)
    → (left_below y k ≤ lanes_below y.sources k)
    × (ltb (left_below y k) (lanes_below y.sources k) ≡ any_below (λ (i : ℕ). has_lane y.sources i && spent (beacons_at y i)) k)
unfolding left_below lanes_below any_below
few_left y zero = (omega arith, refl)
few_left y (suc i) = go (has_lane y.sources i) (below_or_not (beacons_at y i) 128) (few_left y i)
  where
    f : ℕ
    f = left_below y i

    g : ℕ
    g = lanes_below y.sources i

    some : Bool
    some = any_below (λ (j : ℕ). has_lane y.sources j && spent (beacons_at y j)) i

    go : (b : Bool) → (beacons_at y i < 128) ⊎ (128 ≤ beacons_at y i) → (f ≤ g) × (ltb f g ≡ some)
        → (f + cond (b && ltb (beacons_at y i) 128) 1 0 ≤ g + cond b 1 0)
        × (ltb (f + cond (b && ltb (beacons_at y i) 128) 1 0) (g + cond b 1 0) ≡ (some || (b && spent (beacons_at y i))))
    go false h ih =
        let a : f + 0 ≡ f = omega arith in
        let b : g + 0 ≡ g = omega arith in
        rw (a, b) (ih.0, ih.1 ∙ sym (or_no some))
    go true (inl h) ih = rw (lt-ltb (beacons_at y i) 128 h, lt-leb 128 (beacons_at y i) h) (omega (arith, ih.0), both_more f g ∙ ih.1 ∙ sym (or_no some))
    go true (inr h) ih =
        rw (le-ltb (beacons_at y i) 128 h, le-leb 128 (beacons_at y i) h) (omega (arith, ih.0), lt-ltb (f + 0) (g + 1) (omega (arith, ih.0)) ∙ sym (or_yes some))

pub spent_told : (s : List ℕ) (n sources : ℕ) → n ≡ left_below (yard_in s) 8 → sources ≡ get_or s 1 0 → ltb n (ones (sources % 256)) ≡ source_spent (yard_in s)
unfolding source_spent
spent_told s n sources e es = rw (e, es, ← (sets_in s).1, ← lanes_ones_256 (yard_in s).sources) (few_left (yard_in s) 8).1

-- ---- the call

-- what `call` promises: answer, state and air; number; count
abbrev Promised : calling.RollAnswer → Held → List ℕ → Held → List ℕ → Type 0
Promised r exit air' held air =
    (◌≡◌ {A = After calling.RollAnswer} (record { answer = r; held = exit; air = air' }) (calls_in held air))
    × ((roll_number r ≡ roll_refusal_in held air) × (roll_count r ≡ roll_count_in held air))

refused : (held : Held) (air : List ℕ) (number : ℕ) → 0 < number → roll_refusal_in held air ≡ number
    → Promised (calling.Refused number) held air held air
unfolding calls_in roll_count_in
refused held air number above e =
    let z : eqb number 0 ≡ false = ne_eqb number 0 (λ q. omega (arith, q)) in
    (rw (e, z), (sym e, rw (e, z)))

ran : (held exit : Held) (air air' : List ℕ) (n : ℕ) → roll_refusal_in held air ≡ 0
    → ◌≡◌ {A = After ℕ} (record { answer = n; held = exit; air = air' }) (ran_in (record { held = held; air = air }) (roll_steps_in held air))
    → Promised (calling.Called n) exit air' held air
unfolding calls_in roll_count_in ran_in
ran held exit air air' n e er = (
  rw e (ap (λ (x : After ℕ). record { answer = calling.Called x.answer; held = x.held; air = x.air }) er),
  (rw e, rw e (ap (λ (x : After ℕ). x.answer) er)),
)

module _ (s air : List ℕ) where
  -- a state of another length
  pub call_12 : (length s ≡ 4483 → ⊥) → Promised (calling.Refused 12) (held_in s) air (held_in s) air
  unfolding roll_refusal_in
  call_12 h = refused (held_in s) air 12 (omega arith) (rw (held_other s h))

  -- an air of another length
  pub call_13 : length s ≡ 4483 → (length air ≡ 65536 → ⊥) → Promised (calling.Refused 13) (held_in s) air (held_in s) air
  unfolding roll_refusal_in roll_refusal
  call_13 h bad = refused (held_in s) air 13 (omega arith) (rw (held_whole s h, ne_eqb (length air) 65536 bad))

  module _ (told : Bool) (h : length s ≡ 4483) (good : length air ≡ 65536) (es : told ≡ source_spent (yard_in s)) where
    -- some source has no beacon left
    pub call_27 : told ≡ true → Promised (calling.Refused 27) (held_in s) air (held_in s) air
    unfolding roll_refusal_in roll_refusal
    call_27 t = refused (held_in s) air 27 (omega arith) (rw (held_whole s h, eq-eqb (length air) 65536 good, ← es, t))

    -- then the list is run
    pub call_runs : (t exit : List ℕ) (n : ℕ) → told ≡ false → after n t exit ≡ ran_in (here_in s air) (roll_steps_in (held_in s) air)
        → Promised (calling.Called n) (held_in t) exit (held_in s) air
    unfolding roll_refusal_in roll_refusal
    call_runs t exit n f e = ran (held_in s) (held_in t) air exit n (rw (held_whole s h, eq-eqb (length air) 65536 good, ← es, f)) e
