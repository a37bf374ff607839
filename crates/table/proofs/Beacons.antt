-- A post that has sent some hundred beacons, by beacon steps or by roll calls: the last that pass, and what is refused then. So many steps
-- are too long to compute: what they leave is told by induction. Assumes nothing.
use Prim.Native.Nat.{ℕ, zero, suc, ◌+◌, ◌<◌, ◌≤◌}
use mathlib.Core.Path.{◌≡◌, refl, ap, ◌∙◌}
use mathlib.Core.List.{List, ◌∷◌}
use native.Mathlib.Omega.{arith}
use lib.ListN.{length, set}
use borrow.Author.Tests.{lt-leb}
use Rattle.frame.specs.declared.Frame.{Frame}
use Rattle.frame.specs.Lanes.{any_below}
use Rattle.air.specs.Air.{frames_with}
use Rattle.air.proofs.Stretches.{length_stays}
use Rattle.post.specs.Newest.{beacon_frame}
use Rattle.post.specs.Record.{fresh_post}
use Rattle.steps.specs.Steps.{beacon_step}
use Rattle.state.specs.Yards.{Yard, fresh_yard}
use Rattle.state.specs.Changed.{with_beacons}
use Rattle.yard.specs.Singles.{frames_after, post_beacons, post_beacons_air, yard_beacons, yard_beacons_air}
use Rattle.yard.specs.Worlds.{World, beacon, single, singles}
use Rattle.roll.specs.RollCall.{lane_hears, lanes_hears, posts_hear, beacons_sent, beacons_heard, posts_hear_beacons, roll_steps, source_spent, roll_refusal, roll_call, roll_call_air}
use Rattle.roll.specs.Runs.{Step, one, roll, answer, step, run}
use Rattle.table.specs.Scripts.{Refuses, beacon_sent, beacon_refused, calls, call_refused, three, alone, relay_alone, repeated}

-- a yard whose post of a lane has sent n beacons, with some frames on the air, and any air
abbrev sent_so_far : Yard → ℕ → List ℕ → ℕ → ℕ → World
sent_so_far y lane air frames n = record { yard = with_beacons y frames (set y.beacons lane n); air = air }

-- such a yard, whose air is whole
record Counted (y : Yard) (lane : ℕ) (w : World) (n : ℕ) : Type 0 where
  pub the_air : List ℕ
  pub the_frames : ℕ
  pub whole : length the_air ≡ 65536
  pub is : w ≡ sent_so_far y lane the_air the_frames n

-- a step that broadcasts f there, one beacon more, as long as there are fewer than 128
abbrev Adds : Yard → ℕ → Frame → Step → Type 0
Adds y lane f s = (air : List ℕ) (frames n : ℕ) → length air ≡ 65536 → n < 128
    → step (sent_so_far y lane air frames n) s ≡ sent_so_far y lane (frames_with air frames f) (frames_after air frames f) (n + 1)

-- ---- such a step many times

module _ (y : Yard) (lane : ℕ) (f : Frame) (s : Step) (adds : Adds y lane f s) where
  -- it and n more
  onward : (n m k frames : ℕ) (air : List ℕ) → length air ≡ 65536 → m < 128
      → Counted y lane (run (sent_so_far y lane (frames_with air frames f) (frames_after air frames f) (m + 1)) (repeated n s)) k
      → Counted y lane (run (sent_so_far y lane air frames m) (s ∷ repeated n s)) k
  unfolding run
  onward n m k frames air whole l later = record {
    the_air = later.the_air;
    the_frames = later.the_frames;
    whole = later.whole;
    is = ap (λ (w : World). run w (repeated n s)) (adds air frames m whole l) ∙ later.is;
  }

  counted : (n m k frames : ℕ) (air : List ℕ) → length air ≡ 65536 → m + n ≡ k → k ≤ 128 → Counted y lane (run (sent_so_far y lane air frames m) (repeated n s)) k
  unfolding run repeated
  counted zero m k frames air whole e l = record { the_air = air; the_frames = frames; whole = whole; is = ap (sent_so_far y lane air frames) (omega arith) }
  counted (suc n) m k frames air whole e l =
      let later = counted n (m + 1) k (frames_after air frames f) (frames_with air frames f) (length_stays air frames f ∙ whole) (omega arith) l in
      onward n m k frames air whole (omega arith) later

-- one more at the end
run_more : (w : World) (n : ℕ) (s : Step) → run w (repeated (suc n) s) ≡ step (run w (repeated n s)) s
unfolding run repeated
run_more w zero s = refl
run_more w (suc n) s = run_more (step w s) n s

-- ---- the yard `three`, its lane 0 or 2 sending

abbrev three_yard : Yard
three_yard = three.yard

by_0 : Adds three_yard 0 (beacon_frame (fresh_post 0 0b111 0b011 0b101)) (one (beacon 0))
unfolding fresh_yard step single yard_beacons yard_beacons_air post_beacons post_beacons_air beacon_step
by_0 air frames n whole l = rw (whole, lt-leb 128 n l) refl

by_2 : Adds three_yard 2 (beacon_frame (fresh_post 2 0b111 0b011 0b101)) (one (beacon 2))
unfolding fresh_yard step single yard_beacons yard_beacons_air post_beacons post_beacons_air beacon_step
by_2 air frames n whole l = rw (whole, lt-leb 128 n l) refl

after_0 : (n : ℕ) → n ≤ 128 → Counted three_yard 0 (run three (repeated n (one (beacon 0)))) n
unfolding fresh_yard
after_0 n l = counted three_yard 0 (beacon_frame (fresh_post 0 0b111 0b011 0b101)) (one (beacon 0)) by_0 n 0 n 0 three.air refl (omega arith) l

after_2 : (n : ℕ) → n ≤ 128 → Counted three_yard 2 (run three (repeated n (one (beacon 2)))) n
unfolding fresh_yard
after_2 n l = counted three_yard 2 (beacon_frame (fresh_post 2 0b111 0b011 0b101)) (one (beacon 2)) by_2 n 0 n 0 three.air refl (omega arith) l

module _ (air : List ℕ) (frames : ℕ) (whole : length air ≡ 65536) where
  passes : answer (sent_so_far three_yard 0 air frames 127) (one (beacon 0)) ≡ beacon_sent
  unfolding fresh_yard answer yard_beacons post_beacons beacon_step
  passes = rw whole refl

  spent : Refuses (sent_so_far three_yard 0 air frames 128) (one (beacon 0)) (beacon_refused 27)
  unfolding fresh_yard answer step single yard_beacons yard_beacons_air post_beacons post_beacons_air
  spent = rw whole (refl, refl)

  -- another lane has all its beacons
  other_passes : answer (sent_so_far three_yard 0 air frames 128) (one (beacon 1)) ≡ beacon_sent
  unfolding fresh_yard answer yard_beacons post_beacons beacon_step
  other_passes = rw whole refl

  -- a roll call where the source on lane 0 has one left, and none; where the destination on lane 2 has none
  one_left : answer (sent_so_far three_yard 0 air frames 127) roll ≡ calls 6
  unfolding fresh_yard answer lane_hears lanes_hears posts_hear beacons_sent beacons_heard posts_hear_beacons roll_steps source_spent any_below roll_refusal roll_call
  one_left = rw whole refl

  none_left : Refuses (sent_so_far three_yard 0 air frames 128) roll (call_refused 27)
  unfolding fresh_yard answer step source_spent any_below roll_refusal roll_call roll_call_air
  none_left = rw whole (refl, refl)

  no_source_spent : answer (sent_so_far three_yard 2 air frames 128) roll ≡ calls 6
  unfolding fresh_yard answer lane_hears lanes_hears posts_hear beacons_sent beacons_heard posts_hear_beacons roll_steps source_spent any_below roll_refusal roll_call
  no_source_spent = rw whole refl

pub beacon_128_passes : answer (run three (repeated 127 (one (beacon 0)))) (one (beacon 0)) ≡ beacon_sent
beacon_128_passes = let c = after_0 127 (omega arith) in rw c.is (passes c.the_air c.the_frames c.whole)

pub beacon_129_refused : Refuses (run three (repeated 128 (one (beacon 0)))) (one (beacon 0)) (beacon_refused 27)
beacon_129_refused = let c = after_0 128 (omega arith) in rw c.is (spent c.the_air c.the_frames c.whole)

-- as many more as there are, each refused
refused_more : (k : ℕ) → run three (repeated (k + 128) (one (beacon 0))) ≡ run three (repeated 128 (one (beacon 0)))
refused_more zero = refl
refused_more (suc k) =
    let e : suc k + 128 ≡ suc (k + 128) = omega arith in
    let s = one (beacon 0) in
    rw e (run_more three (k + 128) s ∙ ap (λ (w : World). step w s) (refused_more k) ∙ beacon_129_refused.1)

pub lane_1_granted : (k : ℕ) → answer (run three (repeated (k + 128) (one (beacon 0)))) (one (beacon 1)) ≡ beacon_sent
lane_1_granted k = let c = after_0 128 (omega arith) in rw (refused_more k, c.is) (other_passes c.the_air c.the_frames c.whole)

pub roll_passes : answer (run three (repeated 127 (one (beacon 0)))) roll ≡ calls 6
roll_passes = let c = after_0 127 (omega arith) in rw c.is (one_left c.the_air c.the_frames c.whole)

pub roll_refused_lem : Refuses (run three (repeated 128 (one (beacon 0)))) roll (call_refused 27)
roll_refused_lem = let c = after_0 128 (omega arith) in rw c.is (none_left c.the_air c.the_frames c.whole)

pub dest_spent : answer (run three (repeated 128 (one (beacon 2)))) roll ≡ calls 6
dest_spent = let c = after_2 128 (omega arith) in rw c.is (no_source_spent c.the_air c.the_frames c.whole)

-- ---- a relay alone, and a source alone, whose roll calls send one beacon each

abbrev relay_yard : Yard
relay_yard = relay_alone.yard

abbrev alone_yard : Yard
alone_yard = alone.yard

by_relay : Adds relay_yard 0 (beacon_frame (fresh_post 0 0b1 0b0 0b0)) (one (beacon 0))
unfolding fresh_yard step single yard_beacons yard_beacons_air post_beacons post_beacons_air beacon_step
by_relay air frames n whole l = rw (whole, lt-leb 128 n l) refl

by_roll : Adds alone_yard 0 (beacon_frame (fresh_post 0 0b1 0b1 0b1)) roll
unfolding fresh_yard step single singles yard_beacons yard_beacons_air post_beacons post_beacons_air beacon_step lane_hears lanes_hears posts_hear beacons_sent beacons_heard posts_hear_beacons roll_steps source_spent any_below roll_refusal roll_call roll_call_air
by_roll air frames n whole l = rw (whole, lt-leb 128 n l) refl

after_relay : (n : ℕ) → n ≤ 128 → Counted relay_yard 0 (run relay_alone (repeated n (one (beacon 0)))) n
unfolding fresh_yard
after_relay n l = counted relay_yard 0 (beacon_frame (fresh_post 0 0b1 0b0 0b0)) (one (beacon 0)) by_relay n 0 n 0 relay_alone.air refl (omega arith) l

after_rolls : (n : ℕ) → n ≤ 128 → Counted alone_yard 0 (run alone (repeated n roll)) n
unfolding fresh_yard
after_rolls n l = counted alone_yard 0 (beacon_frame (fresh_post 0 0b1 0b1 0b1)) roll by_roll n 0 n 0 alone.air refl (omega arith) l

module _ (air : List ℕ) (frames : ℕ) (whole : length air ≡ 65536) where
  relay_calls : answer (sent_so_far relay_yard 0 air frames 128) roll ≡ calls 0
  unfolding fresh_yard answer lane_hears lanes_hears posts_hear beacons_sent beacons_heard posts_hear_beacons roll_steps source_spent any_below roll_refusal roll_call
  relay_calls = rw whole refl

  alone_calls : answer (sent_so_far alone_yard 0 air frames 127) roll ≡ calls 1
  unfolding fresh_yard answer lane_hears lanes_hears posts_hear beacons_sent beacons_heard posts_hear_beacons roll_steps source_spent any_below roll_refusal roll_call
  alone_calls = rw whole refl

  alone_refused : Refuses (sent_so_far alone_yard 0 air frames 128) roll (call_refused 27)
  unfolding fresh_yard answer step source_spent any_below roll_refusal roll_call roll_call_air
  alone_refused = rw whole (refl, refl)

  alone_spent : Refuses (sent_so_far alone_yard 0 air frames 128) (one (beacon 0)) (beacon_refused 27)
  unfolding fresh_yard answer step single yard_beacons yard_beacons_air post_beacons post_beacons_air
  alone_spent = rw whole (refl, refl)

pub no_source_lem : answer (run relay_alone (repeated 128 (one (beacon 0)))) roll ≡ calls 0
no_source_lem = let c = after_relay 128 (omega arith) in rw c.is (relay_calls c.the_air c.the_frames c.whole)

pub roll_128_passes : answer (run alone (repeated 127 roll)) roll ≡ calls 1
roll_128_passes = let c = after_rolls 127 (omega arith) in rw c.is (alone_calls c.the_air c.the_frames c.whole)

pub roll_129_refused : Refuses (run alone (repeated 128 roll)) roll (call_refused 27)
roll_129_refused = let c = after_rolls 128 (omega arith) in rw c.is (alone_refused c.the_air c.the_frames c.whole)

pub beacon_refused_lem : Refuses (run alone (repeated 128 roll)) (one (beacon 0)) (beacon_refused 27)
beacon_refused_lem = let c = after_rolls 128 (omega arith) in rw c.is (alone_spent c.the_air c.the_frames c.whole)
