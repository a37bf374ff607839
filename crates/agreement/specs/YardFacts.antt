-- What else holds of every yard; `facts` in proofs/Theorem.antt proves it. Words in quotes are document 01's. Assumes nothing.
use Rattle.std.specs.Prelude.{◌≡◌, false, List, ℕ, ◌+◌, ◌<◌, ◌≤◌, get_or}
use Rattle.cells.specs.Tables.{order_place}
use Rattle.judge.specs.Judgement.{bad_record}
use Rattle.state.specs.Yards.{post_at, beacons_at, yard_refusal}
use Rattle.yard.specs.Singles.{frame_at}
use Rattle.yard.specs.Worlds.{World}
use Rattle.roll.specs.Runs.{Step, answer, step, run, Order, sent}
use Rattle.roll.specs.Answers.{answer_number}
use Rattle.roll.specs.Taken.{orders_taken, beacons_of_all}
use Rattle.laws.specs.Lists.{Mem}
use Rattle.agreement.specs.Demand3.{fresh_world}
use Rattle.agreement.specs.YardRefusals.{step_refusal}

-- "A serial counts one lane's own orders, 1 to 16": the orders sent by a lane have the serials 1 to its own serial
pub record Serials (w : World) (steps : List Step) (lane : ℕ) : Type 0 where
  pub few : (post_at (run w steps).yard lane).serial.0 ≤ 16
  pub only : (o : Order) → Mem o (sent w steps) → o.lane ≡ lane → (0 < o.serial) × (o.serial ≤ (post_at (run w steps).yard lane).serial.0)
  pub every : (n : ℕ) → 0 < n → n ≤ (post_at (run w steps).yard lane).serial.0
      → (o : Order) × Mem o (sent w steps) × (o.lane ≡ lane) × (o.serial ≡ n)

-- "the first frame of every order": frame k is that of o. It is on the air, carries o's four numbers, comes from o's own lane, and no frame
-- before it has an order of this lane and serial.
pub record FirstFrame (w : World) (o : Order) (k : ℕ) : Type 0 where
  pub on_air : k < w.yard.frames
  pub kind : (frame_at w.air k).kind ≡ 1
  pub of_lane : (frame_at w.air k).lane ≡ o.lane
  pub of_serial : (frame_at w.air k).serial.0 ≡ o.serial
  pub of_stamp : (frame_at w.air k).stamp.0 ≡ o.stamp
  pub of_word : (frame_at w.air k).word ≡ o.word
  pub sender : (frame_at w.air k).sender ≡ o.lane
  pub before : (j : ℕ) → j < k → (frame_at w.air j).kind ≡ 1 → (frame_at w.air j).lane ≡ o.lane → (frame_at w.air j).serial.0 ≡ o.serial → ⊥

-- ---- of a fresh world w, after every list of steps

pub record YardFacts (w : World) : Type 0 where
  -- "24 and 28–30 arise only at a post run singly, never in a yard": each answer's number is one of the yard's own, for its own reason
  pub refusals : (steps : List Step) (s : Step) → answer_number (answer (run w steps) s) ≡ step_refusal (run w steps) s
  -- "a refused step left both as they were", yard and air
  pub stays : (steps : List Step) (s : Step) → 0 < answer_number (answer (run w steps) s) → step (run w steps) s ≡ run w steps
  -- every broadcast is on the air, a frame for each order that a post has taken and for each beacon: the air, of 2,048 frames, never overflows
  pub frames : (steps : List Step) → (run w steps).yard.frames ≡ orders_taken (run w steps) + beacons_of_all (run w steps)
  -- "At most 1,024 order frames can arise (8 lanes, 16 orders, 8 posts) and 1,024 beacons are allowed": K2, each post has 128 of its own
  pub taken_bound : (steps : List Step) → orders_taken (run w steps) ≤ 1024
  pub post_bound : (steps : List Step) (lane : ℕ) → beacons_at (run w steps).yard lane ≤ 128
  pub beacon_bound : (steps : List Step) → beacons_of_all (run w steps) ≤ 1024
  pub serials : (steps : List Step) (lane : ℕ) → Serials w steps lane
  -- no record in a yard is refused by 12
  pub records : (steps : List Step) (lane : ℕ) → lane < 8 → bad_record (post_at (run w steps).yard lane) ≡ false
  -- of every order as it was sent, what the yard keeps as the number of its first frame is that number
  pub firsts : (steps : List Step) (o : Order) → Mem o (sent w steps)
      → FirstFrame (run w steps) o (get_or (run w steps).yard.first (order_place o.lane o.serial) 0)

-- for every fresh yard that is not refused, its sets being of eight bits, and every air, of any bytes and any length
abbrev pub Facts : Type 0
Facts = (present sources dests : ℕ) (air : List ℕ) → present < 256 → sources < 256 → dests < 256 → yard_refusal present sources dests ≡ 0
    → YardFacts (fresh_world present sources dests air)
