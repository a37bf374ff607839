-- Order, hear and beacon on a state: any cells, any air, any arguments. Where what the posts know of their logs is so, the
-- steps are those of Singles.antt (specs/Sound.antt). A state of another length is refused by 12. Assumes nothing.
use Rattle.std.specs.Prelude.{ℕ, ◌+◌, cond, List, [], ◌∷◌, ltb, eqb, get_or, set}
use Rattle.air.specs.Air.{frames_with}
use Rattle.cells.specs.Tables.{order_place}
use Rattle.post.specs.declared.Post.{Post}
use Rattle.steps.specs.Steps.{beacon_step}
use Rattle.steps.specs.Knowing.{orders_by, hears_by}
use Rattle.steps.specs.OrderAnswer as orders
use Rattle.steps.specs.HearAnswer as hearings
use Rattle.steps.specs.BeaconAnswer as beaconing
use Rattle.state.specs.Yards.{Yard, post_at, beacons_at}
use Rattle.state.specs.Changed.{with_post, with_beacons}
use Rattle.yard.specs.Singles.{frames_after, stops_order, stops_hearing, frame_at, stops_beacon}
use Rattle.state.specs.States.{Held, whole, other, held_in}
use Rattle.yard.specs.Worlds.{Single, order, hear, beacon}

-- what a step answers, and what it leaves
pub record After (Answer : Type 0) : Type 0 where
  pub answer : Answer
  pub held : Held
  pub air : List ℕ

-- the same of a state and an air
abbrev pub after : {Answer : Type 0} → Answer → List ℕ → List ℕ → After Answer
after answer state air = record { answer = answer; held = held_in state; air = air }

-- ---- order: 4, 5, 12, 13, then 21 to 24 of the post's own step

-- y with another record of a lane, and so many frames on the air; where an order was broadcast, the number of its first frame is noted
abbrev pub with_order : Yard → ℕ → Post → ℕ → Yard
with_order y lane p frames = record {
  present = y.present;
  sources = y.sources;
  posts = set y.posts lane p;
  frames = frames;
  beacons = y.beacons;
  first = cond (ltb y.frames frames) (set y.first (order_place lane p.serial.0) y.frames) y.first;
}

unfoldable pub orders_in : Held → List ℕ → ℕ → ℕ → After orders.OrderAnswer
orders_in (other cells) air lane word = record {
  answer = orders.Refused (cond (ltb 7 lane) 4 (cond (ltb 65535 word) 5 12));
  held = other cells;
  air = air;
}
orders_in (whole y knowns) air lane word =
    let number = cond (ltb 7 lane) 4 (stops_order air word) in
    let s = orders_by (get_or knowns lane []) (post_at y lane) word in
    cond (eqb number 0)
    (record {
      answer = s.answer;
      held = whole (with_order y lane s.post (frames_after air y.frames s.frame)) (set knowns lane s.known);
      air = frames_with air y.frames s.frame;
    })
    (record { answer = orders.Refused number; held = whole y knowns; air = air })

-- ---- hear: 4, 12, 13, 21 and 25, what reading refuses, then 21, 24, 26 and 28 to 30 of the post's own step

unfoldable pub hears_in : Held → List ℕ → ℕ → ℕ → After hearings.HearAnswer
hears_in (other cells) air lane k = record { answer = hearings.Refused (cond (ltb 7 lane) 4 12); held = other cells; air = air }
hears_in (whole y knowns) air lane k =
    let number = cond (ltb 7 lane) 4 (stops_hearing air (post_at y lane) y.frames k) in
    let s = hears_by (get_or knowns lane []) (post_at y lane) (frame_at air k) in
    cond (eqb number 0)
    (record {
      answer = s.answer;
      held = whole (with_post y lane s.post (frames_after air y.frames s.frame)) (set knowns lane s.known);
      air = frames_with air y.frames s.frame;
    })
    (record { answer = hearings.Refused number; held = whole y knowns; air = air })

-- ---- beacon: 4, 12, 13, 21, 27

unfoldable pub beacons_in : Held → List ℕ → ℕ → After beaconing.BeaconAnswer
beacons_in (other cells) air lane = record { answer = beaconing.Refused (cond (ltb 7 lane) 4 12); held = other cells; air = air }
beacons_in (whole y knowns) air lane =
    let number = cond (ltb 7 lane) 4 (stops_beacon air (post_at y lane) (beacons_at y lane)) in
    let s = beacon_step (post_at y lane) in
    cond (eqb number 0)
    (record {
      answer = s.answer;
      held = whole (with_beacons y (frames_after air y.frames s.frame) (set y.beacons lane (beacons_at y lane + 1))) knowns;
      air = frames_with air y.frames s.frame;
    })
    (record { answer = beaconing.Refused number; held = whole y knowns; air = air })

-- ---- a list of single steps run one after another

-- what a state holds, and the bytes of the air
pub record Here : Type 0 where
  pub held : Held
  pub air : List ℕ

abbrev pub here_in : List ℕ → List ℕ → Here
here_in state air = record { held = held_in state; air = air }

-- "It gets the yard and the air that the step before left"
unfoldable pub single_in : Here → Single → Here
single_in h (order lane word) = let s = orders_in h.held h.air lane word in record { held = s.held; air = s.air }
single_in h (hear lane k) = let s = hears_in h.held h.air lane k in record { held = s.held; air = s.air }
single_in h (beacon lane) = let s = beacons_in h.held h.air lane in record { held = s.held; air = s.air }

-- a list of them
unfoldable pub singles_in : Here → List Single → Here
singles_in h [] = h
singles_in h (s ∷ l) = singles_in (single_in h s) l
