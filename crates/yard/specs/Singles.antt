-- Order, hear and beacon in a yard: document 01, "The four steps" and "Frames and the air". Each is total: any yard, any air. Assumes nothing.
use Rattle.std.specs.Prelude.{ℕ, ◌+◌, cond, List, ltb, eqb, set}
use Rattle.frame.specs.Layout.{frame_of}
use Rattle.frame.specs.Refusals.{read_refusal}
use Rattle.frame.specs.declared.Frame.{Frame}
use Rattle.air.specs.Air.{bad_air, not_on_air, stretch_at, place_refusal, frames_with}
use Rattle.cells.specs.Tables.{order_place}
use Rattle.post.specs.declared.Post.{Post}
use Rattle.steps.specs.Refusals.{not_in_yard}
use Rattle.steps.specs.Steps.{order_step, hear_step, beacon_step}
use Rattle.steps.specs.OrderAnswer as orders
use Rattle.steps.specs.HearAnswer as hearings
use Rattle.steps.specs.BeaconAnswer as beaconing
use Rattle.state.specs.Yards.{Yard, post_at, beacons_at, spent}
use Rattle.state.specs.Changed.{with_post, with_beacons}

-- "numbered from 0 as broadcast": a broadcast is the air's next frame. Where there is none (kind 0), or no room, nothing is written or counted.
unfoldable pub frames_after : List ℕ → ℕ → Frame → ℕ
frames_after air frames f = cond (eqb (place_refusal air frames f) 0) (frames + 1) frames

-- ---- what a step leaves: its answer, and the post and the count of frames, or the yard; a beacon leaves the post as it is

pub record PostOrdered : Type 0 where
  pub answer : orders.OrderAnswer
  pub post : Post
  pub frames : ℕ

pub record PostHeard : Type 0 where
  pub answer : hearings.HearAnswer
  pub post : Post
  pub frames : ℕ

pub record PostBeaconed : Type 0 where
  pub answer : beaconing.BeaconAnswer
  pub frames : ℕ
  pub beacons : ℕ

pub record YardOrdered : Type 0 where
  pub answer : orders.OrderAnswer
  pub yard : Yard

pub record YardHeard : Type 0 where
  pub answer : hearings.HearAnswer
  pub yard : Yard

pub record YardBeaconed : Type 0 where
  pub answer : beaconing.BeaconAnswer
  pub yard : Yard

-- ---- order: 4, 5, 13, then 21 to 24 of the post's own step

-- what stops it before the post judges it
abbrev pub stops_order : List ℕ → ℕ → ℕ
stops_order air word = cond (ltb 65535 word) 5 (cond (bad_air air) 13 0)

-- the post that orders, with its broadcast on the air
unfoldable pub post_orders : List ℕ → Post → ℕ → ℕ → PostOrdered
post_orders air p frames word =
    cond (eqb (stops_order air word) 0)
    (record {
      answer = (order_step p word).answer;
      post = (order_step p word).post;
      frames = frames_after air frames (order_step p word).frame;
    })
    (record { answer = orders.Refused (stops_order air word); post = p; frames = frames })

-- the air after it
unfoldable pub post_orders_air : List ℕ → Post → ℕ → ℕ → List ℕ
post_orders_air air p frames word = cond (eqb (stops_order air word) 0) (frames_with air frames (order_step p word).frame) air

-- the number of the first frame of each order: that of the broadcast that sends it
unfoldable pub first_after : Yard → ℕ → PostOrdered → List ℕ
first_after y lane s = cond (ltb y.frames s.frames) (set y.first (order_place lane s.post.serial.0) y.frames) y.first

-- the yard in which the post of a lane orders
unfoldable pub yard_orders : List ℕ → Yard → ℕ → ℕ → YardOrdered
yard_orders air y lane word =
    let s = post_orders air (post_at y lane) y.frames word in
    cond (ltb lane 8)
    (record {
      answer = s.answer;
      yard = record {
        present = y.present;
        sources = y.sources;
        posts = set y.posts lane s.post;
        frames = s.frames;
        beacons = y.beacons;
        first = first_after y lane s;
      };
    })
    (record { answer = orders.Refused 4; yard = y })

-- the air after it
unfoldable pub yard_orders_air : List ℕ → Yard → ℕ → ℕ → List ℕ
yard_orders_air air y lane word = cond (ltb lane 8) (post_orders_air air (post_at y lane) y.frames word) air

-- ---- hear: 4, 13, 21 and 25, what reading refuses (never in a yard), then 21, 24, 26 and 28 to 30 of the post's own step

-- 13, 21 or 25 where frame k is not on the air, or 0
abbrev pub absent_refusal : List ℕ → ℕ → ℕ → ℕ → ℕ → ℕ
absent_refusal air lane posts frames k = cond (bad_air air) 13 (cond (not_on_air frames k) (cond (not_in_yard posts lane) 21 25) 0)

-- what stops it before the post judges it: no air, no frame k, bytes that are no frame
abbrev pub stops_hearing : List ℕ → Post → ℕ → ℕ → ℕ
stops_hearing air p frames k =
    let absent = absent_refusal air p.lane p.posts frames k in
    cond (eqb absent 0) (read_refusal (stretch_at air k)) absent

-- the frame that it hears
abbrev pub frame_at : List ℕ → ℕ → Frame
frame_at air k = frame_of (stretch_at air k)

-- the post that hears frame k, with what it passes on the air
unfoldable pub post_hears : List ℕ → Post → ℕ → ℕ → PostHeard
post_hears air p frames k =
    cond (eqb (stops_hearing air p frames k) 0)
    (record {
      answer = (hear_step p (frame_at air k)).answer;
      post = (hear_step p (frame_at air k)).post;
      frames = frames_after air frames (hear_step p (frame_at air k)).frame;
    })
    (record { answer = hearings.Refused (stops_hearing air p frames k); post = p; frames = frames })

-- the air after it
unfoldable pub post_hears_air : List ℕ → Post → ℕ → ℕ → List ℕ
post_hears_air air p frames k = cond (eqb (stops_hearing air p frames k) 0) (frames_with air frames (hear_step p (frame_at air k)).frame) air

-- the yard in which the post of a lane hears
unfoldable pub yard_hears : List ℕ → Yard → ℕ → ℕ → YardHeard
yard_hears air y lane k =
    let s = post_hears air (post_at y lane) y.frames k in
    cond (ltb lane 8) (record { answer = s.answer; yard = with_post y lane s.post s.frames })
    (record { answer = hearings.Refused 4; yard = y })

-- the air after it
unfoldable pub yard_hears_air : List ℕ → Yard → ℕ → ℕ → List ℕ
yard_hears_air air y lane k = cond (ltb lane 8) (post_hears_air air (post_at y lane) y.frames k) air

-- ---- beacon: 4, 13, 21, 27 (K2, "Refusal 27 for a beacon now looks at that post only.")

-- what stops it before the post sends it, where the post has sent so many
abbrev pub stops_beacon : List ℕ → Post → ℕ → ℕ
stops_beacon air p beacons = cond (bad_air air) 13 (cond (not_in_yard p.posts p.lane) 21 (cond (spent beacons) 27 0))

-- the post that sends a beacon, with the beacon on the air; the post itself stays
unfoldable pub post_beacons : List ℕ → Post → ℕ → ℕ → PostBeaconed
post_beacons air p frames beacons =
    cond (eqb (stops_beacon air p beacons) 0)
    (record { answer = (beacon_step p).answer; frames = frames_after air frames (beacon_step p).frame; beacons = beacons + 1 })
    (record { answer = beaconing.Refused (stops_beacon air p beacons); frames = frames; beacons = beacons })

-- the air after it
unfoldable pub post_beacons_air : List ℕ → Post → ℕ → ℕ → List ℕ
post_beacons_air air p frames beacons = cond (eqb (stops_beacon air p beacons) 0) (frames_with air frames (beacon_step p).frame) air

-- the yard in which the post of a lane sends a beacon
unfoldable pub yard_beacons : List ℕ → Yard → ℕ → YardBeaconed
yard_beacons air y lane =
    let s = post_beacons air (post_at y lane) y.frames (beacons_at y lane) in
    cond (ltb lane 8) (record { answer = s.answer; yard = with_beacons y s.frames (set y.beacons lane s.beacons) })
    (record { answer = beaconing.Refused 4; yard = y })

-- the air after it
unfoldable pub yard_beacons_air : List ℕ → Yard → ℕ → List ℕ
yard_beacons_air air y lane = cond (ltb lane 8) (post_beacons_air air (post_at y lane) y.frames (beacons_at y lane)) air
