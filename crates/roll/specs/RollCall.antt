-- The roll call as the list of single steps that it runs: document 01, "Roll call". Assumes nothing.
use Rattle.std.specs.Prelude.{ℕ, zero, suc, ◌+◌, Bool, cond, not, ◌&&◌, List, [], ◌∷◌, ◌++◌, eqb, length, get_or}
use Rattle.frame.specs.Lanes.{any_below}
use Rattle.air.specs.Air.{bad_air}
use Rattle.cells.specs.Sets.{has_lane}
use Rattle.cells.specs.Tables.{order_place}
use Rattle.state.specs.Yards.{Yard, post_at, beacons_at, spent}
use Rattle.yard.specs.Worlds.{World, Single, hear, beacon, singles}
use Rattle.roll.specs.RollAnswer as calling

-- ---- "For each post in rising lane order: hear the first frame of every order of the other lanes, lane by lane, serials rising."

-- post p hears serials 1 to n of lane q
unfoldable pub lane_hears : List ℕ → ℕ → ℕ → ℕ → List Single
lane_hears first p q zero = []
lane_hears first p q (suc n) = lane_hears first p q n ++ (hear p (get_or first (order_place q (suc n)) 0) ∷ [])

-- those of the other lanes below k, as many as each has sent
unfoldable pub lanes_hears : Yard → ℕ → ℕ → List Single
lanes_hears y p zero = []
lanes_hears y p (suc q) = lanes_hears y p q ++ cond (eqb q p) [] (lane_hears y.first p q (post_at y q).serial.0)

-- the posts below k
unfoldable pub posts_hear : Yard → ℕ → List Single
posts_hear y zero = []
posts_hear y (suc p) = posts_hear y p ++ cond (has_lane y.present p) (lanes_hears y p 8) []

-- ---- "Then each source in rising order sends a beacon."

-- the sources below k
unfoldable pub beacons_sent : ℕ → ℕ → List Single
beacons_sent sources zero = []
beacons_sent sources (suc i) = beacons_sent sources i ++ cond (has_lane sources i) (beacon i ∷ []) []

-- ---- "Then each post in rising order hears those beacons except its own."

-- how many sources stand below lane i: with `from` frames on the air, the beacon of source i is frame from + that
unfoldable pub sources_below : ℕ → ℕ → ℕ
sources_below sources zero = 0
sources_below sources (suc i) = sources_below sources i + cond (has_lane sources i) 1 0

-- post p hears the beacons of the sources below k
unfoldable pub beacons_heard : ℕ → ℕ → ℕ → ℕ → List Single
beacons_heard sources from p zero = []
beacons_heard sources from p (suc i) =
    beacons_heard sources from p i ++ cond (has_lane sources i && not (eqb i p)) (hear p (from + sources_below sources i) ∷ []) []

-- the posts below k
unfoldable pub posts_hear_beacons : ℕ → ℕ → ℕ → ℕ → List Single
posts_hear_beacons present sources from zero = []
posts_hear_beacons present sources from (suc p) =
    posts_hear_beacons present sources from p ++ cond (has_lane present p) (beacons_heard sources from p 8) []

-- ---- the call

-- the list, in the world that it finds: the beacons' frames follow those of the hearings
unfoldable pub roll_steps : World → List Single
roll_steps w =
    let hearings = posts_hear w.yard 8 in
    let from = (singles w hearings).yard.frames in
    hearings ++ (beacons_sent w.yard.sources 8 ++ posts_hear_beacons w.yard.present w.yard.sources from 8)

-- "some source has none left": only the sources are asked, a *relay* or *dest* may have none left
unfoldable pub source_spent : Yard → Bool
source_spent y = any_below (λ (i : ℕ). has_lane y.sources i && spent (beacons_at y i)) 8

-- 13; 27: K2, "A roll call is refused with 27 when some source has none left."
unfoldable pub roll_refusal : World → ℕ
roll_refusal w =
    cond (bad_air w.air) 13
    (cond (source_spent w.yard) 27
    0)

-- what a roll call answers, and the yard after it
pub record RollCalled : Type 0 where
  pub answer : calling.RollAnswer
  pub yard : Yard

-- "It does what this list of single steps does, run one after another, and returns the length of the list"
unfoldable pub roll_call : World → RollCalled
roll_call w =
    cond (eqb (roll_refusal w) 0)
    (record { answer = calling.Called (length (roll_steps w)); yard = (singles w (roll_steps w)).yard })
    (record { answer = calling.Refused (roll_refusal w); yard = w.yard })

-- the air after it
unfoldable pub roll_call_air : World → List ℕ
roll_call_air w = cond (eqb (roll_refusal w) 0) (singles w (roll_steps w)).air w.air
