-- A list of steps, roll calls among them, and what it answers: document 01, "The words of demand 3". Assumes nothing.
use Rattle.std.specs.Prelude.{ℕ, List, [], ◌∷◌, ◌++◌}
use Rattle.steps.specs.OrderAnswer as orders
use Rattle.steps.specs.HearAnswer as hearings
use Rattle.steps.specs.BeaconAnswer as beaconing
use Rattle.yard.specs.Singles.{yard_orders, yard_hears, yard_beacons}
use Rattle.yard.specs.Worlds.{World, Single, order, hear, beacon, single}
use Rattle.roll.specs.RollCall.{roll_call, roll_call_air}
use Rattle.roll.specs.RollAnswer as calling

-- "A step of the list is an order, a beacon, a hear or a roll call with any arguments."
pub data Step : Type 0 where
  one : Single → Step
  roll : Step

-- an answer to a step: that of its kind
pub data Answer : Type 0 where
  ordered : orders.OrderAnswer → Answer
  heard : hearings.HearAnswer → Answer
  beaconed : beaconing.BeaconAnswer → Answer
  called : calling.RollAnswer → Answer

-- what a step answers
unfoldable pub answer : World → Step → Answer
answer w (one (order lane word)) = ordered (yard_orders w.air w.yard lane word).answer
answer w (one (hear lane k)) = heard (yard_hears w.air w.yard lane k).answer
answer w (one (beacon lane)) = beaconed (yard_beacons w.air w.yard lane).answer
answer w roll = called (roll_call w).answer

-- what it leaves
unfoldable pub step : World → Step → World
step w (one s) = single w s
step w roll = record { yard = (roll_call w).yard; air = roll_call_air w }

-- "It gets the yard and the air that the step before left"
unfoldable pub run : World → List Step → World
run w [] = w
run w (s ∷ l) = run (step w s) l

-- "An order is (lane, serial, stamp, word)"
pub record Order : Type 0 where
  pub lane : ℕ
  pub serial : ℕ
  pub stamp : ℕ
  pub word : ℕ

-- "An order is sent by an order step that is not refused. Its lane and word are that step's arguments, its serial and stamp are in that step's answer."
unfoldable pub order_sent_by : ℕ → ℕ → orders.OrderAnswer → List Order
order_sent_by lane word (orders.Sent serial stamp count) = record { lane = lane; serial = serial.0; stamp = stamp.0; word = word } ∷ []
order_sent_by lane word (orders.Refused number) = []

-- the order that a step sends, if any: only an order step sends one
unfoldable pub sent_by : World → Step → List Order
sent_by w (one (order lane word)) = order_sent_by lane word (yard_orders w.air w.yard lane word).answer
sent_by w (one (hear lane k)) = []
sent_by w (one (beacon lane)) = []
sent_by w roll = []

-- all orders sent by a list of steps, in the order of sending
unfoldable pub sent : World → List Step → List Order
sent w [] = []
sent w (s ∷ l) = sent_by w s ++ sent (step w s) l
