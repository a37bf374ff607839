-- The bench's yards and lists of steps, and what is compared of them. Assumes nothing.
use Rattle.std.specs.Prelude.{ℕ, zero, suc, ◌≡◌, List, [], ◌∷◌, ◌++◌, map, replicate}
use Rattle.steps.specs.OrderAnswer as orders
use Rattle.steps.specs.HearAnswer as hearings
use Rattle.steps.specs.BeaconAnswer as beaconing
use Rattle.state.specs.Yards.{Yard, post_at, fresh_yard}
use Rattle.yard.specs.Worlds.{World, order, hear}
use Rattle.roll.specs.RollAnswer as calling
use Rattle.roll.specs.Runs.{Step, one, Answer, ordered, heard, beaconed, called, answer, step, Order}
use Rattle.roll.specs.Logs.{log_at}

-- ---- what is compared

-- what each step of a list answers
unfoldable pub answers : World → List Step → List Answer
answers w [] = []
answers w (s ∷ l) = answer w s ∷ answers (step w s) l

-- what the printout says of a post: `(clock ..)`, `(sent ..)`, `(log ..)`
pub record Line : Type 0 where
  pub clock : ℕ
  pub sent : ℕ
  pub log : List Order

abbrev pub line_of : World → ℕ → Line
line_of w lane = record { clock = (post_at w.yard lane).clock.0; sent = (post_at w.yard lane).serial.0; log = log_at w lane }

-- the lines of the posts on these lanes
abbrev pub post_lines : World → List ℕ → List Line
post_lines w lanes = map (line_of w) lanes

-- "A refusal yields only its number; post, yard, air .. keep their contents."
abbrev pub Refuses : World → Step → Answer → Type 0
Refuses w s a = (answer w s ≡ a) × (step w s ≡ w)

-- ---- values as the cases write them

abbrev pub line : ℕ → ℕ → List Order → Line
line clock sent log = record { clock = clock; sent = sent; log = log }

-- "An order is (lane, serial, stamp, word)"
abbrev pub the_order : ℕ → ℕ → ℕ → ℕ → Order
the_order lane serial stamp word = record { lane = lane; serial = serial; stamp = stamp; word = word }

-- "An order answers with its serial, its stamp and the count delivered"
abbrev pub sends : ℕ → ℕ → ℕ → Answer
sends serial stamp count = ordered (orders.Sent (record { 0 = serial }) (record { 0 = stamp }) count)

-- "taken, again, early, beacon, each carrying the count delivered"
abbrev pub takes : ℕ → Answer
takes count = heard (hearings.Taken count)

abbrev pub hears_again : ℕ → Answer
hears_again count = heard (hearings.Again count)

abbrev pub hears_early : ℕ → Answer
hears_early count = heard (hearings.Early count)

-- "a beacon with no more than sent"
abbrev pub beacon_sent : Answer
beacon_sent = beaconed beaconing.Sent

-- a roll call "returns the length of the list"
abbrev pub calls : ℕ → Answer
calls steps = called (calling.Called steps)

-- the refusals
abbrev pub order_refused : ℕ → Answer
order_refused number = ordered (orders.Refused number)

abbrev pub hear_refused : ℕ → Answer
hear_refused number = heard (hearings.Refused number)

abbrev pub beacon_refused : ℕ → Answer
beacon_refused number = beaconed (beaconing.Refused number)

abbrev pub call_refused : ℕ → Answer
call_refused number = called (calling.Refused number)

-- ---- the yards

-- a yard, and an air of this many zero bytes
abbrev pub fresh_with : ℕ → Yard → World
fresh_with bytes yard = record { yard = yard; air = replicate bytes 0 }

-- `(yard (0 both) (1 source) (2 dest))`, `(yard (0 both))`, `(yard (0 relay))` and `(yard (0 both) (1 both))`
abbrev pub three : World
three = fresh_with 65536 (fresh_yard 0b111 0b011 0b101)

abbrev pub alone : World
alone = fresh_with 65536 (fresh_yard 0b1 0b1 0b1)

abbrev pub relay_alone : World
relay_alone = fresh_with 65536 (fresh_yard 0b1 0b0 0b0)

abbrev pub two : World
two = fresh_with 65536 (fresh_yard 0b11 0b11 0b11)

-- the first with an air of another length
abbrev pub air_of : ℕ → World
air_of bytes = fresh_with bytes (fresh_yard 0b111 0b011 0b101)

-- ---- the lists of steps

-- line 2 of the printed script, and lines 2 to 4
abbrev pub began : List Step
began = one (order 0 417) ∷ []

abbrev pub to_line4 : List Step
to_line4 = one (order 0 417) ∷ one (hear 1 0) ∷ one (order 1 90) ∷ []

-- lines 2 to 6, and 2 to 7
abbrev pub to_line6 : List Step
to_line6 = to_line4 ++ (one (hear 2 1) ∷ one (hear 0 2) ∷ [])

abbrev pub to_line7 : List Step
to_line7 = to_line6 ++ (one (hear 2 9) ∷ [])

-- the two orders of that script
abbrev pub order417 : Order
order417 = the_order 0 1 1 417

abbrev pub order90 : Order
order90 = the_order 1 1 3 90

-- lane 0 sends two orders, as frames 0 and 1
abbrev pub two_orders : List Step
two_orders = one (order 0 417) ∷ one (order 0 418) ∷ []

-- lane 0 sends this many orders, of words 1, 2, 3 and so on
unfoldable pub orders_sent_by0 : ℕ → List Step
orders_sent_by0 zero = []
orders_sent_by0 (suc n) = orders_sent_by0 n ++ (one (order 0 (suc n)) ∷ [])

-- a step this many times
unfoldable pub repeated : ℕ → Step → List Step
repeated zero s = []
repeated (suc n) s = s ∷ repeated n s
