-- What one line prints, sends and takes of the script, compared. Assumes nothing.
use Prim.Native.Nat.{ℕ, ◌+◌, ◌*◌, ◌<◌, ◌≤◌, min}
use mathlib.Core.Path.{◌≡◌, refl, ◌∙◌}
use mathlib.Core.Bool.{Bool, true, false, cond}
use mathlib.Core.List.{List, [], ◌∷◌, ◌++◌}
use mathlib.Core.Logic.{◌⊎◌, inl, inr, ◌≢◌}
use native.Mathlib.Omega.{arith}
use lib.Dec.{eqb}
use lib.ListN.{length}
use Rattle.text.specs.Decimal.{decimal}
use Rattle.lines.specs.Line.{Line, Yard, Order, Hear, Beacon, Roll, Refused}
use Rattle.steps.specs.OrderAnswer as orders
use Rattle.steps.specs.Answers.{order_number}
use Rattle.state.specs.Yards.{beacons_at}
use Rattle.yard.specs.Singles.{yard_orders}
use Rattle.yard.specs.Worlds.{World, order, hear, beacon}
use Rattle.roll.specs.RollCall.{roll_refusal}
use Rattle.roll.specs.Runs.{Step, one, roll, answer, step, run, order_sent_by, sent_by, sent}
use Rattle.roll.specs.Runs as runs
use Rattle.roll.specs.Answers.{answer_number}
use Rattle.meaning.specs.Script.{step_of, refusal_of}
use Rattle.laws.proofs.TestLaws.{same_or_not, below_or_not}
use Rattle.scan.proofs.Decimal.{at_most_5}
use Rattle.fits.proofs.TextLengths.{printed, printed_none, printed_19, printed_18, printed_17}
use Rattle.fits.proofs.ItemLengths.{items_most}
use Rattle.fits.proofs.Beacons.{Sends, single_sends, beacon_refused_none, roll_number_lem, refused_none, roll_sends}
use Rattle.fits.proofs.LineLengths.{least}

-- a line that follows line n prints p bytes, takes c bytes of the script, sends the orders o and leaves v for w; counted are the beacons of lane q
-- Seven times: a roll call's line takes 7 bytes, and refused it prints 18, or 17 up to line 999; 56 is 7 for each of eight logs. An order that is
-- sent allows for 559 beside its bytes, and an accepted roll call's seven bytes allow for a beacon of lane q, counted 112.
pub record Counted (q : ℕ) (w v : World) (n p c : ℕ) (o : List runs.Order) : Type 0 where
  pub few : p ≤ 19
  pub beacons_stay : beacons_at w.yard q ≤ beacons_at v.yard q
  pub sum : 7 * p + 56 * items_most o + 112 * beacons_at v.yard q + 7 * min (n + 1) 999
      ≤ 18 * c + 559 * length o + 112 * beacons_at w.yard q + 7 * min n 999

-- so many beacons has a source sent where a roll call is refused
abbrev pub spent_from : ℕ
spent_from = 128

-- a lane that has sent so many
abbrev pub SomeSpent : World → Type 0
SomeSpent v = (q : ℕ) × (spent_from ≤ beacons_at v.yard q)

-- as long as there is none
abbrev pub UnlessSpent : World → ℕ → ℕ → List runs.Order → Type 0
UnlessSpent v p c o = SomeSpent v ⊎ (7 * p + 56 * items_most o ≤ 12 * c + 648 * length o)

-- a line without a step
no_step_lem : (q : ℕ) (w : World) (n c : ℕ) → 1 ≤ c → Counted q w w n 0 c []
unfolding items_most
no_step_lem q w n c h = record { few = omega arith; beacons_stay = omega arith; sum = omega arith }

-- a lane is another or not
at_most_one : (b : Bool) → ◌≤◌ (cond {A = ℕ} b 1 0) 1
at_most_one true = omega arith
at_most_one false = omega arith

-- an order is sent, or none
OrderSent : ℕ → ℕ → List runs.Order → Type 0
OrderSent number word o = ((number ≡ 0) × (length o ≡ 1) × (items_most o ≡ 10 + length (decimal word))) ⊎ ((length o ≡ 0) × (items_most o ≡ 0))

-- by what the step answers
order_sent_lem : (lane word : ℕ) (a : orders.OrderAnswer) → OrderSent (order_number a) word (order_sent_by lane word a ++ [])
unfolding order_sent_by OrderSent items_most
order_sent_lem lane word (orders.Sent serial stamp count) = inl (refl, refl, omega arith)
order_sent_lem lane word (orders.Refused number) = inr (refl, refl)

module _ (w : World) (n : ℕ) (low : n + 1 < 10000) (small : (s : Step) → answer_number (answer w s) < 100) where
  -- what the line of a step prints
  abbrev prints : Step → ℕ
  prints s = length (printed (n + 1) (answer_number (answer w s)))

  -- 18 bytes, or 17 while the line numbers have three digits
  line_bytes : (s : Step) → 7 * prints s + 7 * min (n + 1) 999 ≤ 126 + 7 * min n 999
  line_bytes s = go (below_or_not (n + 1) 1000)
    where
      go : (n + 1 < 1000) ⊎ (1000 ≤ n + 1) → 7 * prints s + 7 * min (n + 1) 999 ≤ 126 + 7 * min n 999
      go (inl l) = omega (arith, printed_17 (n + 1) (answer_number (answer w s)) (small s) l)
      go (inr l) = omega (arith, printed_18 (n + 1) (answer_number (answer w s)) (small s) low)

  -- never more than 19
  line_few : (s : Step) → prints s ≤ 19
  line_few s = printed_19 (n + 1) (answer_number (answer w s)) (small s)

  -- 18, as line numbers have four digits at most
  line_18 : (s : Step) → prints s ≤ 18
  line_18 s = printed_18 (n + 1) (answer_number (answer w s)) (small s) low

  -- nothing where the step is not refused
  line_none : (s : Step) → answer_number (answer w s) ≡ 0 → prints s ≡ 0
  line_none s z = printed_none (n + 1) (answer_number (answer w s)) z

  -- ---- an order

  -- the step of an order line
  sent_or_not : (lane word : ℕ) → OrderSent (answer_number (answer w (one (order lane word)))) word (sent w (one (order lane word) ∷ []))
  unfolding sent sent_by answer
  sent_or_not lane word = order_sent_lem lane word (yard_orders w.air w.yard lane word).answer

  -- refused, or sent with a word of five digits at most
  order_counted : (q lane word : ℕ)
      → Counted q w (step w (one (order lane word))) n (prints (one (order lane word))) (11 + length (decimal word)) (sent w (one (order lane word) ∷ []))
  unfolding step OrderSent
  order_counted q lane word = go (sent_or_not lane word)
    where
      s : Step
      s = one (order lane word)

      b : Sends q w (step w s) 0
      b = single_sends q w (order lane word)

      go : OrderSent (answer_number (answer w s)) word (sent w (s ∷ []))
          → Counted q w (step w s) n (prints s) (11 + length (decimal word)) (sent w (s ∷ []))
      go (inl e) = record {
        few = line_few s;
        beacons_stay = b.0;
        sum = omega (arith, b.1, e.1, e.2, line_none s e.0, at_most_5 word);
      }
      go (inr e) = record { few = line_few s; beacons_stay = b.0; sum = omega (arith, b.1, e.0, e.1, line_bytes s) }

  -- the same as long as beacons are left
  order_unless_spent : (lane word : ℕ)
      → UnlessSpent (step w (one (order lane word))) (prints (one (order lane word))) (11 + length (decimal word)) (sent w (one (order lane word) ∷ []))
  unfolding OrderSent
  order_unless_spent lane word = go (sent_or_not lane word)
    where
      s : Step
      s = one (order lane word)

      go : OrderSent (answer_number (answer w s)) word (sent w (s ∷ [])) → UnlessSpent (step w s) (prints s) (11 + length (decimal word)) (sent w (s ∷ []))
      go (inl e) = inr (omega (arith, e.1, e.2, line_none s e.0, at_most_5 word))
      go (inr e) = inr (omega (arith, e.0, e.1, line_18 s))

  -- ---- hear, beacon

  -- a hearing sends no beacon
  hear_counted : (q lane k : ℕ) → Counted q w (step w (one (hear lane k))) n (prints (one (hear lane k))) 11 []
  unfolding step items_most
  hear_counted q lane k =
      let b = single_sends q w (hear lane k) in
      record { few = line_few (one (hear lane k)); beacons_stay = b.0; sum = omega (arith, b.1, line_bytes (one (hear lane k))) }

  -- a beacon is refused and sends none, or prints nothing and sends one at most
  beacon_counted : (q lane : ℕ) → Counted q w (step w (one (beacon lane))) n (prints (one (beacon lane))) 11 []
  unfolding step items_most
  beacon_counted q lane = go (same_or_not (answer_number (answer w s)) 0)
    where
      s : Step
      s = one (beacon lane)

      go : (answer_number (answer w s) ≡ 0) ⊎ (answer_number (answer w s) ≢ 0) → Counted q w (step w s) n (prints s) 11 []
      go (inl z) = let b = single_sends q w (beacon lane) in
          record { few = line_few s; beacons_stay = b.0; sum = omega (arith, b.1, at_most_one (eqb lane q), line_none s z) }
      go (inr e) = let b = beacon_refused_none q w lane e in record { few = line_few s; beacons_stay = b.0; sum = omega (arith, b.1, line_bytes s) }

  -- ---- roll

  -- a roll call is refused and sends none, or prints nothing and sends one beacon of the lane at most
  roll_counted : (q : ℕ) → Counted q w (step w roll) n (prints roll) 7 []
  unfolding items_most
  roll_counted q = go (same_or_not (roll_refusal w) 0)
    where
      b : Sends q w (step w roll) 1
      b = roll_sends q w

      go : (roll_refusal w ≡ 0) ⊎ (roll_refusal w ≢ 0) → Counted q w (step w roll) n (prints roll) 7 []
      go (inl z) = record { few = line_few roll; beacons_stay = b.0; sum = omega (arith, b.1, line_none roll (roll_number_lem w ∙ z)) }
      go (inr e) = record { few = line_few roll; beacons_stay = b.0; sum = omega (arith, (refused_none q w e).1, line_bytes roll) }

  -- a roll call is refused where a source has none left
  roll_unless_spent : (roll_refusal w ≢ 0 → SomeSpent w) → UnlessSpent (step w roll) (prints roll) 7 []
  unfolding items_most
  roll_unless_spent spent = go (same_or_not (roll_refusal w) 0)
    where
      go : (roll_refusal w ≡ 0) ⊎ (roll_refusal w ≢ 0) → UnlessSpent (step w roll) (prints roll) 7 []
      go (inl z) = inr (omega (arith, line_none roll (roll_number_lem w ∙ z)))
      go (inr e) = let q = spent e in inl (q.0, omega (arith, q.1, (roll_sends q.0 w).0))

  -- ---- every line

  -- whatever the line
  pub line_counted : (q : ℕ) (l : Line) → Counted q w (run w (step_of l)) n (length (printed (n + 1) (refusal_of w (step_of l)))) (least l) (sent w (step_of l))
  unfolding run sent sent_by
  line_counted q (Yard posts sources dests next) = no_step_lem q w n 7 (omega arith)
  line_counted q (Order lane word next) = order_counted q lane word
  line_counted q (Hear lane frame next) = hear_counted q lane frame
  line_counted q (Beacon lane next) = beacon_counted q lane
  line_counted q (Roll next) = roll_counted q
  line_counted q (Refused number) = no_step_lem q w n 1 (omega arith)

  -- the same as long as beacons are left
  pub line_unless_spent : (roll_refusal w ≢ 0 → SomeSpent w)
      → (l : Line) → UnlessSpent (run w (step_of l)) (length (printed (n + 1) (refusal_of w (step_of l)))) (least l) (sent w (step_of l))
  unfolding run sent sent_by
  line_unless_spent spent (Yard posts sources dests next) = unfold items_most in inr (omega arith)
  line_unless_spent spent (Order lane word next) = order_unless_spent lane word
  line_unless_spent spent (Hear lane frame next) = unfold items_most in inr (omega (arith, line_18 (one (hear lane frame))))
  line_unless_spent spent (Beacon lane next) = unfold items_most in inr (omega (arith, line_18 (one (beacon lane))))
  line_unless_spent spent (Roll next) = roll_unless_spent spent
  line_unless_spent spent (Refused number) = unfold items_most in inr (omega arith)
