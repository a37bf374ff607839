-- What all lines of a script print and send, compared with its bytes. Assumes nothing.
use Prim.Native.Nat.{ℕ, zero, suc, ◌+◌, ◌*◌, ◌<◌, ◌≤◌, min}
use mathlib.Core.Path.{◌≡◌, refl, ap}
use mathlib.Core.List.{List, [], ◌∷◌, ◌++◌}
use mathlib.Core.Logic.{◌⊎◌, inl, inr, ◌≢◌}
use native.Mathlib.Omega.{arith}
use lib.ListN.{length, length-append}
use Rattle.lines.specs.Line.{Line, Yard, Order, Hear, Beacon, Roll, Refused}
use Rattle.lines.specs.Lines.{line_at, next_of, lines_from}
use Rattle.state.specs.Yards.{beacons_at}
use Rattle.yard.specs.Worlds.{World, order, hear, beacon}
use Rattle.roll.specs.RollCall.{roll_refusal}
use Rattle.roll.specs.Runs.{Step, one, roll, answer, step, run, sent}
use Rattle.roll.specs.Runs as runs
use Rattle.roll.specs.Answers.{answer_number}
use Rattle.meaning.specs.Script.{step_of, refusal_of, world_after, refused_lines}
use Rattle.laws.proofs.TestLaws.{below_or_not}
use Rattle.written.proofs.LineLists.{lines_one, lines_none}
use Rattle.fits.proofs.TextLengths.{printed}
use Rattle.fits.proofs.ItemLengths.{items_most, most_append}
use Rattle.fits.proofs.LineLengths.{least, reaches}
use Rattle.fits.proofs.LineCounts.{Counted, SomeSpent, UnlessSpent, line_counted, line_unless_spent}

-- the orders that lines send, in the order of sending
unfoldable pub orders_of : World → List Line → List runs.Order
orders_of w [] = []
orders_of w (l ∷ ls) = sent w (step_of l) ++ orders_of (run w (step_of l)) ls

-- the lines that follow line n, from a place of a script of m bytes on; counted are the beacons of lane q
pub record AllCounted (q : ℕ) (w : World) (n at m : ℕ) (ls : List Line) : Type 0 where
  pub few : length (refused_lines w n ls) ≤ 19 * length ls
  pub beacons_stay : beacons_at w.yard q ≤ beacons_at (world_after w ls).yard q
  pub sum : 7 * length (refused_lines w n ls) + 56 * items_most (orders_of w ls) + 112 * beacons_at (world_after w ls).yard q + 7 * min (n + length ls) 999 + 18 * at
      ≤ 18 * m + 559 * length (orders_of w ls) + 112 * beacons_at w.yard q + 7 * min n 999

-- as long as beacons are left
abbrev pub AllUnlessSpent : World → ℕ → ℕ → ℕ → List Line → Type 0
AllUnlessSpent w n at m ls =
    SomeSpent (world_after w ls)
    ⊎ (7 * length (refused_lines w n ls) + 56 * items_most (orders_of w ls) + 12 * at ≤ 12 * m + 648 * length (orders_of w ls))

-- ---- no lines, and a line more

-- no lines
none_counted : (q : ℕ) (w : World) (n at m : ℕ) → at ≤ m → AllCounted q w n at m []
unfolding refused_lines world_after orders_of items_most
none_counted q w n at m h = record { few = omega arith; beacons_stay = omega arith; sum = omega arith }

-- the same as long as beacons are left
none_unless_spent : (w : World) (n at m : ℕ) → at ≤ m → AllUnlessSpent w n at m []
unfolding refused_lines world_after orders_of items_most
none_unless_spent w n at m h = inr (omega arith)

module _ (w : World) (n at next m : ℕ) (l : Line) (ls : List Line) (far : at + least l ≤ next) where
  -- the world after the line, its orders and its bytes
  abbrev v : World
  v = run w (step_of l)

  abbrev o : List runs.Order
  o = sent w (step_of l)

  abbrev p : List ℕ
  p = printed (n + 1) (refusal_of w (step_of l))

  -- what the line adds to the bytes, the items, the orders and the beacons
  bytes_more : length (refused_lines w n (l ∷ ls)) ≡ length p + length (refused_lines v (n + 1) ls)
  unfolding refused_lines
  bytes_more = length-append p (refused_lines v (n + 1) ls)

  items_more : items_most (orders_of w (l ∷ ls)) ≡ items_most o + items_most (orders_of v ls)
  unfolding orders_of
  items_more = most_append o (orders_of v ls)

  orders_more : length (orders_of w (l ∷ ls)) ≡ length o + length (orders_of v ls)
  unfolding orders_of
  orders_more = length-append o (orders_of v ls)

  after_more : world_after w (l ∷ ls) ≡ world_after v ls
  unfolding world_after
  after_more = refl

  -- so the line and those after it
  more_counted : (q : ℕ) → Counted q w v n (length p) (least l) o → AllCounted q v (n + 1) next m ls → AllCounted q w n at m (l ∷ ls)
  more_counted q c r =
      let b : beacons_at (world_after w (l ∷ ls)).yard q ≡ beacons_at (world_after v ls).yard q = ap (λ (u : World). beacons_at u.yard q) after_more in
      record {
        few = omega (arith, bytes_more, c.few, r.few);
        beacons_stay = omega (arith, b, c.beacons_stay, r.beacons_stay);
        sum = omega (arith, bytes_more, items_more, orders_more, b, c.sum, r.sum);
      }

  -- the same as long as beacons are left
  more_unless_spent : UnlessSpent v (length p) (least l) o → ((q : ℕ) → AllCounted q v (n + 1) next m ls) → AllUnlessSpent v (n + 1) next m ls → AllUnlessSpent w n at m (l ∷ ls)
  more_unless_spent (inl b) a r = inl (b.0, rw after_more (omega (arith, b.1, (a b.0).beacons_stay)))
  more_unless_spent (inr b) a (inl c) = inl (c.0, rw after_more c.1)
  more_unless_spent (inr b) a (inr c) = inr (omega (arith, bytes_more, items_more, orders_more))

-- ---- the lines of a script

module _ (s : List ℕ) (short : length s ≤ 48000)
    (Keep : World → Type 0) (keeps : (w : World) → Keep w → (x : Step) → Keep (step w x))
    (small : (w : World) → Keep w → (x : Step) → answer_number (answer w x) < 100) where
  -- a line leads to a world that the steps lead to
  keep_line : (w : World) → Keep w → (l : Line) → Keep (run w (step_of l))
  unfolding run
  keep_line w g (Yard posts sources dests next) = g
  keep_line w g (Order lane word next) = keeps w g (one (order lane word))
  keep_line w g (Hear lane frame next) = keeps w g (one (hear lane frame))
  keep_line w g (Beacon lane next) = keeps w g (one (beacon lane))
  keep_line w g (Roll next) = keeps w g roll
  keep_line w g (Refused number) = g

  -- the lines before a place take 7 bytes each, but for the first
  abbrev Low : ℕ → ℕ → Type 0
  Low n at = at < length s → 7 * n ≤ at + 7

  -- so after the line too
  low_next : (n at : ℕ) → at < length s → Low n at → Low (n + 1) (next_of s (line_at s at))
  low_next n at l h = go (reaches s at l).last
    where
      go : (at + 7 ≤ next_of s (line_at s at)) ⊎ (next_of s (line_at s at) ≡ length s) → Low (n + 1) (next_of s (line_at s at))
      go (inl f) k = omega (arith, h l)
      go (inr e) k = absurd (omega arith)

  -- a line, and the lines after it
  abbrev rest : ℕ → ℕ → List Line
  rest at k = lines_from s (next_of s (line_at s at)) k

  abbrev then : World → ℕ → World
  then w at = run w (step_of (line_at s at))

  -- the line at a place, with what holds of those after it
  step_counted : (q : ℕ) (w : World) (n at k : ℕ) → Keep w → at ≤ length s → Low n at
      → (at < length s → AllCounted q (then w at) (n + 1) (next_of s (line_at s at)) (length s) (rest at k))
      → AllCounted q w n at (length s) (lines_from s at (suc k))
  step_counted q w n at k g h low ih = go (below_or_not at (length s))
    where
      go : (at < length s) ⊎ (length s ≤ at) → AllCounted q w n at (length s) (lines_from s at (suc k))
      go (inl l) = rw (lines_one s at k l)
          (more_counted w n at (next_of s (line_at s at)) (length s) (line_at s at) (rest at k) (reaches s at l).far q
          (line_counted w n (omega (arith, low l)) (small w g) q (line_at s at)) (ih l))
      go (inr l) = rw (lines_none s at (suc k) l) (none_counted q w n at (length s) h)

  -- all lines from a place on
  pub lines_counted : (q k : ℕ) (w : World) (n at : ℕ) → Keep w → at ≤ length s → Low n at → AllCounted q w n at (length s) (lines_from s at k)
  unfolding lines_from
  lines_counted q zero w n at g h low = none_counted q w n at (length s) h
  lines_counted q (suc k) w n at g h low = step_counted q w n at k g h low
      (λ l. lines_counted q k (then w at) (n + 1) (next_of s (line_at s at)) (keep_line w g (line_at s at)) (reaches s at l).inside (low_next n at l low))

  -- ---- as long as beacons are left

  module _ (spent : (w : World) → Keep w → roll_refusal w ≢ 0 → SomeSpent w) where
    -- the line at a place, with what holds of those after it
    step_unless_spent : (w : World) (n at k : ℕ) → Keep w → at ≤ length s → Low n at
        → (at < length s → AllUnlessSpent (then w at) (n + 1) (next_of s (line_at s at)) (length s) (rest at k))
        → AllUnlessSpent w n at (length s) (lines_from s at (suc k))
    step_unless_spent w n at k g h low ih = go (below_or_not at (length s))
      where
        go : (at < length s) ⊎ (length s ≤ at) → AllUnlessSpent w n at (length s) (lines_from s at (suc k))
        go (inl l) = rw (lines_one s at k l)
            (more_unless_spent w n at (next_of s (line_at s at)) (length s) (line_at s at) (rest at k) (reaches s at l).far
            (line_unless_spent w n (omega (arith, low l)) (small w g) (spent w g) (line_at s at))
            (λ q. lines_counted q k (then w at) (n + 1) (next_of s (line_at s at)) (keep_line w g (line_at s at)) (reaches s at l).inside (low_next n at l low))
            (ih l))
        go (inr l) = rw (lines_none s at (suc k) l) (none_unless_spent w n at (length s) h)

    -- all lines from a place on
    pub lines_unless_spent : (k : ℕ) (w : World) (n at : ℕ) → Keep w → at ≤ length s → Low n at → AllUnlessSpent w n at (length s) (lines_from s at k)
    unfolding lines_from
    lines_unless_spent zero w n at g h low = none_unless_spent w n at (length s) h
    lines_unless_spent (suc k) w n at g h low = step_unless_spent w n at k g h low
        (λ l. lines_unless_spent k (then w at) (n + 1) (next_of s (line_at s at)) (keep_line w g (line_at s at)) (reaches s at l).inside (low_next n at l low))
