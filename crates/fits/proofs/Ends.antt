-- The printout of a script that is not refused, added up. Assumes nothing.
use Prim.Native.Nat.{ℕ, ◌+◌, ◌*◌, ◌<◌, ◌≤◌, min}
use mathlib.Core.Path.{◌≡◌, refl, ap}
use mathlib.Core.List.{List, [], append-nil}
use mathlib.Core.Logic.{◌⊎◌, inl, inr, ◌≢◌}
use native.Mathlib.Omega.{arith}
use lib.ListN.{length}
use Rattle.lines.specs.Line.{Line}
use Rattle.lines.specs.Lines.{lines_from}
use Rattle.state.specs.Yards.{post_at, beacons_at, yard_refusal}
use Rattle.yard.specs.Worlds.{World}
use Rattle.roll.specs.Runs.{Step, run, sent}
use Rattle.roll.specs.Runs as runs
use Rattle.roll.specs.Logs.{log_at}
use Rattle.meaning.specs.Script.{world_after, refused_lines}
use Rattle.meaning.specs.Texts.{post_text, posts_text}
use Rattle.laws.proofs.TestLaws.{same_or_not, below_or_not}
use Rattle.agreement.specs.Demand3.{fresh_world}
use Rattle.agreement.proofs.FreshYards.{fresh_beacons}
use Rattle.fits.specs.Fits.{output_bytes}
use Rattle.fits.proofs.TextLengths.{post_length, posts_length}
use Rattle.fits.proofs.ItemLengths.{items_most, most_fifteen, log_length}
use Rattle.fits.proofs.LineCounts.{spent_from}
use Rattle.fits.proofs.ScriptCounts.{orders_of, AllCounted, AllUnlessSpent, lines_counted, lines_unless_spent}
use Rattle.fits.specs.Printed.{steps_of}
use Rattle.fits.proofs.Runs.{after_run, orders_sent_lem, LedTo, reached_next, demand, yard_facts, reached_small, Bounded, right_bounded, right_spent, wrong_sent, wrong_bounded}

-- ---- the sums: p bytes for refused lines, t for the posts, orders whose items have o bytes at most, m of them, n beacons of one lane, k lines

-- with beacons left, fewer bytes are refused; with none left to the lane, many bytes of the script sent them
right_end : (p t o m n k at bytes : ℕ) → p ≤ 19 * k → o ≤ 15 * m → m ≤ 128 → bytes ≤ 48000 → t ≤ 8 * (38 + o)
    → 7 * p + 56 * o + 112 * n + 7 * min (1 + k) 999 + 18 * at ≤ 18 * bytes + 559 * m + 112 * 0 + 7 * min 1 999
    → (spent_from ≤ n) ⊎ (7 * p + 56 * o + 12 * at ≤ 12 * bytes + 648 * m) → p + t ≤ output_bytes
right_end p t o m n k at bytes a b c d e f (inr h) = omega arith
right_end p t o m n k at bytes a b c d e f (inl h) = go (below_or_not (1 + k) 999)
  where
    go : (1 + k < 999) ⊎ (999 ≤ 1 + k) → p + t ≤ output_bytes
    go (inl l) = omega arith
    go (inr l) = omega arith

-- with an air of another length nothing is sent
wrong_end : (p t o n k at bytes : ℕ) → o ≤ 0 → bytes ≤ 48000 → t ≤ 8 * (38 + o)
    → 7 * p + 56 * o + 112 * n + 7 * min (1 + k) 999 + 18 * at ≤ 18 * bytes + 559 * 0 + 112 * 0 + 7 * min 1 999 → p + t ≤ output_bytes
wrong_end p t o n k at bytes b d e f = omega arith

module _ (s : List ℕ) (short : length s ≤ 48000) (at : ℕ) (inside : at ≤ length s)
    (present sources dests : ℕ) (air : List ℕ) (small : present < 256) (smallSources : sources < 256) (smallDests : dests < 256)
    (z : yard_refusal present sources dests ≡ 0) where
  abbrev w : World
  w = fresh_world present sources dests air

  -- the lines from there on, and their steps
  abbrev ls : List Line
  ls = lines_from s at (length s)

  abbrev steps : List Step
  steps = steps_of ls

  -- ---- the posts' lines

  -- a post prints its log and 38 bytes at most
  post_fits : Bounded present sources dests air small smallSources smallDests z steps → (lane : ℕ) → lane < 8
      → length (post_text lane (post_at (run w steps).yard lane)) ≤ 38 + items_most (sent w steps)
  post_fits b lane l =
      let d = demand present sources dests air small smallSources smallDests z in
      let f = yard_facts present sources dests air small smallSources smallDests z in
      omega (
        arith,
        post_length lane (post_at (run w steps).yard lane) l (omega (arith, b.clocks lane l)) (omega (arith, (f.serials steps lane).few)),
        log_length (log_at (run w steps) lane) (sent w steps) (rw (append-nil steps) at (d.logs steps [] lane)) b.short,
      )

  -- the eight posts
  posts_fit : Bounded present sources dests air small smallSources smallDests z steps
      → length (posts_text (world_after w ls).yard 8) ≤ 8 * (38 + items_most (orders_of w ls))
  posts_fit b = rw (after_run w ls, orders_sent_lem w ls) (posts_length (run w steps).yard (38 + items_most (sent w steps)) (post_fits b) 8 (omega arith))

  -- ---- the refused lines

  -- a fresh yard has sent no beacon
  no_beacons : (q : ℕ) → beacons_at w.yard q ≡ 0
  no_beacons q = ap (λ (f : ℕ → ℕ). f q) (fresh_beacons present sources dests)

  -- no step leads to it
  start : LedTo w w
  start = ([], unfold run in refl)

  -- what the script's lines print and send
  counted : (q : ℕ) → AllCounted q w 1 at (length s) ls
  counted q = lines_counted s short (LedTo w) (reached_next w) (reached_small present sources dests air small smallSources smallDests z)
      q (length s) w 1 at start inside (λ l. omega arith)

  -- ---- both

  -- with an air of the right length, the beacons of lane q counted
  counted_fits : length air ≡ 65536 → (q : ℕ)
      → (spent_from ≤ beacons_at (world_after w ls).yard q)
      ⊎ (7 * length (refused_lines w 1 ls) + 56 * items_most (orders_of w ls) + 12 * at ≤ 12 * length s + 648 * length (orders_of w ls))
      → length (refused_lines w 1 ls) + length (posts_text (world_after w ls).yard 8) ≤ output_bytes
  counted_fits whole q h =
      let b = right_bounded present sources dests air small smallSources smallDests z whole steps in
      right_end (length (refused_lines w 1 ls)) (length (posts_text (world_after w ls).yard 8)) (items_most (orders_of w ls)) (length (orders_of w ls))
      (beacons_at (world_after w ls).yard q) (length ls) at (length s)
      (counted q).few (most_fifteen (orders_of w ls)) (rw (orders_sent_lem w ls) b.count) short (posts_fit b) (omega (arith, (counted q).sum, no_beacons q)) h

  -- whatever the length of the air
  pub all_fits : length (refused_lines w 1 ls) + length (posts_text (world_after w ls).yard 8) ≤ output_bytes
  all_fits = go (same_or_not (length air) 65536)
    where
      right : length air ≡ 65536 → AllUnlessSpent w 1 at (length s) ls → length (refused_lines w 1 ls) + length (posts_text (world_after w ls).yard 8) ≤ output_bytes
      right whole (inl h) = counted_fits whole h.0 (inl h.1)
      right whole (inr h) = counted_fits whole 0 (inr h)

      go : (length air ≡ 65536) ⊎ (length air ≢ 65536) → length (refused_lines w 1 ls) + length (posts_text (world_after w ls).yard 8) ≤ output_bytes
      go (inl whole) = right whole (lines_unless_spent s short (LedTo w) (reached_next w) (reached_small present sources dests air small smallSources smallDests z)
          (right_spent present sources dests air small smallSources smallDests z whole) (length s) w 1 at start inside (λ l. omega arith))
      go (inr bad) =
          let b = wrong_bounded present sources dests air small smallSources smallDests z bad steps in
          let none : orders_of w ls ≡ [] = rw (orders_sent_lem w ls) (wrong_sent present sources dests air small smallSources smallDests z bad steps) in
          let few : length (orders_of w ls) ≡ 0 = ap (λ (o : List runs.Order). length o) none in
          wrong_end (length (refused_lines w 1 ls)) (length (posts_text (world_after w ls).yard 8)) (items_most (orders_of w ls))
          (beacons_at (world_after w ls).yard 0) (length ls) at (length s)
          (omega (arith, most_fifteen (orders_of w ls))) short (posts_fit b) (omega (arith, (counted 0).sum, no_beacons 0))
