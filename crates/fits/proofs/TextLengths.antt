-- How many bytes the lines of the printout have. Assumes nothing.
use Prim.Native.Nat.{ℕ, zero, suc, ◌+◌, ◌*◌, ◌<◌, ◌≤◌}
use mathlib.Core.Path.{◌≡◌}
use mathlib.Core.Bool.{Bool, true, false, cond, not}
use mathlib.Core.List.{List, []}
use native.Mathlib.Omega.{arith}
use lib.Dec.{eqb}
use lib.ListN.{length, length-append}
use borrow.Author.Tests.{eq-eqb}
use Rattle.text.specs.Decimal.{given, decimal}
use Rattle.cells.specs.Sets.{has_lane}
use Rattle.post.specs.declared.Post.{Post}
use Rattle.state.specs.Yards.{Yard, post_at}
use Rattle.roll.specs.Runs.{Order}
use Rattle.roll.specs.Logs.{orders_logged}
use Rattle.meaning.specs.Texts.{bad_text, refused_text, item_text, items_text, post_text, posts_text}
use Rattle.scan.proofs.Decimal.{at_most_5, at_most_4, at_most_3, at_most_2, at_most_1}

-- ---- a line for a refused script, and for a refused step

-- `(bad LINE NUMBER)`
pub bad_length_lem : (line number : ℕ) → length (bad_text line number) ≤ 18
unfolding bad_text
bad_length_lem line number = rw (length-append, length-append, length-append, length-append) (omega (arith, at_most_5 line, at_most_5 number))

-- `(refused LINE NUMBER)`
refused_length : (line number : ℕ) → length (refused_text line number) ≡ 12 + length (decimal line) + length (decimal number)
unfolding refused_text
refused_length line number = rw (length-append, length-append, length-append, length-append) (omega arith)

-- what a step's line prints: nothing where the number is 0
abbrev pub printed : ℕ → ℕ → List ℕ
printed line number = given (not (eqb number 0)) (refused_text line number)

-- nothing where the step is not refused
pub printed_none : (line number : ℕ) → number ≡ 0 → length (printed line number) ≡ 0
printed_none line number z = rw (eq-eqb number 0 z)

-- never more than the line of a refused step
printed_most : (line number : ℕ) → length (printed line number) ≤ length (refused_text line number)
printed_most line number = go (not (eqb number 0))
  where
    go : (b : Bool) → length (given b (refused_text line number)) ≤ length (refused_text line number)
    go true = omega arith
    go false = omega arith

-- numbers below 100 have two digits
pub printed_19 : (line number : ℕ) → number < 100 → length (printed line number) ≤ 19
printed_19 line number l = omega (arith, printed_most line number, refused_length line number, at_most_5 line, at_most_2 number l)

-- line numbers of four digits
pub printed_18 : (line number : ℕ) → number < 100 → line < 10000 → length (printed line number) ≤ 18
printed_18 line number l h = omega (arith, printed_most line number, refused_length line number, at_most_4 line h, at_most_2 number l)

-- of three
pub printed_17 : (line number : ℕ) → number < 100 → line < 1000 → length (printed line number) ≤ 17
printed_17 line number l h = omega (arith, printed_most line number, refused_length line number, at_most_3 line h, at_most_2 number l)

-- ---- a post's line

-- an item of a log: stamps have four digits, lanes one
pub item_length : (o : Order) → o.stamp < 10000 → o.lane < 8 → length (item_text o) ≤ 10 + length (decimal o.word)
unfolding item_text
item_length o s l =
    rw (length-append, length-append, length-append, length-append, length-append, length-append)
    (omega (arith, at_most_4 o.stamp s, at_most_1 o.lane (omega arith)))

-- beside its log it has 38 bytes
pub post_length : (lane : ℕ) (p : Post) → lane < 8 → p.clock.0 < 10000 → p.serial.0 < 100
    → length (post_text lane p) ≤ 38 + length (items_text (orders_logged p))
unfolding post_text
post_length lane p l c s =
    rw (length-append, length-append, length-append, length-append, length-append, length-append, length-append, length-append)
    (omega (arith, at_most_1 lane (omega arith), at_most_4 p.clock.0 c, at_most_2 p.serial.0 s))

-- the posts below lane k
pub posts_length : (y : Yard) (most : ℕ) → ((lane : ℕ) → lane < 8 → length (post_text lane (post_at y lane)) ≤ most)
    → (k : ℕ) → k ≤ 8 → length (posts_text y k) ≤ k * most
unfolding posts_text
posts_length y most each zero h = omega arith
posts_length y most each (suc lane) h =
    rw length-append (omega (arith, posts_length y most each lane (omega arith), go (has_lane y.present lane)))
  where
    go : (b : Bool) → length (cond b (post_text lane (post_at y lane)) []) ≤ most
    go true = each lane (omega arith)
    go false = omega arith
