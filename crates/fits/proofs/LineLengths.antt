-- How many bytes of the script a line takes. Assumes nothing.
use Prim.Native.Nat.{ℕ, ◌+◌, ◌<◌, ◌≤◌}
use mathlib.Core.Path.{◌≡◌, refl, subst}
use mathlib.Core.List.{List}
use mathlib.Core.Logic.{◌⊎◌, inl, inr}
use native.Mathlib.Omega.{arith}
use lib.ListN.{length, length-append}
use Rattle.text.specs.Decimal.{decimal}
use Rattle.lines.specs.Line.{Line, Yard, Order, Hear, Beacon, Roll, Refused}
use Rattle.lines.specs.Lines.{line_at, number_of, next_of}
use Rattle.written.specs.Written.{line_text, Right}
use Rattle.written.specs.Exact.{Stands}
use Rattle.written.proofs.Theorem.{exact}
use Rattle.scan.proofs.Decimal.{at_least_1}

-- at least so many; after a refused line nothing is read
abbrev pub least : Line → ℕ
least (Yard posts sources dests next) = 7
least (Order lane word next) = 11 + length (decimal word)
least (Hear lane frame next) = 11
least (Beacon lane next) = 11
least (Roll next) = 7
least (Refused number) = 1

-- what is written of each line has so many
yard_least : (posts sources dests next : ℕ) → least (Yard posts sources dests next) ≤ length (line_text (Yard posts sources dests next))
unfolding line_text
yard_least posts sources dests next = rw (length-append, length-append) (omega arith)

order_least : (lane word next : ℕ) → least (Order lane word next) ≤ length (line_text (Order lane word next))
unfolding line_text
order_least lane word next = rw (length-append, length-append, length-append, length-append) (omega (arith, at_least_1 lane))

hear_least : (lane frame next : ℕ) → least (Hear lane frame next) ≤ length (line_text (Hear lane frame next))
unfolding line_text
hear_least lane frame next =
    rw (length-append, length-append, length-append, length-append) (omega (arith, at_least_1 lane, at_least_1 frame))

beacon_least : (lane next : ℕ) → least (Beacon lane next) ≤ length (line_text (Beacon lane next))
unfolding line_text
beacon_least lane next = rw (length-append, length-append) (omega (arith, at_least_1 lane))

roll_least : (next : ℕ) → least (Roll next) ≤ length (line_text (Roll next))
unfolding line_text
roll_least next = omega arith

-- a line at a place ends within the script; at least 7 bytes on, or at the script's end
pub record Reaches (s : List ℕ) (at : ℕ) (l : Line) : Type 0 where
  pub inside : next_of s l ≤ length s
  pub far : at + least l ≤ next_of s l
  pub last : (at + 7 ≤ next_of s l) ⊎ (next_of s l ≡ length s)

module _ (s : List ℕ) (at : ℕ) where
  -- what is known of an accepted line
  abbrev Accepted : Line → Type 0
  Accepted l = Right at l × Stands s at (line_text l) × (next_of s l ≡ at + length (line_text l))

  -- an accepted line is what is written of it
  pub accepted : (l : Line) → line_at s at ≡ l → number_of l ≡ 0 → Accepted l
  accepted l e = subst (λ (l : Line). number_of l ≡ 0 → Accepted l) e (exact.accepts s at)

  -- so it reaches as far
  whole : (l : Line) → line_at s at ≡ l → number_of l ≡ 0 → least l ≤ length (line_text l) → 7 ≤ least l → Reaches s at l
  whole l e z h k =
      let a = accepted l e z in
      record {
        inside = omega (arith, a.1.0, a.2);
        far = omega (arith, a.2);
        last = inl (omega (arith, a.2));
      }

  -- every line does
  pub reaches : at < length s → Reaches s at (line_at s at)
  reaches h = go (line_at s at) refl
    where
      go : (l : Line) → line_at s at ≡ l → Reaches s at l
      go (Yard posts sources dests next) e = whole (Yard posts sources dests next) e refl (yard_least posts sources dests next) (omega arith)
      go (Order lane word next) e = whole (Order lane word next) e refl (order_least lane word next) (omega arith)
      go (Hear lane frame next) e = whole (Hear lane frame next) e refl (hear_least lane frame next) (omega arith)
      go (Beacon lane next) e = whole (Beacon lane next) e refl (beacon_least lane next) (omega arith)
      go (Roll next) e = whole (Roll next) e refl (roll_least next) (omega arith)
      go (Refused number) e = record { inside = omega arith; far = omega arith; last = inr refl }
