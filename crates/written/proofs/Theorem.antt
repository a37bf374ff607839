-- The reader's definitions accept exactly what is written. Assumes nothing.
use mathlib.Core.Path.{◌≡◌, sym, ap, ◌∙◌}
use mathlib.Core.List.{List}
use Prim.Native.Nat.{ℕ, ◌+◌, ◌≤◌}
use native.Mathlib.Omega.{arith}
use lib.ListN.{length}
use Rattle.lines.specs.Line.{Line, Yard, Order, Hear, Beacon, Roll, Refused}
use Rattle.lines.specs.Lines.{line_at, number_of, next_of}
use Rattle.written.specs.Written.{line_text, Right}
use Rattle.written.specs.Exact.{Stands, Exact}
use Rattle.scan.proofs.Here.{Here}
use Rattle.written.proofs.Parts.{here_part, part_here}
use Rattle.written.proofs.Steps.{order_complete, hear_complete, beacon_complete, roll_complete}
use Rattle.written.proofs.Sound.{Written}
use Rattle.written.proofs.Yard.{sound, yard_complete}

pub line_reads : (s : List ℕ) (at : ℕ) (l : Line) → Right at l → Here s at (line_text l) → next_of s l ≡ at + length (line_text l) → line_at s at ≡ l
unfolding line_text
line_reads s at (Yard posts sources dests next) r h e = yard_complete s at posts sources dests next r h ∙ ap (Yard posts sources dests) (sym e)
line_reads s at (Order lane word next) r h e = order_complete s at lane word r.0 r.1 r.2 h ∙ ap (Order lane word) (sym e)
line_reads s at (Hear lane frame next) r h e = hear_complete s at lane frame r.0 r.1 r.2 h ∙ ap (Hear lane frame) (sym e)
line_reads s at (Beacon lane next) r h e = beacon_complete s at lane r.0 r.1 h ∙ ap (Beacon lane) (sym e)
line_reads s at (Roll next) r h e = roll_complete s at r h ∙ ap Roll (sym e)
line_reads s at (Refused number) r h e = absurd r

line_accepted : (s : List ℕ) (at : ℕ) → number_of (line_at s at) ≡ 0
    → Right at (line_at s at) × Stands s at (line_text (line_at s at)) × (next_of s (line_at s at) ≡ at + length (line_text (line_at s at)))
unfolding Written
line_accepted s at e = let w = sound s at e in (w.0, here_part s (line_text (line_at s at)) at w.1, w.2)

-- it has a byte at least
pub line_some : (at : ℕ) (l : Line) → Right at l → 1 ≤ length (line_text l)
unfolding line_text
line_some at (Yard posts sources dests next) r = omega arith
line_some at (Order lane word next) r = omega arith
line_some at (Hear lane frame next) r = omega arith
line_some at (Beacon lane next) r = omega arith
line_some at (Roll next) r = omega arith
line_some at (Refused number) r = absurd r

pub exact : Exact
exact = record { reads = λ s at l r h e. line_reads s at l r (part_here s (line_text l) at h) e; accepts = line_accepted }
