-- A text written into a lent buffer from a position on. Assumes nothing.
use Rattle.std.specs.Prelude.{◌≡◌, ℕ, ◌+◌, cond, List, [], ◌∷◌, ltb, length, set}
use Rattle.text.specs.declared.Writer.{Writer}

-- a buffer and the position of the next byte
pub record Out : Type 0 where
  pub buffer : List ℕ
  pub at : ℕ

abbrev pub out : List ℕ → ℕ → Out
out buffer at = record { buffer = buffer; at = at }

-- one byte at the position, which then rises; past the buffer's end nothing happens
unfoldable pub wrote_byte : Out → ℕ → Out
wrote_byte o x = cond (ltb o.at (length o.buffer)) (out (set o.buffer o.at x) (o.at + 1)) o

-- a text, byte by byte
unfoldable pub wrote : Out → List ℕ → Out
wrote o [] = o
wrote o (x ∷ t) = wrote (wrote_byte o x) t

-- what a writer holds
abbrev pub held : Writer → Out
held w = out w.buffer.now w.at

-- between two states of a writer a text was written, into the same buffer
abbrev pub Wrote : Writer → Writer → List ℕ → Type 0
Wrote w v t = (v.buffer.ghost_name ≡ w.buffer.ghost_name) × (held v ≡ wrote (held w) t)
