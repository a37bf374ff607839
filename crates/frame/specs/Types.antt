-- What every value of a type has, for theorems about frames and bytes. Assumes nothing.
use Rattle.std.specs.Prelude.{ℕ, ◌<◌, ◌≡◌, List, length}
use Rattle.frame.specs.Layout.{byte_at, entry_of}
use Rattle.frame.specs.declared.Frame.{Frame}

-- what every value of the type `Frame` has: eight entries, and stamps and word of 16 bits
pub record Typed (f : Frame) : Type 0 where
  pub stamp : f.stamp.0 < 65536
  pub word : f.word < 65536
  pub count : length f.entries ≡ 8
  pub stamps : (lane : ℕ) → (entry_of f lane).stamp.0 < 65536

-- what every value of the type `&[u8]` has
abbrev pub AreBytes : List ℕ → Type 0
AreBytes l = (i : ℕ) → byte_at l i < 256
