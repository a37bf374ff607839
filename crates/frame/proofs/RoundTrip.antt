-- The layout both ways: from a frame to bytes and back, and from bytes to a frame and back. Assumes nothing.
use mathlib.Core.Path.{◌≡◌, refl, ap}
use mathlib.Core.List.{List, [], ◌∷◌}
use Prim.Native.Nat.{ℕ, zero, suc, ◌+◌, ◌*◌, ◌/◌, ◌%◌, ◌<◌}
use native.Mathlib.Omega.{arith}
use lib.ListN.{length, get_or}
use Rattle.frame.specs.Layout.{no_entry, entries_of, frame_of, bytes_of}
use Rattle.frame.specs.Types.{Typed, AreBytes}
use Rattle.frame.specs.declared.Frame.{Frame}

-- a list is the list of its elements
unfoldable pub tabulate : {A : Type 0} → ℕ → (ℕ → A) → List A
tabulate zero f = []
tabulate (suc n) f = f zero ∷ tabulate n (λ i. f (suc i))

pub tabulated : {A : Type 0} (d : A) (l : List A) (n : ℕ) → length l ≡ n → tabulate n (λ i. get_or l i d) ≡ l
unfolding tabulate
tabulated d [] zero e = refl
tabulated d [] (suc n) e = absurd (omega arith)
tabulated d (x ∷ l) zero e = absurd (omega arith)
tabulated d (x ∷ l) (suc n) e = ap (λ r. x ∷ r) (tabulated d l n (omega arith))

-- the two bytes of a number, and the number of two bytes
pair_joins : (n : ℕ) → n < 65536 → 256 * (n / 256 % 256) + n % 256 ≡ n
pair_joins n h = omega arith

pair_high : (a b : ℕ) → a < 256 → b < 256 → (256 * a + b) / 256 % 256 ≡ a
pair_high a b h l = omega arith

pair_low : (a b : ℕ) → a < 256 → b < 256 → (256 * a + b) % 256 ≡ b
pair_low a b h l = omega arith

entries_join : (f : Frame) → Typed f → entries_of (bytes_of f) ≡ f.entries
unfolding bytes_of tabulate
entries_join f h =
    simp (pair_joins, h.stamps) (tabulated no_entry f.entries 8 h.count)

pub bytes_length : (f : Frame) → length (bytes_of f) ≡ 32
unfolding bytes_of
bytes_length f = refl

pub frame_bytes : (f : Frame) → Typed f → frame_of (bytes_of f) ≡ f
unfolding frame_of bytes_of
frame_bytes f h = rw (pair_joins f.stamp.0 h.stamp, pair_joins f.word h.word, entries_join f h)

pub bytes_frame : (l : List ℕ) → length l ≡ 32 → AreBytes l → bytes_of (frame_of l) ≡ l
unfolding frame_of bytes_of tabulate
bytes_frame l e h = simp (pair_high, pair_low, h) (tabulated 0 l 32 e)
