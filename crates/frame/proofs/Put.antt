-- The laws of putting a frame's bytes into a buffer, entry by entry. Assumes nothing.
use mathlib.Core.Path.{◌≡◌, refl, subst}
use mathlib.Core.List.{List}
use Prim.Native.Nat.{ℕ, zero, suc, ◌+◌, ◌*◌, ◌/◌, ◌%◌}
use native.Mathlib.Numerals.{add-one}
use lib.ListN.{length, set}
use Rattle.frame.specs.Layout.{entry_of, bytes_of}
use Rattle.frame.specs.declared.Entry.{Entry}
use Rattle.frame.specs.declared.Frame.{Frame}
use Rattle.frame.proofs.RoundTrip.{tabulate, tabulated}

-- the buffer once the bytes before the entries are put
abbrev pub start_put : Frame → List ℕ → List ℕ
start_put f l =
    set (set (set (set (set (set (set (set l
    0 f.kind) 1 f.sender) 2 f.lane) 3 f.serial.0)
    4 (f.stamp.0 / 256 % 256)) 5 (f.stamp.0 % 256)) 6 (f.word / 256 % 256)) 7 (f.word % 256)

-- once an entry is put at a place
abbrev pub entry_put : Entry → List ℕ → ℕ → List ℕ
entry_put e l place = set (set (set l place e.serial.0) (place + 1) (e.stamp.0 / 256 % 256)) (place + 2) (e.stamp.0 % 256)

-- and once the entries of the lanes below n are put
unfoldable pub put_below : Frame → List ℕ → ℕ → List ℕ
put_below f l zero = l
put_below f l (suc n) = entry_put (entry_of f n) (put_below f l n) (8 + 3 * n)

pub put_more : (f : Frame) (start l : List ℕ) (n : ℕ) → l ≡ put_below f start n → entry_put (entry_of f n) l (8 + 3 * n) ≡ put_below f start (n + 1)
unfolding put_below
put_more f start l n e = rw (add-one n, e)

every_byte : (f : Frame) (old : ℕ → ℕ) → put_below f (start_put f (tabulate 32 old)) 8 ≡ bytes_of f
unfolding put_below tabulate bytes_of
every_byte f old = refl

pub put_all : (f : Frame) (l : List ℕ) → length l ≡ 32 → put_below f (start_put f l) 8 ≡ bytes_of f
put_all f l e = subst (λ (k : List ℕ). put_below f (start_put f k) 8 ≡ bytes_of f) (tabulated 0 l 32 e) (every_byte f _)
