-- Laws of cells that are copied. Assumes nothing.
use mathlib.Core.Path.{◌≡◌, refl, ap₂, ◌∙◌}
use mathlib.Core.List.{List, [], ◌++◌, append-nil}
use Prim.Native.Nat.{ℕ, ◌<◌, ◌≤◌, min}
use native.Mathlib.Omega.{arith}
use native.Mathlib.Decide.{dec_lt}
use lib.ListN.{length, take, drop, drop_of_length-le}
use lib.Seq.{take_all, length-take-le}
use Rattle.cells.specs.Copies.{copied}

-- all that both have
pub copy_done : (from to l : List ℕ) (n : ℕ) → n ≡ min (length from) (length to) → l ≡ take n from ++ drop n to → l ≡ copied from to
unfolding copied
copy_done from to l n e p = p ∙ go (dec_lt (length from) (length to))
  where
    go : Dec (length from < length to) → take n from ++ drop n to ≡ take (length to) from ++ drop (length from) to
    go (yes h) =
        let z : n ≡ length from = omega arith in
        rw (z, take_all (length from) from (omega arith), take_all (length to) from (omega arith))
    go (no h) =
        let z : n ≡ length to = omega arith in
        let a : drop (length to) to ≡ [] = drop_of_length-le to {i = length to} (omega arith) in
        let b : drop (length from) to ≡ [] = drop_of_length-le to {i = length from} (omega arith) in
        rw (z, a, b)

-- into as many cells
pub copied_whole : (from to : List ℕ) → length to ≡ length from → copied from to ≡ from
unfolding copied
copied_whole from to e = ap₂ ◌++◌ (take_all (length to) from (omega arith)) (drop_of_length-le to {i = length from} (omega arith)) ∙ append-nil from

-- the first n of some into no fewer
pub copied_front : (s to : List ℕ) (n : ℕ) → n ≤ length s → n ≤ length to → copied (take n s) to ≡ take n s ++ drop n to
unfolding copied
copied_front s to n h k =
    let l : length (take n s) ≡ n = length-take-le n s h in
    rw l (ap₂ ◌++◌ (take_all (length to) (take n s) (omega arith)) refl)
