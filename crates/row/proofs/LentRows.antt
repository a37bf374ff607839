-- A row of which the table, or what is known, was lent and written: all else is as before. Assumes nothing.
use mathlib.Core.Path.{◌≡◌, refl}
use mathlib.Core.Bool.{true}
use mathlib.Core.List.{List, ◌++◌}
use Prim.Native.Nat.{ℕ, ◌+◌, ◌≤◌}
use native.Mathlib.Omega.{arith}
use lib.ListN.{length, get_or, take, drop}
use Rattle.row.specs.Rows.{part, post_in, known_in, past_in, with_table}
use Rattle.row.proofs.Laws.{apart}
use Rattle.row.proofs.LentParts.{put_part, part_back, part_other, cell_other, past_other}

module _ (l t : List ℕ) (h : 543 ≤ length l) (k : length t ≡ 136) where
  wide : 22 + 136 ≤ length l
  wide = omega arith

  cell : (i : ℕ) → apart 22 136 i 1 ≡ true → get_or (put_part l 22 136 t) (i + 0) 0 ≡ get_or l (i + 0) 0
  cell i e = cell_other l 22 136 t wide k i e

  other : (b m : ℕ) → apart 22 136 b m ≡ true → part (put_part l 22 136 t) b m ≡ part l b m
  other b m e = part_other l 22 136 t wide k b m e

  table_post : post_in (put_part l 22 136 t) ≡ with_table (post_in l) t
  unfolding post_in
  table_post =
      rw (cell 0 refl, cell 542 refl, cell 1 refl, cell 2 refl, cell 3 refl, cell 4 refl, cell 5 refl, other 6 8 refl, part_back l 22 136 t wide k, other 158 128 refl, other 286 128 refl, other 414 128 refl)

  table_known : known_in (put_part l 22 136 t) ≡ known_in l
  unfolding known_in
  table_known = other 14 8 refl

pub table_lent : (l m t : List ℕ) → 543 ≤ length l → length t ≡ 136 → m ≡ take 22 l ++ (t ++ drop 136 (drop 22 l))
    → (post_in m ≡ with_table (post_in l) t) × (known_in m ≡ known_in l) × (past_in m ≡ past_in l)
unfolding put_part
table_lent l m t h k e = rw e (table_post l t h k, table_known l t h k, past_other l 22 136 t (wide l t h k) k (omega arith))

-- what is known is no part of the record
known_post : (l t : List ℕ) → 14 + 8 ≤ length l → length t ≡ 8 → post_in (put_part l 14 8 t) ≡ post_in l
unfolding post_in
known_post l t w k = rw (cell 0 refl, cell 542 refl, cell 1 refl, cell 2 refl, cell 3 refl, cell 4 refl, cell 5 refl, other 6 8 refl, other 22 136 refl, other 158 128 refl, other 286 128 refl, other 414 128 refl)
  where
    cell : (i : ℕ) → apart 14 8 i 1 ≡ true → get_or (put_part l 14 8 t) (i + 0) 0 ≡ get_or l (i + 0) 0
    cell i e = cell_other l 14 8 t w k i e

    other : (b m : ℕ) → apart 14 8 b m ≡ true → part (put_part l 14 8 t) b m ≡ part l b m
    other b m e = part_other l 14 8 t w k b m e

pub known_lent : (l m t : List ℕ) → 543 ≤ length l → length t ≡ 8 → m ≡ take 14 l ++ (t ++ drop 8 (drop 14 l))
    → (post_in m ≡ post_in l) × ((known_in m ≡ t) × (past_in m ≡ past_in l))
unfolding put_part known_in
known_lent l m t h k e =
    let w : 14 + 8 ≤ length l = omega arith in
    rw e (known_post l t w k, (part_back l 14 8 t w k, past_other l 14 8 t w k (omega arith)))
