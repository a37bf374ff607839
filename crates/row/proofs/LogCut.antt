-- The places in a row's log, cut out of it as far as there are any. Assumes nothing.
use mathlib.Core.Path.{◌≡◌, ◌∙◌}
use mathlib.Core.List.{List}
use Prim.Native.Nat.{ℕ, min}
use native.Mathlib.Omega.{arith}
use lib.ListN.{length, take, drop}
use Rattle.std.specs.List.{between}
use Rattle.std.proofs.lemmas.List.{take_min, drop_min}
use Rattle.std.proofs.lemmas.Slice.{between_to_end}

-- in three steps
pub log_cut : (l : List ℕ) (a b c n : ℕ) → a ≡ min 414 (length l) → b ≡ min 128 (length (between a (length l) l)) → c ≡ min n (length (take b (between a (length l) l)))
    → take c (take b (between a (length l) l)) ≡ take n (take 128 (drop 414 l))
log_cut l a b c n ea eb ec =
    let rest : between a (length l) l ≡ drop 414 l = between_to_end l a (length l) (omega arith) ∙ rw ea (drop_min 414 l) in
    let log : take b (between a (length l) l) ≡ take 128 (drop 414 l) = rw (eb, take_min 128 (between a (length l) l), rest) in
    rw (ec, take_min n (take b (between a (length l) l)), log)
