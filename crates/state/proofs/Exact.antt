-- What a state holds is all of it: two states that hold the same are the same cells. Assumes nothing.
use mathlib.Core.Path.{◌≡◌, refl, sym, ap, ◌∙◌}
use mathlib.Core.Bool.{Bool, true, false}
use mathlib.Core.List.{List}
use Prim.Native.Nat.{ℕ, zero, suc, ◌+◌, ◌-◌, ◌*◌, ◌/◌, ◌%◌, ◌<◌}
use native.Mathlib.Omega.{arith}
use native.Mathlib.Decide.{dec_lt}
use borrow.Author.Tests.{eqb-true}
use lib.Dec.{eqb}
use lib.ListN.{length, get_or}
use lib.Seq.{ext_get_or}
use Rattle.state.specs.Yards.{Yard, post_at}
use Rattle.row.specs.Rows.{post_in, known_in}
use Rattle.row.proofs.Laws.{part_get}
use Rattle.row.proofs.Exact.{in_part, row_same}
use Rattle.state.specs.States.{row_of, yard_in, knowns_in, whole, other, held_in}
use Rattle.state.proofs.StateLaws.{at_yard, at_knowns}

in_row : (s t : List ℕ) (lane j : ℕ) → lane < 8 → j < 543 → yard_in s ≡ yard_in t → knowns_in s ≡ knowns_in t
    → get_or s (139 + 543 * lane + j) 0 ≡ get_or t (139 + 543 * lane + j) 0
in_row s t lane j small h e k =
    let p : post_in (row_of s lane) ≡ post_in (row_of t lane) = sym (at_yard s lane small) ∙ ap (λ (y : Yard). post_at y lane) e ∙ at_yard t lane small in
    let n : known_in (row_of s lane) ≡ known_in (row_of t lane) = sym (at_knowns s lane small) ∙ rw k (at_knowns t lane small) in
    sym (part_get s (139 + 543 * lane) 543 j h) ∙ row_same (row_of s lane) (row_of t lane) j p n h ∙ part_get t (139 + 543 * lane) 543 j h

in_front : (s t : List ℕ) (i : ℕ) → i < 139 → yard_in s ≡ yard_in t → get_or s i 0 ≡ get_or t i 0
unfolding yard_in
in_front s t zero h e = ap (λ (y : Yard). y.present) e
in_front s t (suc zero) h e = ap (λ (y : Yard). y.sources) e
in_front s t (suc (suc zero)) h e = ap (λ (y : Yard). y.frames) e
in_front s t (suc (suc (suc i))) h e = go (dec_lt i 8)
  where
    go : Dec (i < 8) → get_or s (suc (suc (suc i))) 0 ≡ get_or t (suc (suc (suc i))) 0
    go (yes l) = in_part s t 3 8 (suc (suc (suc i))) (ap (λ (y : Yard). y.beacons) e) (omega arith) (omega arith)
    go (no l) = in_part s t 11 128 (suc (suc (suc i))) (ap (λ (y : Yard). y.first) e) (omega arith) (omega arith)

cells_same : (s t : List ℕ) → length s ≡ 4483 → length t ≡ 4483 → yard_in s ≡ yard_in t → knowns_in s ≡ knowns_in t → s ≡ t
cells_same s t hs ht e k = ext_get_or 0 s t (hs ∙ sym ht) (λ i h. go i (omega arith) (dec_lt i 139))
  where
    go : (i : ℕ) → i < 4483 → Dec (i < 139) → get_or s i 0 ≡ get_or t i 0
    go i h (yes l) = in_front s t i l e
    go i h (no l) =
        let lane : ℕ = (i - 139) / 543 in
        let j : ℕ = (i - 139) % 543 in
        let q : i ≡ 139 + 543 * ((i - 139) / 543) + (i - 139) % 543 = omega arith in
        let x = in_row s t ((i - 139) / 543) ((i - 139) % 543) (omega arith) (omega arith) e k in
        ap (λ (n : ℕ). get_or s n 0) q ∙ x ∙ sym (ap (λ (n : ℕ). get_or t n 0) q)

pub held_all : (s t : List ℕ) → held_in s ≡ held_in t → s ≡ t
unfolding held_in
held_all s t e = go (eqb (length s) 4483) (eqb (length t) 4483) refl refl
  where
    go : (a b : Bool) → eqb (length s) 4483 ≡ a → eqb (length t) 4483 ≡ b → s ≡ t
    go true true p q =
        let w : whole (yard_in s) (knowns_in s) ≡ whole (yard_in t) (knowns_in t) = rw (p, q) at e in
        cells_same s t (eqb-true (length s) 4483 p) (eqb-true (length t) 4483 q) (cc) (cc)
    go false false p q = let w : other s ≡ other t = rw (p, q) at e in cc
    go true false p q =
        let w : whole (yard_in s) (knowns_in s) ≡ other t = rw (p, q) at e in
        absurd (let z : ◌≡◌ {A = ℕ} 0 1 = cc in omega arith)
    go false true p q =
        let w : other s ≡ whole (yard_in t) (knowns_in t) = rw (p, q) at e in
        absurd (let z : ◌≡◌ {A = ℕ} 0 1 = cc in omega arith)
