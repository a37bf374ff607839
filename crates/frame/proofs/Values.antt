-- What the logic knows of the elements of an array of entries, as a fact at each lane. Assumes nothing.
use mathlib.Core.List.{List, [], ◌∷◌}
use Prim.Native.Nat.{ℕ, zero, suc, ◌<◌}
use native.Mathlib.Omega.{arith}
use lib.ListN.{get_or}
use mir.Val.{Val}
use denote.Array.{each}
use denote.RattleType.{RattleType}
use denote.Shadow.{shadow}
use borrow.Author.Rules.{rules}
use Rattle.frame.specs.Layout.{no_entry}
use Rattle.frame.specs.declared.Entry.{Entry}
use Rattle.frame.specs.contracts.Entry.{the_row}

-- what holds of an element by its type holds at each index, and of the default past the end
pub each_has : (T : RattleType) (P : T.Denot → Type 0) (d : T.Denot) (xs : List T.Denot) (us : List Val)
    → shadow (each T.Denot T.own_val xs us) → P d
    → ((x : T.Denot) (u : Val) → shadow (T.own_val x (u ∷ [])) → P x) → (i : ℕ)
    → P (get_or xs i d)
each_has T P d [] us h base one i = base
each_has T P d (x ∷ xs) [] h base one i = absurd h
each_has T P d (x ∷ xs) (u ∷ us) h base one zero = one x u h.0
each_has T P d (x ∷ xs) (u ∷ us) h base one (suc i) = each_has T P d xs us h.1 base one i

pub stamps_fit : (es : List Entry) (us : List Val) → shadow (each the_row.Denot the_row.own_val es us) → (lane : ℕ)
    → (get_or es lane no_entry).stamp.0 < 65536
stamps_fit es us h = each_has the_row (λ (e : Entry). e.stamp.0 < 65536) no_entry es us h (omega arith) (λ e u k. search rules)
