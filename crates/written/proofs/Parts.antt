-- A text that stands in another, byte by byte and as a part of it. Assumes nothing.
use mathlib.Core.Path.{sym, ap, ◌∙◌}
use mathlib.Core.List.{List}
use Prim.Native.Nat.{ℕ}
use native.Mathlib.Omega.{arith}
use lib.ListN.{length, get_or, take, drop, length-drop}
use lib.Seq.{get_or-take, get_or-drop, ext_get_or, length-take-le}
use Rattle.scan.proofs.Here.{Here}
use Rattle.written.specs.Exact.{Stands}

-- the same, said with a part of the text
pub here_part : (s t : List ℕ) (at : ℕ) → Here s at t → Stands s at t
unfolding Here
here_part s t at h =
    let d = length-drop at s in
    let n = length-take-le (length t) (drop at s) (omega arith) in
    (h.0, ext_get_or 0 (take (length t) (drop at s)) t n (λ i l. get_or-take (length t) (drop at s) i 0 (omega arith) ∙ get_or-drop at s i 0 ∙ h.1 i (omega arith)))

pub part_here : (s t : List ℕ) (at : ℕ) → Stands s at t → Here s at t
unfolding Here
part_here s t at h =
    (h.0, λ i l. sym (get_or-take (length t) (drop at s) i 0 l ∙ get_or-drop at s i 0) ∙ ap (λ (u : List ℕ). get_or u i 0) h.1)
