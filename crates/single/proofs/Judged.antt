-- What the judgement of a record tells. Assumes nothing.
use mathlib.Core.Path.{◌≡◌, refl}
use mathlib.Core.Bool.{Bool, true, false}
use Prim.Native.Nat.{ℕ}
use native.Mathlib.Omega.{arith}
use Rattle.post.specs.declared.Post.{Post}
use Rattle.judge.specs.Judgement.{bad_record, record_refusal}

pub record_bad : (p : Post) (n : ℕ) → n ≡ record_refusal p → (n ≡ 0 → ⊥) → (bad_record p ≡ true) × (n ≡ 12)
record_bad p n e h = go (bad_record p) refl
  where
    go : (b : Bool) → bad_record p ≡ b → (bad_record p ≡ true) × (n ≡ 12)
    go true q = (q, rw q at e)
    go false q = absurd (h (rw q at e))

pub record_good : (p : Post) (n : ℕ) → n ≡ record_refusal p → n ≡ 0 → bad_record p ≡ false
record_good p n e z = go (bad_record p) refl
  where
    go : (b : Bool) → bad_record p ≡ b → bad_record p ≡ false
    go true q = absurd (let t : n ≡ 12 = rw q at e in omega arith)
    go false q = q
