-- The ways through the functions by value. Assumes nothing.
use mathlib.Core.Path.{◌≡◌, refl, sym, ap, ◌∙◌}
use mathlib.Core.Bool.{Bool, true, false}
use mathlib.Core.List.{List}
use Prim.Native.Nat.{ℕ}
use lib.Dec.{eqb}
use borrow.Author.Tests.{ne_eqb, eqb-true}
use Rattle.post.specs.declared.Post.{Post}
use Rattle.std.specs.Prelude.{Ok, Err}
use Rattle.refusal.specs.declared.Refusal.{Refusal}
use Rattle.refusal.specs.Numbers.{refusal_number}
use Rattle.refusal.proofs.Refused.{never_0}
use Rattle.single.specs.Outcomes.{FreshPost, Ordered, Heard, fresh_answer}
use Rattle.single.specs.Single.{fresh_refusal, fresh_singly, order_singly, hear_singly}
use Rattle.told.specs.Told.{order_told, hear_told}
use Rattle.lent_post.specs.Lent.{Made, Stepped, fresh_kept, lent_fresh, lent_order, lent_hear}

-- the number that `single::fresh` gives is the refusal's
fresh_number : (lane posts sources dests : ℕ) → (fresh_singly lane posts sources dests).refusal ≡ fresh_refusal lane posts sources dests
unfolding fresh_singly
fresh_number lane posts sources dests = go (eqb (fresh_refusal lane posts sources dests) 0) refl
  where
    go : (b : Bool) → eqb (fresh_refusal lane posts sources dests) 0 ≡ b → (fresh_singly lane posts sources dests).refusal ≡ fresh_refusal lane posts sources dests
    go true e = rw e (sym (eqb-true _ 0 e))
    go false e = rw e

pub fresh_made : (p : Post) (lane posts sources dests : ℕ) (f : FreshPost) → f ≡ fresh_singly lane posts sources dests → f.refusal ≡ 0
    → ◌≡◌ {A = Made} (record { refusal = 0; post = f.post }) (lent_fresh p lane posts sources dests)
unfolding fresh_singly fresh_kept
fresh_made p lane posts sources dests f e z =
    let n : fresh_refusal lane posts sources dests ≡ 0 = sym (fresh_number lane posts sources dests) ∙ (ap (λ (g : FreshPost). g.refusal) (sym e) ∙ z) in
    rw (e, n)

pub fresh_refused : (p : Post) (lane posts sources dests : ℕ) (f : FreshPost) → f ≡ fresh_singly lane posts sources dests → (f.refusal ≡ 0 → ⊥)
    → ◌≡◌ {A = Made} (record { refusal = f.refusal; post = p }) (lent_fresh p lane posts sources dests)
unfolding fresh_kept
fresh_refused p lane posts sources dests f e z =
    let n : f.refusal ≡ fresh_refusal lane posts sources dests = ap (λ (g : FreshPost). g.refusal) e ∙ fresh_number lane posts sources dests in
    rw (← n, ne_eqb f.refusal 0 z)

pub order_told_lem : (p : Post) (word : ℕ) (buffer : List ℕ) (d : Ordered) (n : ℕ) → d ≡ order_singly p word buffer → n ≡ order_told d.answer
    → ◌≡◌ {A = Stepped} (record { answer = n; post = d.post }) (lent_order p word buffer)
order_told_lem p word buffer d n e t = rw (t, e)

pub hear_told_lem : (p : Post) (frame buffer : List ℕ) (d : Heard) (n : ℕ) → d ≡ hear_singly p frame buffer → n ≡ hear_told d.answer
    → ◌≡◌ {A = Stepped} (record { answer = n; post = d.post }) (lent_hear p frame buffer)
hear_told_lem p frame buffer d n e t = rw (t, e)

-- the same of a result
pub fresh_ok : (p q : Post) (lane posts sources dests : ℕ) → fresh_answer (Ok q) ≡ fresh_singly lane posts sources dests
    → ◌≡◌ {A = Made} (record { refusal = 0; post = q }) (lent_fresh p lane posts sources dests)
fresh_ok p q lane posts sources dests e = fresh_made p lane posts sources dests (fresh_answer (Ok q)) e refl

pub fresh_err : (p : Post) (lane posts sources dests : ℕ) (e : Refusal) → fresh_answer (Err e) ≡ fresh_singly lane posts sources dests
    → ◌≡◌ {A = Made} (record { refusal = refusal_number e; post = p }) (lent_fresh p lane posts sources dests)
fresh_err p lane posts sources dests e h = fresh_refused p lane posts sources dests (fresh_answer (Err e)) h (never_0 e)
