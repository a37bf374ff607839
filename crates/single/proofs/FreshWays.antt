-- The ways through `fresh`. Assumes nothing.
use mathlib.Core.Path.{◌≡◌, ◌∙◌}
use mathlib.Core.Bool.{Bool, cond, not}
use Prim.Native.Nat.{ℕ}
use native.Mathlib.Omega.{arith}
use borrow.Author.Tests.{ne_eqb}
use Rattle.std.specs.Prelude.{Result, Ok, Err, IsErrAnd}
use Rattle.refusal.specs.declared.Refusal.{Refusal}
use Rattle.refusal.specs.Numbers.{refusal_number}
use Rattle.refusal.proofs.Refused.{never_0}
use Rattle.cells.specs.Sets.{has_lane}
use Rattle.post.specs.declared.Post.{Post}
use Rattle.post.specs.Record.{fresh_post}
use Rattle.judge.specs.Judgement.{bad_record, record_refusal}
use Rattle.single.specs.Outcomes.{fresh_answer}
use Rattle.single.specs.Single.{fresh_refusal, fresh_singly}
use Rattle.single.proofs.Chains.{refuses, passes}

-- a refusal
pub fresh_refused : (lane posts sources dests : ℕ) (r : Result Post Refusal) (e : Refusal) → IsErrAnd r (λ k. k ≡ e)
    → fresh_refusal lane posts sources dests ≡ refusal_number e → fresh_answer r ≡ fresh_singly lane posts sources dests
unfolding fresh_singly
fresh_refused lane posts sources dests (Ok p) e h n = absurd h
fresh_refused lane posts sources dests (Err k) e h n = rw (h, n, ne_eqb (refusal_number e) 0 (never_0 e))

-- 12 of the record
pub fresh_bad : (lane posts sources dests : ℕ) (p : Post) (e : Refusal) → p ≡ fresh_post lane posts sources dests → refusal_number e ≡ record_refusal p
    → fresh_refusal lane posts sources dests ≡ refusal_number e
unfolding fresh_refusal
fresh_bad lane posts sources dests p e ep h = refuses (bad_record (fresh_post lane posts sources dests)) 12 _ e (rw ep at h)

-- then 21 of the lane
pub fresh_lane : (lane posts sources dests : ℕ) (p : Post) (here : Bool) → p ≡ fresh_post lane posts sources dests → 0 ≡ record_refusal p → here ≡ has_lane posts lane
    → fresh_refusal lane posts sources dests ≡ cond (not here) 21 0
unfolding fresh_refusal
fresh_lane lane posts sources dests p here ep h eh = passes (bad_record (fresh_post lane posts sources dests)) 12 _ (omega arith) (rw ep at h) ∙ rw eh

pub fresh_made : (lane posts sources dests : ℕ) (p : Post) → p ≡ fresh_post lane posts sources dests → fresh_refusal lane posts sources dests ≡ 0
    → fresh_answer (Ok p) ≡ fresh_singly lane posts sources dests
unfolding fresh_singly
fresh_made lane posts sources dests p ep z = rw (z, ep)
