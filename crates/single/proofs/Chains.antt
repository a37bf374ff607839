-- The refusals that come one after the other: what an entry hands on, and what was passed. Assumes nothing.
use mathlib.Core.Path.{◌≡◌, refl, sym, ◌∙◌}
use mathlib.Core.Bool.{Bool, true, false, cond}
use mathlib.Core.List.{List}
use Prim.Native.Nat.{ℕ, ◌<◌}
use native.Mathlib.Omega.{arith}
use lib.Dec.{eqb}
use lib.ListN.{length}
use Rattle.refusal.specs.declared.Refusal.{Refusal}
use Rattle.refusal.specs.Numbers.{refusal_number}
use Rattle.frame.specs.Refusals.{bad_length, frame_refusal}
use Rattle.frame.specs.declared.Frame.{Frame}
use Rattle.refusal.proofs.Refused.{refusal_positive}
use Rattle.post.specs.declared.Post.{Post}
use Rattle.judge.specs.Judgement.{bad_record, record_refusal}
use Rattle.air.specs.Air.{place_refusal}
use Rattle.air.proofs.Buffers.{buffer_judges}
use borrow.Author.Tests.{eqb-true}

-- the first that refuses is the answer
pub refuses : (t : Bool) (k rest : ℕ) (e : Refusal) → refusal_number e ≡ cond t k 0 → cond t k rest ≡ refusal_number e
refuses true k rest e h = sym h
refuses false k rest e h = absurd (omega (arith, refusal_positive e))

-- where one does not, the rest decides
pub passes : (t : Bool) (k rest : ℕ) → 0 < k → ◌≡◌ {A = ℕ} 0 (cond t k 0) → cond t k rest ≡ rest
passes true k rest h e = absurd (omega arith)
passes false k rest h e = refl

-- 6 of a buffer
abbrev pub length_refusal : List ℕ → ℕ
length_refusal buffer = cond (bad_length buffer) 6 0

-- buffer, record and step, as `order` and `beacon` judge them
abbrev pub in_turn : Post → List ℕ → ℕ → ℕ
in_turn p buffer step = cond (bad_length buffer) 6 (cond (bad_record p) 12 step)

pub short : (p : Post) (buffer : List ℕ) (step : ℕ) (e : Refusal) → refusal_number e ≡ length_refusal buffer → in_turn p buffer step ≡ refusal_number e
short p buffer step e h = refuses (bad_length buffer) 6 _ e h

pub bad : (p : Post) (buffer : List ℕ) (step : ℕ) (e : Refusal) → 0 ≡ length_refusal buffer → refusal_number e ≡ record_refusal p
    → in_turn p buffer step ≡ refusal_number e
bad p buffer step e l h = passes (bad_length buffer) 6 _ (omega arith) l ∙ refuses (bad_record p) 12 step e h

pub good : (p : Post) (buffer : List ℕ) (step n : ℕ) → 0 ≡ length_refusal buffer → bad_record p ≡ false → n ≡ step → in_turn p buffer step ≡ n
good p buffer step n l g e = passes (bad_length buffer) 6 _ (omega arith) l ∙ rw g (sym e)

-- a buffer that passed has a frame's length, and takes a good frame
pub passed_32 : (buffer : List ℕ) → 0 ≡ length_refusal buffer → length buffer ≡ 32
passed_32 buffer h = go (eqb (length buffer) 32) refl
  where
    go : (b : Bool) → eqb (length buffer) 32 ≡ b → length buffer ≡ 32
    go true e = eqb-true (length buffer) 32 e
    go false e = absurd (let z : ◌≡◌ {A = ℕ} 0 6 = rw e at h in omega arith)

pub takes : (buffer : List ℕ) (f : Frame) → 0 ≡ length_refusal buffer → frame_refusal f ≡ 0 → place_refusal buffer 0 f ≡ 0
takes buffer f h z = buffer_judges buffer f (passed_32 buffer h) ∙ z
