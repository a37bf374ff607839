-- A step leaves a record of its type that refusal 12 does not turn down, and a log that the old one begins. Assumes nothing.
use mathlib.Core.Path.{◌≡◌, ap, ◌∙◌}
use mathlib.Core.List.{◌++◌}
use mathlib.Core.Logic.{◌⊎◌, inl, inr, ◌≢◌}
use mathlib.Core.Bool.{false}
use Prim.Native.Nat.{ℕ, ◌<◌}
use Rattle.frame.specs.declared.Frame.{Frame}
use Rattle.frame.specs.Types.{Typed}
use Rattle.frame.specs.Refusals.{frame_refusal}
use Rattle.post.specs.declared.Post.{Post}
use Rattle.post.specs.Taking.{own_taken}
use Rattle.deliver.specs.Delivery.{delivered}
use Rattle.steps.specs.Refusals.{order_refusal, hear_refusal}
use Rattle.steps.specs.Steps.{order_step, hear_step}
use Rattle.judge.specs.Judgement.{bad_record}
use Rattle.laws.specs.LogAfter.{LogAfter}
use Rattle.laws.proofs.TestLaws.{same_or_not}
use Rattle.laws.proofs.LogLaws.{log_of}
use Rattle.laws.proofs.Valid.{Shaped, Valid, judged_valid, valid_judged}
use Rattle.laws.proofs.ValidLog.{joining, log_once, log_taken_lem, delivered_log, delivered_shaped, delivered_valid}
use Rattle.laws.proofs.ValidSteps.{ordered_shaped, ordered_valid, ordered_log, heard_post, heard_shaped, heard_valid, heard_log, order_post, order_refused_lem, hear_post, hear_refused_lem}

-- ---- a valid record stays valid

-- an order leaves a record of its type
pub order_shaped : (p : Post) (word : ℕ) → word < 65536 → Shaped p → Valid p → Shaped (order_step p word).post
order_shaped p word b s v = go (same_or_not (order_refusal p) 0)
  where
    go : (order_refusal p ≡ 0) ⊎ (order_refusal p ≢ 0) → Shaped (order_step p word).post
    go (inl z) = rw (order_post p word z) (delivered_shaped (own_taken p word) (ordered_shaped p word z b s) (ordered_valid p word z s v))
    go (inr n) = rw (order_refused_lem p word n) s

-- an order leaves a valid record
pub order_valid : (p : Post) (word : ℕ) → word < 65536 → Shaped p → Valid p → Valid (order_step p word).post
order_valid p word b s v = go (same_or_not (order_refusal p) 0)
  where
    go : (order_refusal p ≡ 0) ⊎ (order_refusal p ≢ 0) → Valid (order_step p word).post
    go (inl z) = rw (order_post p word z) (delivered_valid (own_taken p word) (ordered_shaped p word z b s) (ordered_valid p word z s v))
    go (inr n) = rw (order_refused_lem p word n) v

-- a hearing leaves a record of its type
pub hear_shaped : (p : Post) (f : Frame) → frame_refusal f ≡ 0 → Typed f → Shaped p → Valid p → Shaped (hear_step p f).post
hear_shaped p f a t s v = go (same_or_not (hear_refusal p f) 0)
  where
    go : (hear_refusal p f ≡ 0) ⊎ (hear_refusal p f ≢ 0) → Shaped (hear_step p f).post
    go (inl z) = rw (hear_post p f z) (delivered_shaped (heard_post p f) (heard_shaped p f t z s) (heard_valid p f a z s v))
    go (inr n) = rw (hear_refused_lem p f n) s

-- a hearing leaves a valid record
pub hear_valid : (p : Post) (f : Frame) → frame_refusal f ≡ 0 → Typed f → Shaped p → Valid p → Valid (hear_step p f).post
hear_valid p f a t s v = go (same_or_not (hear_refusal p f) 0)
  where
    go : (hear_refusal p f ≡ 0) ⊎ (hear_refusal p f ≢ 0) → Valid (hear_step p f).post
    go (inl z) = rw (hear_post p f z) (delivered_valid (heard_post p f) (heard_shaped p f t z s) (heard_valid p f a z s v))
    go (inr n) = rw (hear_refused_lem p f n) v

-- an order, refused or not, leaves a record that 12 does not turn down
pub order_judged : (p : Post) (word : ℕ) → word < 65536 → Shaped p → bad_record p ≡ false
    → Shaped (order_step p word).post × (bad_record (order_step p word).post ≡ false)
order_judged p word b s e =
    let v = judged_valid p e in
    (order_shaped p word b s v, valid_judged (order_step p word).post (order_valid p word b s v))

-- and so does a hearing of an accepted frame
pub hear_judged : (p : Post) (f : Frame) → frame_refusal f ≡ 0 → Typed f → Shaped p → bad_record p ≡ false
    → Shaped (hear_step p f).post × (bad_record (hear_step p f).post ≡ false)
hear_judged p f a t s e =
    let v = judged_valid p e in
    (hear_shaped p f a t s v, valid_judged (hear_step p f).post (hear_valid p f a t s v))

-- ---- the log

-- delivery of a valid record that has the old log yet
log_after_lem : (p q r : Post) → log_of q ≡ log_of p → r ≡ (delivered q).post → Shaped q → Valid q → Shaped r → Valid r → LogAfter p q r
log_after_lem p q r e d s v sr vr =
    let grows : log_of r ≡ log_of p ++ joining q = ap log_of d ∙ delivered_log q s v ∙ ap (λ l. l ++ joining q) e in
    record {
      log = grows;
      begins = (joining q, grows);
      taken = log_taken_lem r sr vr;
      once = log_once r sr vr;
    }

-- after an order that is not refused
pub order_log : (p : Post) (word : ℕ) → word < 65536 → order_refusal p ≡ 0 → Shaped p → Valid p
    → LogAfter p (own_taken p word) (order_step p word).post
order_log p word b z s v =
    log_after_lem p (own_taken p word) (order_step p word).post (ordered_log p word) (order_post p word z)
    (ordered_shaped p word z b s)
    (ordered_valid p word z s v)
    (order_shaped p word b s v)
    (order_valid p word b s v)

-- after a hearing that is not refused
pub hear_log : (p : Post) (f : Frame) → frame_refusal f ≡ 0 → Typed f → hear_refusal p f ≡ 0 → Shaped p → Valid p
    → LogAfter p (heard_post p f) (hear_step p f).post
hear_log p f a t z s v =
    log_after_lem p (heard_post p f) (hear_step p f).post (heard_log p f) (hear_post p f z)
    (heard_shaped p f t z s)
    (heard_valid p f a z s v)
    (hear_shaped p f a t s v)
    (hear_valid p f a t s v)
