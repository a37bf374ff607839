-- Where all that a post is said to know of its log is so, its steps are those of specs/Steps.antt, and what it knows then is so. Assumes nothing.
use mathlib.Core.Path.{◌≡◌, refl}
use mathlib.Core.Bool.{Bool, true, false}
use mathlib.Core.List.{List}
use Prim.Native.Nat.{ℕ}
use lib.Dec.{eqb}
use Rattle.frame.specs.declared.Frame.{Frame}
use Rattle.post.specs.declared.Post.{Post}
use Rattle.post.specs.Record.{is_source, last_of}
use Rattle.post.specs.Taking.{kept, ticked, own_taken, raised_post, taken}
use Rattle.deliver.specs.Delivery.{Delivered, delivered}
use Rattle.deliver.specs.Known.{Known, delivered_from}
use Rattle.deliver.proofs.KnownLaws.{known_log, joined_is, known_stays}
use Rattle.steps.specs.Refusals.{is_next, order_refusal, hear_refusal}
use Rattle.steps.specs.Steps.{order_sent, order_step, hear_taken, hear_other, hear_step}
use Rattle.steps.specs.Knowing.{orders_by, hear_took, hears_by}

-- ---- a delivery

-- it is that of a post that knows nothing, and what is known then is so
delivers : (known : List ℕ) (p : Post) → Known known p
    → (◌≡◌ {A = Delivered} (record { post = (delivered_from known p).post; count = (delivered_from known p).count }) (delivered p)) × Known (delivered_from known p).known (delivered_from known p).post
unfolding delivered_from
delivers known p all = (joined_is known p all, known_stays known p all)

-- ---- order

own_known : (known : List ℕ) (p : Post) (word : ℕ) → Known known p → Known known (own_taken p word)
unfolding own_taken kept ticked
own_known known p word all = known_log known p (own_taken p word) refl refl all

-- the step with what is known then
abbrev pub OrdersSo : List ℕ → Post → ℕ → Type 0
OrdersSo known p word =
    (orders_by known p word
    ≡ record { answer = (order_step p word).answer; post = (order_step p word).post; known = (orders_by known p word).known; frame = (order_step p word).frame })
    × Known (orders_by known p word).known (order_step p word).post

pub orders_known : (known : List ℕ) (p : Post) (word : ℕ) → Known known p → OrdersSo known p word
unfolding orders_by order_step order_sent
orders_known known p word all = go (eqb (order_refusal p) 0) refl
  where
    go : (b : Bool) → eqb (order_refusal p) 0 ≡ b → OrdersSo known p word
    go true e =
        let d = delivers known (own_taken p word) (own_known known p word all) in
        rw (e, ← d.0) (refl, d.1)
    go false e = rw e (refl, all)

-- ---- hear

took_log : (p : Post) (f : Frame) → ((hear_took p f).log ≡ p.log) × ((hear_took p f).logged ≡ p.logged)
unfolding hear_took taken raised_post kept ticked
took_log p f = go (is_next f (last_of p f.lane)) refl (is_source p p.lane) refl
  where
    go : (b : Bool) → is_next f (last_of p f.lane) ≡ b → (s : Bool) → is_source p p.lane ≡ s → ((hear_took p f).log ≡ p.log) × ((hear_took p f).logged ≡ p.logged)
    go true e true q = rw (e, q) (refl, refl)
    go true e false q = rw (e, q) (refl, refl)
    go false e s q = rw e (refl, refl)

abbrev pub HearsSo : List ℕ → Post → Frame → Type 0
HearsSo known p f =
    (hears_by known p f
    ≡ record { answer = (hear_step p f).answer; post = (hear_step p f).post; known = (hears_by known p f).known; frame = (hear_step p f).frame })
    × Known (hears_by known p f).known (hear_step p f).post

pub hears_known : (known : List ℕ) (p : Post) (f : Frame) → Known known p → HearsSo known p f
unfolding hears_by hear_step hear_taken hear_other hear_took
hears_known known p f all = go (eqb (hear_refusal p f) 0) refl (is_next f (last_of p f.lane)) refl
  where
    l : ((hear_took p f).log ≡ p.log) × ((hear_took p f).logged ≡ p.logged)
    l = took_log p f

    d : (◌≡◌ {A = Delivered} (record { post = (delivered_from known (hear_took p f)).post; count = (delivered_from known (hear_took p f)).count }) (delivered (hear_took p f)))
        × Known (delivered_from known (hear_took p f)).known (delivered_from known (hear_took p f)).post
    d = delivers known (hear_took p f) (known_log known p (hear_took p f) l.0 l.1 all)

    go : (b : Bool) → eqb (hear_refusal p f) 0 ≡ b → (n : Bool) → is_next f (last_of p f.lane) ≡ n → HearsSo known p f
    go true e true n =
        let a = rw n at d.0 in
        let k = rw n at d.1 in
        rw (e, n, ← a) (refl, k)
    go true e false n =
        let a = rw n at d.0 in
        let k = rw n at d.1 in
        rw (e, n, ← a) (refl, k)
    go false e b n = rw e (refl, all)
