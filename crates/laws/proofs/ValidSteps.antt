-- An order and a hearing keep a record valid, and the log only grows: by the orders due just before delivery. Assumes nothing.
use mathlib.Core.Path.{◌≡◌, refl, sym, ◌∙◌}
use mathlib.Core.List.{List}
use mathlib.Core.Logic.{◌⊎◌, inl, inr, ◌≢◌}
use mathlib.Core.Bool.{Bool, true, false, cond}
use Prim.Native.Nat.{ℕ, ◌+◌, ◌<◌, max}
use native.Mathlib.Omega.{arith}
use borrow.Author.Tests.{ne_eqb}
use Rattle.frame.specs.declared.Frame.{Frame}
use Rattle.frame.specs.Types.{Typed}
use Rattle.frame.specs.Refusals.{frame_refusal}
use Rattle.cells.specs.Tables.{with_stamp}
use Rattle.post.specs.declared.Post.{Post}
use Rattle.post.specs.Record.{is_source, last_of, with_clock}
use Rattle.post.specs.Newest.{raised_below}
use Rattle.post.specs.Taking.{kept, ticked, own_taken, raised_post, taken}
use Rattle.deliver.specs.Delivery.{delivered}
use Rattle.steps.specs.Refusals.{is_next, order_refusal, hear_refusal}
use Rattle.steps.specs.Steps.{order_sent, order_step, hear_taken, hear_other, hear_step}
use Rattle.steps.proofs.Ways.{can_rise}
unfoldable pub use Rattle.laws.specs.LogAfter.{heard_post}
use Rattle.laws.proofs.TestLaws.{true_or_false}
use Rattle.laws.proofs.TableLaws.{stamp_length, stamp_below, all_raised_length, all_raised_under}
use Rattle.laws.proofs.LogLaws.{log_of}
use Rattle.laws.proofs.Valid.{Shaped, Valid}
use Rattle.laws.proofs.ValidTaking.{clock_shaped, clock_valid, kept_shaped, kept_valid}
use Rattle.laws.proofs.Accepted.{accepted}
use Rattle.laws.proofs.Hearable.{next_is, hearable, takes_other}

-- ---- an own order

-- the post that has taken its own order is a record of its type
pub ordered_shaped : (p : Post) (word : ℕ) → order_refusal p ≡ 0 → word < 65536 → Shaped p → Shaped (own_taken p word)
unfolding own_taken ticked
ordered_shaped p word z b s =
    let room = can_rise p z in
    let c : p.clock.0 + 1 < 65536 = omega (arith, room.0) in
    let table : List ℕ = with_stamp p.table p.lane (p.serial.0 + 1) (p.clock.0 + 1) in
    kept_shaped (with_clock p (p.clock.0 + 1) (p.serial.0 + 1) table) p.lane (p.serial.0 + 1) (p.clock.0 + 1) word c b
    (clock_shaped p (p.clock.0 + 1) (p.serial.0 + 1) table c
    (stamp_length p.table p.lane (p.serial.0 + 1) (p.clock.0 + 1) ∙ s.table)
    (stamp_below p.table p.lane (p.serial.0 + 1) (p.clock.0 + 1) 65536 c s.table_values)
    s)

-- and a valid one
pub ordered_valid : (p : Post) (word : ℕ) → order_refusal p ≡ 0 → Shaped p → Valid p → Valid (own_taken p word)
unfolding own_taken ticked
ordered_valid p word z s v =
    let room = can_rise p z in
    kept_valid p (p.clock.0 + 1) (p.serial.0 + 1) (with_stamp p.table p.lane (p.serial.0 + 1) (p.clock.0 + 1)) p.lane
    (p.serial.0 + 1) (p.clock.0 + 1) word s v v.lane (omega (arith, v.own)) (omega (arith, room.1)) (omega arith)
    (omega (arith, room.1)) (λ e. refl) (λ n. absurd (n refl))

-- its log is the old one
pub ordered_log : (p : Post) (word : ℕ) → log_of (own_taken p word) ≡ log_of p
unfolding own_taken ticked kept
ordered_log p word = refl

-- ---- a hearing, up to delivery

-- the post with a raised table is a record of its type
pub raised_shaped : (p : Post) (f : Frame) → Typed f → Shaped p → Shaped (raised_post p f)
unfolding raised_post
raised_shaped p f t s =
    clock_shaped p p.clock.0 p.serial.0 (raised_below p.table f.entries 8) s.clock
    (all_raised_length p.table f.entries 8 ∙ s.table)
    (all_raised_under p.table f.entries 8 65536 t.stamps s.table_values)
    s

-- and a valid one
pub raised_valid : (p : Post) (f : Frame) → Valid p → Valid (raised_post p f)
unfolding raised_post
raised_valid p f v = clock_valid p p.clock.0 (raised_below p.table f.entries 8) v

-- an own clock and entry beside it
ticked_shaped : (p : Post) (serial clock : ℕ) → clock < 65536 → Shaped p → Shaped (ticked p serial clock)
unfolding ticked
ticked_shaped p serial clock c s =
    clock_shaped p clock serial (with_stamp p.table p.lane serial clock) c
    (stamp_length p.table p.lane serial clock ∙ s.table)
    (stamp_below p.table p.lane serial clock 65536 c s.table_values)
    s

-- the post that has taken an order it heard is a record of its type
pub taken_shaped : (p : Post) (f : Frame) → Typed f → hear_refusal p f ≡ 0 → is_next f (last_of p f.lane) ≡ true → Shaped p → Shaped (taken p f)
unfolding taken
taken_shaped p f t z n s = go (is_source p p.lane) refl
  where
    q : Post
    q = kept (raised_post p f) f.lane f.serial.0 f.stamp.0 f.word

    shaped : Shaped q
    shaped = kept_shaped (raised_post p f) f.lane f.serial.0 f.stamp.0 f.word t.stamp t.word (raised_shaped p f t s)

    go : (b : Bool) → is_source p p.lane ≡ b → Shaped (cond b (ticked q p.serial.0 (max p.clock.0 f.stamp.0 + 1)) q)
    go true e =
        ticked_shaped q p.serial.0 (max p.clock.0 f.stamp.0 + 1) (omega (arith, (hearable p f z).clock n e)) shaped
    go false e = shaped

-- and a valid one: the order is of another lane, so the own serial stays the last taken from its own
pub taken_valid : (p : Post) (f : Frame) → frame_refusal f ≡ 0 → hear_refusal p f ≡ 0 → is_next f (last_of p f.lane) ≡ true → Shaped p → Valid p
    → Valid (taken p f)
unfolding taken raised_post ticked kept
taken_valid p f a z n s v = go (is_source p p.lane)
  where
    q : Post
    q = kept (raised_post p f) f.lane f.serial.0 f.stamp.0 f.word

    valid : Valid q
    valid =
        let next = next_is f (last_of p f.lane) n in
        let good = (accepted f a).order next.0 in
        let other = takes_other p f z n v.own in
        kept_valid p p.clock.0 p.serial.0 (raised_below p.table f.entries 8) f.lane f.serial.0 f.stamp.0 f.word s v
        good.lane next.1 good.serial good.stamp v.serial (λ e. absurd (other (sym e))) (λ e. refl)

    go : (b : Bool) → Valid (cond b (ticked q p.serial.0 (max p.clock.0 f.stamp.0 + 1)) q)
    go true =
        clock_valid q (max p.clock.0 f.stamp.0 + 1)
        (with_stamp q.table p.lane p.serial.0 (max p.clock.0 f.stamp.0 + 1))
        valid
    go false = valid

module _ (p : Post) (f : Frame) where
  -- where the order is the next of its lane
  pub heard_taken : is_next f (last_of p f.lane) ≡ true → heard_post p f ≡ taken p f
  unfolding heard_post
  heard_taken e = rw e

  -- where it is not, or the frame is a beacon
  pub heard_other : is_next f (last_of p f.lane) ≡ false → heard_post p f ≡ raised_post p f
  unfolding heard_post
  heard_other e = rw e

  -- it is a record of its type
  pub heard_shaped : Typed f → hear_refusal p f ≡ 0 → Shaped p → Shaped (heard_post p f)
  heard_shaped t z s = go (true_or_false (is_next f (last_of p f.lane)))
    where
      go : (is_next f (last_of p f.lane) ≡ true) ⊎ (is_next f (last_of p f.lane) ≡ false) → Shaped (heard_post p f)
      go (inl e) = rw (heard_taken e) (taken_shaped p f t z e s)
      go (inr e) = rw (heard_other e) (raised_shaped p f t s)

  -- and a valid one
  pub heard_valid : frame_refusal f ≡ 0 → hear_refusal p f ≡ 0 → Shaped p → Valid p → Valid (heard_post p f)
  heard_valid a z s v = go (true_or_false (is_next f (last_of p f.lane)))
    where
      go : (is_next f (last_of p f.lane) ≡ true) ⊎ (is_next f (last_of p f.lane) ≡ false) → Valid (heard_post p f)
      go (inl e) = rw (heard_taken e) (taken_valid p f a z e s v)
      go (inr e) = rw (heard_other e) (raised_valid p f v)

  -- its log is the old one
  pub heard_log : log_of (heard_post p f) ≡ log_of p
  unfolding heard_post taken raised_post ticked kept
  heard_log = go (is_next f (last_of p f.lane)) (is_source p p.lane)
    where
      q : Post
      q = kept (raised_post p f) f.lane f.serial.0 f.stamp.0 f.word

      go : (b c : Bool) → log_of (cond b (cond c (ticked q p.serial.0 (max p.clock.0 f.stamp.0 + 1)) q) (raised_post p f)) ≡ log_of p
      go true true = refl
      go true false = refl
      go false c = refl

-- ---- the steps

-- an order that is not refused leaves the post that took it, delivered; a refused one leaves the post
pub order_post : (p : Post) (word : ℕ) → order_refusal p ≡ 0 → (order_step p word).post ≡ (delivered (own_taken p word)).post
unfolding order_step order_sent
order_post p word z = rw z

-- a refused order leaves the post
pub order_refused_lem : (p : Post) (word : ℕ) → order_refusal p ≢ 0 → (order_step p word).post ≡ p
unfolding order_step
order_refused_lem p word n = rw (ne_eqb (order_refusal p) 0 n)

-- so a hearing
pub hear_post : (p : Post) (f : Frame) → hear_refusal p f ≡ 0 → (hear_step p f).post ≡ (delivered (heard_post p f)).post
unfolding hear_step hear_taken hear_other heard_post
hear_post p f z = go (true_or_false (is_next f (last_of p f.lane)))
  where
    go : (is_next f (last_of p f.lane) ≡ true) ⊎ (is_next f (last_of p f.lane) ≡ false)
        → (hear_step p f).post ≡ (delivered (cond (is_next f (last_of p f.lane)) (taken p f) (raised_post p f))).post
    go (inl e) = rw (z, e)
    go (inr e) = rw (z, e)

-- a refused hearing leaves the post
pub hear_refused_lem : (p : Post) (f : Frame) → hear_refusal p f ≢ 0 → (hear_step p f).post ≡ p
unfolding hear_step
hear_refused_lem p f n = rw (ne_eqb (hear_refusal p f) 0 n)
