-- Of the post's own refusals a yard meets 21, 22, 23 and 26 alone: 24 and 28 to 30 never arise in it. Assumes nothing.
use mathlib.Core.Path.{◌≡◌, ap, ◌∙◌}
use mathlib.Core.Logic.{◌⊎◌, inl, inr, ◌≢◌}
use mathlib.Core.Bool.{Bool, true, false, cond, not, ◌&&◌}
use Prim.Native.Nat.{ℕ, suc, ◌<◌, ◌≤◌, max}
use native.Mathlib.Omega.{arith}
use native.Mathlib.Numerals.{add-one}
use lib.Dec.{leb, eqb}
use borrow.Author.Tests.{lt-leb, eq-eqb, ne_eqb}
use Rattle.frame.specs.declared.Frame as frames
use Rattle.frame.specs.Layout.{entry_of}
use Rattle.cells.specs.Sets.{has_lane}
use Rattle.post.specs.declared.Post as posts
use Rattle.post.specs.Record.{last_of}
use Rattle.steps.specs.Refusals.{order_refusal, is_next, clock_passes, last_stamp, hear_refusal}
use Rattle.state.specs.Yards.{post_at}
use Rattle.yard.specs.Worlds.{World}
use Rattle.laws.proofs.TestLaws.{same_or_not, true_or_false, and_parts, and_fails}
use Rattle.laws.proofs.Hearable.{next_is, Hearable, hear_not_refused}
use Rattle.laws.proofs.Broadcasts.{Sendable}
use Rattle.model.proofs.Invariants.{Posts, stamp_of, Sent, FrameOk, YardOk, sends_source}
use Rattle.agreement.proofs.Views.{roles_of, frame_view, yard_view}
use Rattle.agreement.proofs.Sound.{InYard, Sound}

module _ (present sources dests : ℕ) where
  -- an order: 21, 22, 23
  pub order_number_lem : (lane : ℕ) (p : posts.Post) → InYard present sources dests lane p → p.clock.0 < 65535
      → order_refusal p
      ≡ cond (not (has_lane present lane)) 21 (cond (not (has_lane sources lane)) 22 (cond (leb 16 p.serial.0) 23 0))
  unfolding order_refusal
  order_number_lem lane p i c =
      rw (i.its_posts, i.its_sources, i.its_lane, lt-leb 65535 p.clock.0 c)

  module _ (w : World) (s : Sound present sources dests w) (y : YardOk (roles_of present sources dests) (yard_view w))
      (low : (i : ℕ) → (post_at w.yard i).clock.0 ≤ 1024) (lane : ℕ) (here : lane < 8) (f : frames.Frame)
      (fo : FrameOk (roles_of present sources dests) (yard_view w).posts (frame_view f)) (good : Sendable f) where
    abbrev W : Posts
    W = (yard_view w).posts

    abbrev p : posts.Post
    p = post_at w.yard lane

    in_yard : InYard present sources dests lane p
    in_yard = s.post lane here

    -- an order frame carries an order that was sent
    sent : f.kind ≡ 1 → Sent W (frame_view f).carried
    sent e = fo.order_sent (ap (λ (b : Bool). not b) (eq-eqb f.kind 1 e))

    -- no stamp is above 1,024
    stamp_low : f.kind ≡ 1 → f.stamp.0 ≤ 1024
    stamp_low e =
        let o = sent e in
        omega (arith, o.stamp_is, (y.selves f.lane).stamps_under_clock f.serial.0 o.from_one o.was_sent, low f.lane)

    -- 24 does not arise
    no_24 : clock_passes p f ≡ false
    no_24 =
        and_fails (is_next f (last_of p f.lane) && has_lane p.sources p.lane) (leb 65535 (max p.clock.0 f.stamp.0))
        (λ t.
        let n = (and_parts (is_next f (last_of p f.lane)) (has_lane p.sources p.lane) t).0 in
        lt-leb 65535 (max p.clock.0 f.stamp.0) (omega (arith, low lane, stamp_low (next_is f (last_of p f.lane) n).0)))

    -- the order that would be taken is above the last taken one
    above : is_next f (last_of p f.lane) ≡ true → 0 < last_of p f.lane → last_stamp p f < f.stamp.0
    above n h =
        let k = next_is f (last_of p f.lane) n in
        let o = sent k.0 in
        let last : ℕ = last_of p f.lane in
        let e : f.serial.0 ≡ suc last = k.1 ∙ add-one last in
        let own : last < (W f.lane).own = omega (arith, o.was_sent) in
        omega (
          arith,
          o.stamp_is,
          ap (stamp_of W f.lane) e,
          (y.selves f.lane).stamps_rise last h own,
          (y.posts_ok lane).knows.stamps_true f.lane last h (omega arith),
        )

    -- what is on the air, and is not the post's own, can be heard
    pub hearable_here : has_lane present lane ≡ true → f.sender ≢ lane → Hearable p f
    hearable_here e ne = record {
      here = rw (in_yard.its_posts, in_yard.its_lane) e;
      clock = λ n q. omega (arith, low lane, stamp_low (next_is f (last_of p f.lane) n).0);
      other = λ q. ne (q ∙ in_yard.its_lane);
      sender = rw in_yard.its_posts fo.sender_present;
      source = λ k. let o = sent k in rw in_yard.its_sources (sends_source (roles_of present sources dests) (yard_view w) y f.lane (omega (arith, o.from_one, o.was_sent)));
      entries = λ i l h. rw in_yard.its_sources (entry_source i h);
      above = above;
      own_order = λ k q. omega (arith, rw (q, in_yard.its_lane) at (sent k).was_sent);
      own_entry = λ h. let t = rw in_yard.its_lane at h in let o = fo.entries_hold lane t in rw in_yard.its_lane (o.serial_sent, o.clock_reached);
    }
      where
        entry_source : (i : ℕ) → 0 < (entry_of f i).stamp.0 → has_lane sources i ≡ true
        entry_source i h = go (true_or_false (has_lane sources i))
          where
            go : (has_lane sources i ≡ true) ⊎ (has_lane sources i ≡ false) → has_lane sources i ≡ true
            go (inl e) = e
            go (inr e) = absurd (omega (arith, (fo.entries_hold i h).clock_reached, ((y.selves i).idle_unless_source e).1))

    -- so the post refuses by 21 and 26 alone
    pub hear_number_lem : hear_refusal p f ≡ cond (not (has_lane present lane)) 21 (cond (eqb f.sender lane) 26 0)
    hear_number_lem = go (true_or_false (has_lane present lane)) (same_or_not f.sender lane)
      where
        go : (has_lane present lane ≡ true) ⊎ (has_lane present lane ≡ false) → (f.sender ≡ lane) ⊎ (f.sender ≢ lane)
            → hear_refusal p f ≡ cond (not (has_lane present lane)) 21 (cond (eqb f.sender lane) 26 0)
        go (inr e) q = rw e (unfold hear_refusal in rw (in_yard.its_posts, in_yard.its_lane, e))
        go (inl e) (inl q) = rw (e, eq-eqb f.sender lane q) (unfold hear_refusal in rw (no_24, in_yard.its_posts, in_yard.its_lane, e, eq-eqb f.sender lane q))
        go (inl e) (inr q) = rw (e, ne_eqb f.sender lane q) (hear_not_refused p f (hearable_here e q))
