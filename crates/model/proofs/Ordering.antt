-- An order keeps a yard as it has to be. Assumes nothing.
use mathlib.Core.Path.{◌≡◌, refl, ap}
use mathlib.Core.Logic.{◌⊎◌, inl, inr, ◌≢◌}
use mathlib.Core.Bool.{true, false}
use Prim.Native.Nat.{ℕ, suc, ◌≤◌, ◌<◌}
use native.Mathlib.Omega.{arith}
use Rattle.laws.proofs.TestLaws.{same_or_not, not_both}
use Rattle.model.proofs.Functions.{upd, upd_same, upd_other, upd_case, upd2, upd2_same, upd2_keep, upd2_case}
use Rattle.model.proofs.Model.{Frame, Post, Roles, Yard, order_of, deliver, entries_frame, own_taken, order_done}
use Rattle.model.proofs.Invariants.{RolesOk, Posts, stamp_of, word_of, Holds, Knows, LogOk, SelfOk, FrameOk, YardOk, Grew, holds_grew, no_more_grew}
use Rattle.model.proofs.Invariants.{no_more_later, frame_grew, Grows, grew}
use Rattle.model.proofs.Entries.{broadcast_ok_lem}
use Rattle.model.proofs.Changes.{Next, changed, older_frames, one_more_frame, newest_or_old, take_log}

-- a source of the yard with serials left
pub order_ok : (R : Roles) → RolesOk R → (Y : Yard) (p w : ℕ) → R.source p ≡ true → R.present p ≡ true → (Y.posts p).own < 16 → YardOk R Y
    → Next R Y (order_done R Y p w)
order_ok R ro Y p w b present room y =
    changed R ro Y p Q y g s knows_after log_after refl later (upd Y.air Y.frames f) (suc Y.frames) Y.beacons
    (upd2 Y.first p (suc P.own) Y.frames) (omega arith) (older_frames Y f) firsts
    (one_more_frame R Y X f (λ k h. frame_grew R Y.posts X grown (Y.air k) (y.frames_ok k h)) fo)
  where
    -- the post before and after, the posts after the delivery, and the broadcast
    P : Post
    P = Y.posts p

    Q : Post
    Q = own_taken p w P

    X : Posts
    X = upd Y.posts p (deliver R p Q)

    f : Frame
    f = entries_frame false p (order_of Q p Q.own) Q

    -- the posts grow by the order
    g : Grows p P Q
    g = record {
      own_up = omega arith;
      clock_up = omega arith;
      stamps_kept = λ n a l. upd2_keep P.stamps p (suc P.own) (suc P.clock) p n (λ e. omega arith);
      words_kept = λ n a l. upd2_keep P.words p (suc P.own) w p n (λ e. omega arith);
      new_stamps = λ n a l. let e : n ≡ suc P.own = omega arith in rw (e, upd2_same) (omega arith);
    }

    grown : Grew Y.posts X
    grown = grew Y.posts p (deliver R p Q) g

    self_before : SelfOk R p P
    self_before = y.selves p

    knew_before : Knows R Y.posts P
    knew_before = (y.posts_ok p).knows

    -- of the post by itself: the new order has the highest stamp, which is the clock's
    keep : (n : ℕ) → n ≤ P.own → Q.stamps p n ≡ P.stamps p n
    keep n l = upd2_keep P.stamps p (suc P.own) (suc P.clock) p n (λ e. omega arith)

    rise : (n : ℕ) → 0 < n → n ≤ P.own → (n ≡ P.own) ⊎ (n ≢ P.own) → Q.stamps p n < Q.stamps p (suc n)
    rise n a l (inl e) = rw (keep n l, e, upd2_same) (omega (arith, self_before.stamps_under_clock n a l, ap (P.stamps p) e))
    rise n a l (inr e) = rw (keep n l, keep (suc n) (omega arith)) (self_before.stamps_rise n a (omega arith))

    s : SelfOk R p Q
    s = record {
      own_taken = upd_same P.last p (suc P.own);
      stamps_rise = λ n a l. rise n a (omega arith) (same_or_not n P.own);
      stamps_positive = λ n a. upd2_case (λ z. n ≤ suc P.own → 0 < z) P.stamps p (suc P.own) (suc P.clock) p n
          (λ e q l. omega arith) (λ q l. self_before.stamps_positive n a (omega (arith, q refl)));
      stamps_under_clock = λ n a. upd2_case (λ z. n ≤ suc P.own → z ≤ suc P.clock) P.stamps p (suc P.own) (suc P.clock) p n
          (λ e q l. omega arith) (λ q l. omega (arith, self_before.stamps_under_clock n a (omega (arith, q refl))));
      idle_unless_source = λ e. absurd (not_both (R.source p) b e);
      own_at_most = room;
      own_entry = λ e. upd2_same P.table p (suc P.own) (suc P.clock);
      clock_seen = λ e i n a. upd2_case (λ z. n ≤ Q.last i → z ≤ suc P.clock) P.stamps p (suc P.own) (suc P.clock) i n
          (λ q r l. omega arith)
          (λ q l. omega (arith, self_before.clock_seen b i n a (newest_or_old P.last p (suc P.own) i n (omega (arith, self_before.own_taken)) l q)));
    }

    -- what it knows is true: its own new entry, and all that it knew
    top : Holds X p (suc P.own) (suc P.clock)
    top = record {
      serial_sent = rw upd_same (omega arith);
      clock_reached = rw upd_same (omega arith);
      before_next = rw upd_same (λ l. absurd (omega arith));
    }

    last : (i : ℕ) → (i ≡ p) ⊎ (i ≢ p) → Q.last i ≤ (X i).own
    last i (inl e) = rw (e, upd_same P.last, upd_same Y.posts) (omega arith)
    last i (inr e) =
        rw (upd_other P.last p (suc P.own) i e, upd_other Y.posts p (deliver R p Q) i e) (knew_before.last_sent i)

    stamp : (i n : ℕ) → 0 < n → n ≤ Q.last i → (i ≡ p) ⊎ (i ≢ p) → Q.stamps i n ≡ stamp_of X i n
    stamp i n a l (inl e) = rw (e, stamp_of, upd_same) refl
    stamp i n a l (inr e) = rw (
      upd2_keep P.stamps p (suc P.own) (suc P.clock) i n (λ q. absurd (e q)),
      stamp_of,
      upd_other Y.posts p (deliver R p Q) i e,
    ) (knew_before.stamps_true i n a (rw (upd_other P.last p (suc P.own) i e) at l))

    word : (i n : ℕ) → 0 < n → n ≤ Q.last i → (i ≡ p) ⊎ (i ≢ p) → Q.words i n ≡ word_of X i n
    word i n a l (inl e) = rw (e, word_of, upd_same) refl
    word i n a l (inr e) = rw (
      upd2_keep P.words p (suc P.own) w i n (λ q. absurd (e q)),
      word_of,
      upd_other Y.posts p (deliver R p Q) i e,
    ) (knew_before.words_true i n a (rw (upd_other P.last p (suc P.own) i e) at l))

    later : (i : ℕ) → P.last i ≤ Q.last i
    later i = upd_case (λ z. P.last i ≤ z) P.last p (suc P.own) i (λ e. rw e (omega (arith, self_before.own_taken))) (λ e. omega arith)

    knows_after : Knows R X Q
    knows_after = record {
      entries_true = λ i n. upd2_case (λ z. 0 < z → Holds X i n z) P.table p (suc P.own) (suc P.clock) i n
          (λ e q h. rw (e, q) top) (λ q h. holds_grew Y.posts X grown i n (P.table i n) (knew_before.entries_true i n h));
      last_sent = λ i. last i (same_or_not i p);
      stamps_true = λ i n a l. stamp i n a l (same_or_not i p);
      words_true = λ i n a l. word i n a l (same_or_not i p);
      logged_no_more = λ x m i c. no_more_later X (P.last i) (Q.last i) x.stamp i (later i)
          (no_more_grew Y.posts X grown (P.last i) x.stamp i (knew_before.logged_no_more x m i c));
    }

    -- its log stays in order: the clock has passed all that is logged
    log_after : LogOk Q
    log_after = take_log P (y.posts_ok p).log_ok p (suc P.own) (suc P.clock) w (omega (arith, self_before.own_taken))
        (λ x m. omega (arith, (knew_before.logged_no_more x m p b).clock_past)) Q.clock Q.own Q.table

    -- its broadcast carries the order
    fo : FrameOk R X f
    fo = broadcast_ok_lem R X Q false p (order_of Q p Q.own) present knows_after (λ e. record {
      from_one = omega arith;
      was_sent = rw upd_same (omega arith);
      stamp_is = rw (stamp_of, upd_same) refl;
      word_is = rw (word_of, upd_same) refl;
    })

    -- the first frames of the orders there were
    firsts : (i n : ℕ) → 0 < n → n ≤ (Y.posts i).own → upd2 Y.first p (suc P.own) Y.frames i n ≡ Y.first i n
    firsts i n a l = upd2_keep Y.first p (suc P.own) Y.frames i n (λ e. omega (arith, rw e at l))
