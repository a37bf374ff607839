-- A hearing keeps a yard as it has to be, whether the order is taken or not. Assumes nothing.
use mathlib.Core.Path.{◌≡◌, refl, sym, ◌∙◌}
use mathlib.Core.Logic.{◌⊎◌, inl, inr, ◌≢◌}
use mathlib.Core.Bool.{Bool, true, false, cond, ◌&&◌, not}
use Prim.Native.Nat.{ℕ, suc, ◌≤◌, ◌<◌, max}
use native.Mathlib.Omega.{arith}
use lib.Dec.{eqb}
use borrow.Author.Tests.{eqb-true, eqb-false}
use Rattle.laws.proofs.TestLaws.{same_or_not, not_both}
use Rattle.roll.specs.Runs.{Order}
use Rattle.model.proofs.Functions.{upd, upd_same, upd_other, upd_case, upd2, upd2_same, upd2_keep, upd2_case}
use Rattle.model.proofs.Model.{Frame, Post, Roles, Yard, deliver, entries_frame, raise, raised, taken, silent, spoken, hear_done}
use Rattle.model.proofs.Invariants.{RolesOk, Posts, stamp_of, word_of, Holds, Sent, Knows, LogOk, SelfOk, FrameOk, YardOk, sends_source, Grew}
use Rattle.model.proofs.Invariants.{holds_grew, sent_grew, no_more_grew, no_more_later, knows_grew, frame_grew, Grows, grew}
use Rattle.model.proofs.Entries.{raise_true, raise_own, broadcast_ok_lem}
use Rattle.model.proofs.Changes.{Next, changed, older_frames, one_more_frame, newest_or_old, take_log}

-- ---- the two ways of a hearing

-- the post that takes the order, having heard the entries
abbrev pub post_taking : Roles → ℕ → Post → Frame → Post
post_taking R p P f = taken R p f.carried (raised P f)

-- the yard where the order is taken: it is broadcast on
abbrev pub yard_taking : Roles → Yard → ℕ → Frame → Yard
yard_taking R Y p f =
    spoken Y p (deliver R p (post_taking R p (Y.posts p) f)) (entries_frame false p f.carried (post_taking R p (Y.posts p) f))

-- the yard where only the entries are heard
abbrev pub yard_hearing : Roles → Yard → ℕ → Frame → Yard
yard_hearing R Y p f = silent Y p (deliver R p (raised (Y.posts p) f))

-- the frame carries the order that post p takes next
abbrev pub IsNext : Yard → ℕ → Frame → Type 0
IsNext Y p f = (f.beacon ≡ false) × (f.carried.serial ≡ suc ((Y.posts p).last f.carried.lane))

-- what holds of the yard in both ways holds after a hearing
pub taken_or_not : (C : Yard → Type 0) (R : Roles) (Y : Yard) (p : ℕ) (f : Frame)
    → (IsNext Y p f → C (yard_taking R Y p f)) → ((IsNext Y p f → ⊥) → C (yard_hearing R Y p f)) → C (hear_done R Y p f)
unfolding hear_done
taken_or_not C R Y p f took heard = go f.beacon (eqb f.carried.serial (suc ((Y.posts p).last f.carried.lane))) refl refl
  where
    go : (a b : Bool) → f.beacon ≡ a → eqb f.carried.serial (suc ((Y.posts p).last f.carried.lane)) ≡ b
        → C (cond (not a && b) (yard_taking R Y p f) (yard_hearing R Y p f))
    go true b q r = heard (λ n. not_both f.beacon q n.0)
    go false true q r = took (q, eqb-true f.carried.serial (suc ((Y.posts p).last f.carried.lane)) r)
    go false false q r = heard (λ n. eqb-false f.carried.serial (suc ((Y.posts p).last f.carried.lane)) r n.1)

-- ---- the order is taken

-- a clock that takes does not sink
clock_le : (b : Bool) (c t : ℕ) → c ≤ cond b (suc (max c t)) c
clock_le true c t = omega arith
clock_le false c t = omega arith

-- a post of the yard takes the next order of a lane
pub taking_ok : (R : Roles) → RolesOk R → (Y : Yard) (p : ℕ) (f : Frame) → R.present p ≡ true → FrameOk R Y.posts f → IsNext Y p f
    → YardOk R Y → Next R Y (yard_taking R Y p f)
taking_ok R ro Y p f present fo next y =
    changed R ro Y p Q y g s knows_after log_after refl later (upd Y.air Y.frames h) (suc Y.frames) Y.beacons Y.first
    (omega arith) (older_frames Y h) (λ i n a l. refl)
    (one_more_frame R Y X h (λ k l. frame_grew R Y.posts X grown (Y.air k) (y.frames_ok k l)) broadcast_ok)
  where
    -- the order, which was sent and is the next of its lane
    o : Order
    o = f.carried

    sent_before : Sent Y.posts o
    sent_before = fo.order_sent next.0

    e : o.serial ≡ suc ((Y.posts p).last o.lane)
    e = next.1

    -- the post before and after, the posts after the delivery, and the broadcast
    P : Post
    P = Y.posts p

    Q : Post
    Q = post_taking R p P f

    X : Posts
    X = upd Y.posts p (deliver R p Q)

    h : Frame
    h = entries_frame false p o Q

    self_before : SelfOk R p P
    self_before = y.selves p

    knew_before : Knows R Y.posts P
    knew_before = (y.posts_ok p).knows

    -- it is of another lane: this post has taken all of its own
    ne : p ≢ o.lane
    ne q = omega (arith, rw (← q) at sent_before.was_sent, rw (← q) at e, self_before.own_taken)

    keep : (n : ℕ) → Q.stamps p n ≡ P.stamps p n
    keep n = upd2_keep P.stamps o.lane o.serial o.stamp p n (λ q. absurd (ne q))

    clock_rises : P.clock ≤ Q.clock
    clock_rises = clock_le (R.source p) P.clock o.stamp

    -- the posts grow, by a clock at most
    g : Grows p P Q
    g = record {
      own_up = omega arith;
      clock_up = clock_rises;
      stamps_kept = λ n a l. keep n;
      words_kept = λ n a l. upd2_keep P.words o.lane o.serial o.word p n (λ q. absurd (ne q));
      new_stamps = λ n a l. absurd (omega arith);
    }

    grown : Grew Y.posts X
    grown = grew Y.posts p (deliver R p Q) g

    -- of the post by itself: its clock and own entry follow the stamp
    s : SelfOk R p Q
    s = record {
      own_taken = upd_other P.last o.lane o.serial p ne ∙ self_before.own_taken;
      stamps_rise = λ n a l. rw (keep n, keep (suc n)) (self_before.stamps_rise n a l);
      stamps_positive = λ n a l. rw (keep n) (self_before.stamps_positive n a l);
      stamps_under_clock = λ n a l. rw (keep n) (omega (arith, self_before.stamps_under_clock n a l, clock_rises));
      idle_unless_source = λ q. rw q (self_before.idle_unless_source q);
      own_at_most = self_before.own_at_most;
      own_entry = λ b. rw (b, upd2_same) refl;
      clock_seen = λ b i n a. upd2_case (λ z. n ≤ Q.last i → z ≤ Q.clock) P.stamps o.lane o.serial o.stamp i n
          (λ q r l. rw b (omega arith))
          (λ q l. omega (arith, clock_rises, self_before.clock_seen b i n a (newest_or_old P.last o.lane o.serial i n e l q)));
    }

    -- what it knows is true
    sent_after : Sent X o
    sent_after = sent_grew Y.posts X grown o sent_before

    top : R.source p ≡ true → Holds X p P.own (suc (max P.clock o.stamp))
    top b = record {
      serial_sent = rw upd_same (omega arith);
      clock_reached = rw (upd_same, b) (omega arith);
      before_next = rw upd_same (λ l. absurd (omega arith));
    }

    -- the table raised by the entries
    T : ℕ → ℕ → ℕ
    T = raise P.table f.entry_serial f.entry_stamp

    true_t : (i n : ℕ) → 0 < T i n → Holds X i n (T i n)
    true_t i n l = holds_grew Y.posts X grown i n (T i n)
        (raise_true Y.posts P.table f.entry_serial f.entry_stamp knew_before.entries_true fo.entries_hold i n l)

    -- and by a source's new clock
    true_table : (b : Bool) → R.source p ≡ b → (i n : ℕ) → 0 < cond b (upd2 T p P.own (suc (max P.clock o.stamp))) T i n
        → Holds X i n (cond b (upd2 T p P.own (suc (max P.clock o.stamp))) T i n)
    true_table true b i n = upd2_case (λ z. 0 < z → Holds X i n z) T p P.own (suc (max P.clock o.stamp)) i n
        (λ q r l. rw (q, r) (top b)) (λ q l. true_t i n l)
    true_table false b i n = true_t i n

    last : (i : ℕ) → (i ≡ o.lane) ⊎ (i ≢ o.lane) → Q.last i ≤ (X i).own
    last i (inl q) = rw (q, upd_same P.last) sent_after.was_sent
    last i (inr q) = rw (upd_other P.last o.lane o.serial i q) (omega (arith, knew_before.last_sent i, grown.own_grows i))

    old : (i n : ℕ) → n ≤ Q.last i → (i ≡ o.lane → n ≢ o.serial) → n ≤ P.last i
    old i n l q = newest_or_old P.last o.lane o.serial i n e l q

    later : (i : ℕ) → P.last i ≤ Q.last i
    later i = upd_case (λ z. P.last i ≤ z) P.last o.lane o.serial i (λ q. rw q (omega (arith, e))) (λ q. omega arith)

    knows_after : Knows R X Q
    knows_after = record {
      entries_true = true_table (R.source p) refl;
      last_sent = λ i. last i (same_or_not i o.lane);
      stamps_true = λ i n a. upd2_case (λ z. n ≤ Q.last i → z ≡ stamp_of X i n) P.stamps o.lane o.serial o.stamp i n
          (λ q r l. rw (q, r) sent_after.stamp_is)
          (λ q l. knew_before.stamps_true i n a (old i n l q) ∙ sym (grown.stamps_stay i n a (omega (arith, old i n l q, knew_before.last_sent i))));
      words_true = λ i n a. upd2_case (λ z. n ≤ Q.last i → z ≡ word_of X i n) P.words o.lane o.serial o.word i n
          (λ q r l. rw (q, r) sent_after.word_is)
          (λ q l. knew_before.words_true i n a (old i n l q) ∙ sym (grown.words_stay i n a (omega (arith, old i n l q, knew_before.last_sent i))));
      logged_no_more = λ x m i c. no_more_later X (P.last i) (Q.last i) x.stamp i (later i)
          (no_more_grew Y.posts X grown (P.last i) x.stamp i (knew_before.logged_no_more x m i c));
    }

    -- its log stays in order: the lane sends no more up to what is logged
    source : R.source o.lane ≡ true
    source = sends_source R Y y o.lane (omega (arith, sent_before.from_one, sent_before.was_sent))

    log_after : LogOk Q
    log_after = take_log P (y.posts_ok p).log_ok o.lane o.serial o.stamp o.word e
        (λ x m. omega (arith, sent_before.stamp_is, (knew_before.logged_no_more x m o.lane source).later_above o.serial (omega (arith, e)) sent_before.was_sent))
        Q.clock Q.own Q.table

    -- its broadcast carries the order on
    broadcast_ok : FrameOk R X h
    broadcast_ok = broadcast_ok_lem R X Q false p o present knows_after (λ q. sent_after)

-- ---- only the entries are heard

-- whatever the frame
pub hearing_ok : (R : Roles) → RolesOk R → (Y : Yard) (p : ℕ) (f : Frame) → FrameOk R Y.posts f → YardOk R Y → Next R Y (yard_hearing R Y p f)
hearing_ok R ro Y p f fo y =
    changed R ro Y p Q y g s knows_after log_after refl (λ i. omega arith) Y.air Y.frames Y.beacons Y.first
    (omega arith) (λ k l. refl) (λ i n a l. refl)
    (λ k l. frame_grew R Y.posts X grown (Y.air k) (y.frames_ok k l))
  where
    P : Post
    P = Y.posts p

    Q : Post
    Q = raised P f

    X : Posts
    X = upd Y.posts p (deliver R p Q)

    self_before : SelfOk R p P
    self_before = y.selves p

    -- of the post by itself: its own entry stands
    s : SelfOk R p Q
    s = record {
      own_taken = self_before.own_taken;
      stamps_rise = self_before.stamps_rise;
      stamps_positive = self_before.stamps_positive;
      stamps_under_clock = self_before.stamps_under_clock;
      idle_unless_source = self_before.idle_unless_source;
      own_at_most = self_before.own_at_most;
      clock_seen = self_before.clock_seen;
      own_entry = λ b. raise_own R Y.posts p f.entry_serial f.entry_stamp self_before b (fo.entries_hold p) ∙ self_before.own_entry b;
    }

    g : Grows p P Q
    g = record {
      own_up = omega arith;
      clock_up = omega arith;
      stamps_kept = λ n a l. refl;
      words_kept = λ n a l. refl;
      new_stamps = λ n a l. absurd (omega arith);
    }

    grown : Grew Y.posts X
    grown = grew Y.posts p (deliver R p Q) g

    kx : Knows R X P
    kx = knows_grew R Y.posts X grown P (y.posts_ok p).knows

    knows_after : Knows R X Q
    knows_after = record {
      entries_true = raise_true X P.table f.entry_serial f.entry_stamp kx.entries_true (frame_grew R Y.posts X grown f fo).entries_hold;
      last_sent = kx.last_sent;
      stamps_true = kx.stamps_true;
      words_true = kx.words_true;
      logged_no_more = kx.logged_no_more;
    }

    log_after : LogOk Q
    log_after = let l = (y.posts_ok p).log_ok in record { log_rises = l.log_rises; log_taken = l.log_taken; log_closed = l.log_closed }

-- ---- either way

-- a post of the yard hears a frame
pub hear_ok : (R : Roles) → RolesOk R → (Y : Yard) (p : ℕ) (f : Frame) → R.present p ≡ true → FrameOk R Y.posts f → YardOk R Y
    → Next R Y (hear_done R Y p f)
hear_ok R ro Y p f present fo y =
    taken_or_not (λ Z. Next R Y Z) R Y p f (λ n. taking_ok R ro Y p f present fo n y) (λ n. hearing_ok R ro Y p f fo y)

-- no order is sent
pub hear_own : (R : Roles) (Y : Yard) (p : ℕ) (f : Frame) (i : ℕ) → ((hear_done R Y p f).posts i).own ≡ (Y.posts i).own
hear_own R Y p f i = taken_or_not (λ Z. (Z.posts i).own ≡ (Y.posts i).own) R Y p f
    (λ n. same (deliver R p (post_taking R p (Y.posts p) f)) refl) (λ n. same (deliver R p (raised (Y.posts p) f)) refl)
  where
    same : (Q : Post) → Q.own ≡ (Y.posts p).own → (upd Y.posts p Q i).own ≡ (Y.posts i).own
    same Q e = upd_case (λ Z. Z.own ≡ (Y.posts i).own) Y.posts p Q i (λ q. rw q e) (λ q. refl)

-- and no beacon
pub hear_beacons : (R : Roles) (Y : Yard) (p : ℕ) (f : Frame) → (hear_done R Y p f).beacons ≡ Y.beacons
hear_beacons R Y p f = taken_or_not (λ Z. Z.beacons ≡ Y.beacons) R Y p f (λ n. refl) (λ n. refl)
