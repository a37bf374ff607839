-- The list of all orders sent, and each log begins it by stamp and then lane. Assumes nothing.
use mathlib.Core.Path.{◌≡◌, refl, sym, ap, ◌∙◌}
use mathlib.Core.List.{List, [], ◌∷◌, ◌++◌, append-nil, append_assoc}
use mathlib.Core.Logic.{◌⊎◌, inl, inr, ◌≢◌}
use mathlib.Core.Bool.{Bool, true, false, cond}
use Prim.Native.Nat.{ℕ, suc, ◌≤◌, ◌<◌}
use native.Mathlib.Omega.{arith}
use lib.Dec.{eqb}
use borrow.Author.Tests.{eqb-true}
use Rattle.laws.proofs.TestLaws.{same_or_not}
use Rattle.laws.proofs.ListLaws.{Mem, mem_left, mem_right, mem_append, Begins}
use Rattle.yard.specs.Worlds.{Single, order, hear, beacon}
use Rattle.roll.specs.Runs.{Order}
use Rattle.roll.specs.Logs.{rank, in_order}
use Rattle.model.proofs.Functions.{le_or_not, upd_same, upd_other, upd2_same}
use Rattle.model.proofs.Model.{Frame, Post, Roles, Yard, order_of, order_refused, order_done, step, sent_by, run, sent, fresh_post, fresh}
use Rattle.model.proofs.OrderLists.{Apart, mem_in_order, in_order_mem, in_order_rises, apart_append, begins}
use Rattle.model.proofs.Invariants.{RolesOk, source_below, Posts, stamp_of, word_of, Sent, Knows, LogOk, YardOk, sends_source, Grew, sent_grew}
use Rattle.model.proofs.Hearing.{hear_own}
use Rattle.model.proofs.Steps.{order_pass, hear_or_refused, beacon_or_refused, step_ok}

-- an order sent, as its own post keeps it
pub sent_eq : (W : Posts) (x : Order) → Sent W x → x ≡ order_of (W x.lane) x.lane x.serial
sent_eq W x s = λ i. record { lane = x.lane; serial = x.serial; stamp = s.stamp_is i; word = s.word_is i }

-- S lists the orders that were sent, all of them, and they rank apart
pub record Lists (W : Posts) (S : List Order) : Type 0 where
  pub listed_sent : (x : Order) → Mem x S → Sent W x
  pub listed_lane : (x : Order) → Mem x S → x.lane < 8
  pub all_listed : (i n : ℕ) → 0 < n → n ≤ (W i).own → Mem (order_of (W i) i n) S
  pub listed_apart : Apart S

-- ---- a step adds to the list what it sends

-- an order that was sent stays as it is
old_order : (W X : Posts) → Grew W X → (i n : ℕ) → 0 < n → n ≤ (W i).own → order_of (X i) i n ≡ order_of (W i) i n
old_order W X g i n a b = rw (g.stamps_stay i n a b, g.words_stay i n a b) refl

-- nothing is sent
lists_same : (W X : Posts) → Grew W X → ((i : ℕ) → (X i).own ≡ (W i).own) → (S : List Order) → Lists W S → Lists X S
lists_same W X g e S l = record {
  listed_sent = λ x m. sent_grew W X g x (l.listed_sent x m);
  listed_lane = l.listed_lane;
  all_listed = λ i n a b. let c : n ≤ (W i).own = omega (arith, e i) in rw (old_order W X g i n a c) (l.all_listed i n a c);
  listed_apart = l.listed_apart;
}

-- the order that post p sends next with word w
abbrev pub next_order : Yard → ℕ → ℕ → Order
next_order Y p w = record { lane = p; serial = suc (Y.posts p).own; stamp = suc (Y.posts p).clock; word = w }

module _ (R : Roles) (ro : RolesOk R) where
  -- it is sent: its stamp is above all of its lane
  lists_order : (Y : Yard) (p w : ℕ) → R.source p ≡ true → YardOk R Y → Grew Y.posts (order_done R Y p w).posts
      → (S : List Order) → Lists Y.posts S → Lists (order_done R Y p w).posts (S ++ (next_order Y p w ∷ []))
  lists_order Y p w b y g S l = record {
    listed_sent = λ x m. either x (λ x. Sent X x) (λ n. sent_grew Y.posts X g x (l.listed_sent x n)) so m;
    listed_lane = λ x m. either x (λ x. x.lane < 8) (l.listed_lane x) (source_below R ro p b) m;
    all_listed = λ i n a c. all i n a c (le_or_not n (Y.posts i).own);
    listed_apart = apart_append S (o ∷ []) l.listed_apart ((λ z m. absurd m), tt) cross;
  }
    where
      o : Order
      o = next_order Y p w

      X : Posts
      X = (order_done R Y p w).posts

      so : Sent X o
      so = record {
        from_one = omega arith;
        was_sent = rw upd_same (omega arith);
        stamp_is = rw (stamp_of, upd_same, upd2_same) refl;
        word_is = rw (word_of, upd_same, upd2_same) refl;
      }

      either : (x : Order) (C : Order → Type 0) → (Mem x S → C x) → C o → Mem x (S ++ (o ∷ [])) → C x
      either x C f h m = go (mem_append x S (o ∷ []) m)
        where
          go : Mem x S ⊎ Mem x (o ∷ []) → C x
          go (inl n) = f n
          go (inr (inl e)) = rw e h
          go (inr (inr n)) = absurd n

      all : (i n : ℕ) → 0 < n → n ≤ (X i).own → (n ≤ (Y.posts i).own) ⊎ ((Y.posts i).own < n) → Mem (order_of (X i) i n) (S ++ (o ∷ []))
      all i n a c (inl h) = rw (old_order Y.posts X g i n a h) (mem_left (order_of (Y.posts i) i n) S (o ∷ []) (l.all_listed i n a h))
      all i n a c (inr h) = go (same_or_not i p)
        where
          go : (i ≡ p) ⊎ (i ≢ p) → Mem (order_of (X i) i n) (S ++ (o ∷ []))
          go (inl e) =
              let q : n ≡ suc (Y.posts p).own = omega (arith, rw (e, upd_same) at c, rw e at h) in
              mem_right (order_of (X i) i n) S (o ∷ []) (inl (rw (e, q, upd_same, upd2_same (Y.posts p).stamps, upd2_same (Y.posts p).words) refl))
          go (inr e) = absurd (omega (arith, rw (upd_other Y.posts p _ i e) at c))

      cross : (x z : Order) → Mem x S → Mem z (o ∷ []) → rank x ≢ rank z
      cross x z m (inl e) q =
          let k = rw e at q in
          let s = l.listed_sent x m in
          let j : x.lane ≡ p = omega (arith, l.listed_lane x m, source_below R ro p b) in
          omega (arith, k, s.stamp_is, (y.selves x.lane).stamps_under_clock x.serial s.from_one s.was_sent, ap (λ i. (Y.posts i).clock) j)
      cross x z m (inr n) q = n

  -- a step, refused or not
  pub step_lists : (Y : Yard) (s : Single) → YardOk R Y → (S : List Order) → Lists Y.posts S → Lists (step R Y s).posts (S ++ sent_by R Y s)
  unfolding step sent_by
  step_lists Y (order p w) y S l = go (eqb (order_refused R Y p w) 0) refl (step_ok R ro Y (order p w) y).posts_grew
    where
      go : (b : Bool) → eqb (order_refused R Y p w) 0 ≡ b → Grew Y.posts (cond b (order_done R Y p w) Y).posts
          → Lists (cond b (order_done R Y p w) Y).posts (S ++ cond b (next_order Y p w ∷ []) [])
      go true e g = lists_order Y p w (order_pass R Y p w (eqb-true (order_refused R Y p w) 0 e)).2 y g S l
      go false e g = rw append-nil l
  step_lists Y (hear p k) y S l =
      rw append-nil (lists_same Y.posts (step R Y (hear p k)).posts (step_ok R ro Y (hear p k) y).posts_grew same S l)
    where
      same : (i : ℕ) → ((step R Y (hear p k)).posts i).own ≡ (Y.posts i).own
      same i = hear_or_refused R Y (λ Z. (Z.posts i).own ≡ (Y.posts i).own) p k (λ e. hear_own R Y p (Y.air k) i) refl
  step_lists Y (beacon p) y S l = rw append-nil (beacon_or_refused R Y (λ Z. Lists Z.posts S) p (λ e. l) l)

  -- a list of them
  pub run_lists : (Y : Yard) (l : List Single) → YardOk R Y → (S : List Order) → Lists Y.posts S → Lists (run R Y l).posts (S ++ sent R Y l)
  unfolding run sent
  run_lists Y [] y S k = rw append-nil k
  run_lists Y (s ∷ l) y S k = rw (← append_assoc S (sent_by R Y s) (sent R (step R Y s) l))
      (run_lists (step R Y s) l (step_ok R ro Y s y).next_ok (S ++ sent_by R Y s) (step_lists Y s y S k))

  -- ---- each log begins the list of orders sent, by stamp and then lane

  -- and that of any post, destination or not
  pub log_begins : (Y : Yard) → YardOk R Y → (S : List Order) → Lists Y.posts S → (p : ℕ) → Begins (Y.posts p).log (in_order S)
  log_begins Y y S l p = begins P.log (in_order S) lo.log_rises (in_order_rises S l.listed_apart)
      (λ x m. mem_in_order x S (sub x m)) (λ x z m n h. down x z m (in_order_mem z S n) h)
    where
      P : Post
      P = Y.posts p

      lo : LogOk P
      lo = (y.posts_ok p).log_ok

      kn : Knows R Y.posts P
      kn = (y.posts_ok p).knows

      known : (i n : ℕ) → 0 < n → n ≤ P.last i → order_of P i n ≡ order_of (Y.posts i) i n
      known i n a b = rw (kn.stamps_true i n a b, kn.words_true i n a b) refl

      -- what is logged was sent
      sub : (x : Order) → Mem x P.log → Mem x S
      sub x m = let t = lo.log_taken x m in
          rw (t.as_kept ∙ known x.lane x.serial t.serial_from_one t.serial_taken)
          (l.all_listed x.lane x.serial t.serial_from_one (omega (arith, t.serial_taken, kn.last_sent x.lane)))

      -- what was sent and ranks below something logged is logged: it was taken, as its lane sends no more up to that
      down : (x z : Order) → Mem x P.log → Mem z S → rank z < rank x → Mem z P.log
      down x z m n h = go (le_or_not z.serial (P.last z.lane))
        where
          s : Sent Y.posts z
          s = l.listed_sent z n

          source : R.source z.lane ≡ true
          source = sends_source R Y y z.lane (omega (arith, s.from_one, s.was_sent))

          go : (z.serial ≤ P.last z.lane) ⊎ (P.last z.lane < z.serial) → Mem z P.log
          go (inl a) = lo.log_closed x z m (record {
            lane_below = l.listed_lane z n;
            serial_from_one = s.from_one;
            serial_taken = a;
            as_kept = sent_eq Y.posts z s ∙ sym (known z.lane z.serial s.from_one a);
          }) h
          go (inr a) = absurd (omega (
            arith,
            s.stamp_is,
            (lo.log_taken x m).lane_below,
            (kn.logged_no_more x m z.lane source).later_above z.serial a s.was_sent,
          ))

-- ---- a fresh yard

-- is as it has to be
pub fresh_ok : (R : Roles) (air : ℕ → Frame) → YardOk R (fresh air)
unfolding fresh fresh_post
fresh_ok R air = record {
  selves = λ p. record {
    own_taken = refl;
    stamps_rise = λ n b c. absurd (omega arith);
    stamps_positive = λ n b c. absurd (omega arith);
    stamps_under_clock = λ n b c. absurd (omega arith);
    idle_unless_source = λ e. (refl, refl);
    own_at_most = omega arith;
    own_entry = λ e. refl;
    clock_seen = λ e i n b c. absurd (omega arith);
  };
  posts_ok = λ p. record {
    knows = record {
      entries_true = λ i n h. absurd (omega arith);
      last_sent = λ i. omega arith;
      stamps_true = λ i n b c. refl;
      words_true = λ i n b c. refl;
      logged_no_more = λ x m. absurd m;
    };
    log_ok = record { log_rises = tt; log_taken = λ x m. absurd m; log_closed = λ x z m. absurd m };
    served = λ d i n b c e. absurd (omega arith);
  };
  frames_ok = λ k h. absurd (omega arith);
}

-- and nothing was sent
pub fresh_lists : (air : ℕ → Frame) → Lists (fresh air).posts []
unfolding fresh fresh_post
fresh_lists air = record {
  listed_sent = λ x m. absurd m;
  listed_lane = λ x m. absurd m;
  all_listed = λ i n b c. absurd (omega arith);
  listed_apart = tt;
}
