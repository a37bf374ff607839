-- A post changes and delivers, and a frame may be added to the air: what of that keeps a yard as it has to be. Assumes nothing.
use mathlib.Core.Path.{◌≡◌, refl, ap}
use mathlib.Core.Logic.{◌⊎◌, inl, inr, ◌≢◌}
use Prim.Native.Nat.{ℕ, suc, ◌≤◌, ◌<◌}
use native.Mathlib.Omega.{arith}
use Rattle.laws.proofs.TestLaws.{same_or_not}
use Rattle.laws.proofs.ListLaws.{Mem, Begins, begins_itself}
use Rattle.roll.specs.Runs.{Order}
use Rattle.roll.specs.Logs.{rank}
use Rattle.model.proofs.Functions.{upd, upd_same, upd_other, upd_case, upd2, upd2_same, upd2_keep}
use Rattle.model.proofs.Model.{Frame, Post, Roles, Yard, deliver}
use Rattle.model.proofs.Invariants.{RolesOk, Posts, Knows, TakenIn, LogOk, SelfOk, FrameOk, YardOk, Grew, grew_itself, Grows, grew, yard_posts_lem}
use Rattle.model.proofs.Delivery.{deliver_log, deliver_served, deliver_begins, known_rise, deliver_knows}

-- Z may follow Y: nothing that was sent, taken, logged or broadcast is lost
pub record Next (R : Roles) (Y Z : Yard) : Type 0 where
  pub next_ok : YardOk R Z
  pub posts_grew : Grew Y.posts Z.posts
  pub logs_begin : (i : ℕ) → Begins (Y.posts i).log (Z.posts i).log
  pub last_grows : (p i : ℕ) → (Y.posts p).last i ≤ (Z.posts p).last i
  pub frames_grow : Y.frames ≤ Z.frames
  pub air_stays : (k : ℕ) → k < Y.frames → Z.air k ≡ Y.air k
  pub first_stays : (i n : ℕ) → 0 < n → n ≤ (Y.posts i).own → Z.first i n ≡ Y.first i n

-- a yard that stays as it is
pub stay : (R : Roles) (Y : Yard) → YardOk R Y → Next R Y Y
stay R Y y = record {
  next_ok = y;
  posts_grew = grew_itself Y.posts;
  logs_begin = λ i. begins_itself (Y.posts i).log;
  last_grows = λ p i. omega arith;
  frames_grow = omega arith;
  air_stays = λ k l. refl;
  first_stays = λ i n a b. refl;
}

-- post p changes to Q and delivers, the air becomes `air`: what is to be shown of Q and of the frames
pub changed : (R : Roles) → RolesOk R → (Y : Yard) (p : ℕ) (Q : Post) → YardOk R Y → Grows p (Y.posts p) Q → SelfOk R p Q
    → Knows R (upd Y.posts p (deliver R p Q)) Q → LogOk Q → (Y.posts p).log ≡ Q.log → ((i : ℕ) → (Y.posts p).last i ≤ Q.last i)
    → (air : ℕ → Frame) (c : ℕ) (b : ℕ → ℕ) (first : ℕ → ℕ → ℕ) → Y.frames ≤ c → ((k : ℕ) → k < Y.frames → air k ≡ Y.air k)
    → ((i n : ℕ) → 0 < n → n ≤ (Y.posts i).own → first i n ≡ Y.first i n)
    → ((k : ℕ) → k < c → FrameOk R (upd Y.posts p (deliver R p Q)) (air k))
    → Next R Y (record { posts = upd Y.posts p (deliver R p Q); air = air; frames = c; beacons = b; first = first })
changed R ro Y p Q y g s k l e la air c b first more same firsts ok = record {
  next_ok = yard_posts_lem R Y p D y g s (record {
    knows = deliver_knows R ro W p Q self k;
    log_ok = deliver_log R p Q (known_rise R W Q k self) l;
    served = deliver_served R p Q l;
  }) air c b first ok;
  posts_grew = grew Y.posts p D g;
  logs_begin = λ i. upd_case (λ Z. Begins (Y.posts i).log Z.log) Y.posts p D i
      (λ q. rw (q, e) (deliver_begins R p Q)) (λ n. begins_itself (Y.posts i).log);
  last_grows = λ j i. upd_case (λ Z. (Y.posts j).last i ≤ Z.last i) Y.posts p D j (λ q. rw q (la i)) (λ n. omega arith);
  frames_grow = more;
  air_stays = same;
  first_stays = firsts;
}
  where
    D : Post
    D = deliver R p Q

    W : Posts
    W = upd Y.posts p (deliver R p Q)

    self : (i : ℕ) → SelfOk R i (W i)
    self i = upd_case (λ Z. SelfOk R i Z) Y.posts p (deliver R p Q) i (λ e. rw e s) (λ n. y.selves i)

-- ---- a frame added to the air

-- it leaves those that stand there
pub older_frames : (Y : Yard) (f : Frame) (k : ℕ) → k < Y.frames → upd Y.air Y.frames f k ≡ Y.air k
older_frames Y f k l = upd_other Y.air Y.frames f k (omega arith)

-- all frames are as they have to be where the old ones and the new one are
pub one_more_frame : (R : Roles) (Y : Yard) (W : Posts) (f : Frame) → ((k : ℕ) → k < Y.frames → FrameOk R W (Y.air k)) → FrameOk R W f
    → (k : ℕ) → k < suc Y.frames → FrameOk R W (upd Y.air Y.frames f k)
one_more_frame R Y W f old new k h = upd_case (λ g. FrameOk R W g) Y.air Y.frames f k (λ e. new) (λ e. old k (omega arith))

-- ---- an order taken: the next of lane i, serial n, with stamp s and word w

-- a serial up to the newest is the newest or one of the old
pub newest_or_old : (f : ℕ → ℕ) (i m j n : ℕ) → m ≡ suc (f i) → n ≤ upd f i m j → (j ≡ i → n ≢ m) → n ≤ f j
newest_or_old f i m j n e a ne = go (same_or_not j i)
  where
    go : (j ≡ i) ⊎ (j ≢ i) → n ≤ f j
    go (inl p) = rw p (omega (arith, ne p, rw (p, upd_same) at a))
    go (inr p) = rw (upd_other f i m j p) at a

-- the post with that order, its clock, own serial and table being c, o and t
abbrev with_order : Post → (i n s w c o : ℕ) → (ℕ → ℕ → ℕ) → Post
with_order P i n s w c o t = record {
  clock = c;
  own = o;
  last = upd P.last i n;
  table = t;
  stamps = upd2 P.stamps i n s;
  words = upd2 P.words i n w;
  log = P.log;
}

-- a stamp above those of the log keeps the log in order
pub take_log : (P : Post) → LogOk P → (i n s w : ℕ) → n ≡ suc (P.last i) → ((x : Order) → Mem x P.log → x.stamp < s)
    → (c o : ℕ) (t : ℕ → ℕ → ℕ) → LogOk (with_order P i n s w c o t)
take_log P l i n s w e h c o t = record {
  log_rises = l.log_rises;
  log_taken = λ x m. keep x (l.log_taken x m);
  log_closed = λ x y m k b. down x y m k b;
}
  where
    Q : Post
    Q = with_order P i n s w c o t

    keep : (x : Order) → TakenIn P 8 x → TakenIn Q 8 x
    keep x k = record {
      lane_below = k.lane_below;
      serial_from_one = k.serial_from_one;
      serial_taken = upd_case (λ z. x.serial ≤ z) P.last i n x.lane (λ q. omega (arith, rw q at k.serial_taken)) (λ q. k.serial_taken);
      as_kept = rw (
        upd2_keep P.stamps i n s x.lane x.serial (λ q. omega (arith, rw q at k.serial_taken)),
        upd2_keep P.words i n w x.lane x.serial (λ q. omega (arith, rw q at k.serial_taken)),
      ) k.as_kept;
    }

    back : (y : Order) → TakenIn Q 8 y → (y.lane ≡ i → y.serial ≢ n) → TakenIn P 8 y
    back y k ne = record {
      lane_below = k.lane_below;
      serial_from_one = k.serial_from_one;
      serial_taken = newest_or_old P.last i n y.lane y.serial e k.serial_taken ne;
      as_kept =
          rw (upd2_keep P.stamps i n s y.lane y.serial ne, upd2_keep P.words i n w y.lane y.serial ne) at k.as_kept;
    }

    down : (x y : Order) → Mem x P.log → TakenIn Q 8 y → rank y < rank x → Mem y P.log
    down x y m k b = go (same_or_not y.lane i) (same_or_not y.serial n)
      where
        go : (y.lane ≡ i) ⊎ (y.lane ≢ i) → (y.serial ≡ n) ⊎ (y.serial ≢ n) → Mem y P.log
        go (inl p) (inl q) =
            absurd (omega (arith, h x m, (l.log_taken x m).lane_below, rw (p, q, upd2_same) at (ap (λ (o : Order). o.stamp) k.as_kept)))
        go (inl p) (inr q) = l.log_closed x y m (back y k (λ z. q)) b
        go (inr p) q = l.log_closed x y m (back y k (λ z. absurd (p z))) b
