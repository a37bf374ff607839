-- The air: how many frames there are, how high a clock can stand, and which frame is the first of an order. Assumes nothing.
use mathlib.Core.Path.{◌≡◌, refl}
use mathlib.Core.List.{List, [], ◌∷◌}
use mathlib.Core.Logic.{◌≢◌}
use mathlib.Core.Bool.{Bool, true, false, cond}
use Prim.Native.Nat.{ℕ, suc, ◌+◌, ◌≤◌, ◌<◌, max}
use native.Mathlib.Omega.{arith}
use Rattle.yard.specs.Worlds.{Single, order, hear, beacon}
use Rattle.roll.specs.Runs.{Order}
use Rattle.model.proofs.Functions.{upd, upd_same, upd_other, upd_case, upd2_case, sum_below, sum_same, sum_more, sum_bound}
use Rattle.model.proofs.Model.{Frame, Post, Roles, Yard, order_of, deliver, entries_frame, no_order_lem, own_taken, raised, hear_refused, order_done}
use Rattle.model.proofs.Model.{beacon_done, hear_done, step, run, fresh_post, fresh}
use Rattle.model.proofs.Invariants.{RolesOk, source_below, Posts, Sent, FrameOk, YardOk, sends_source}
use Rattle.model.proofs.Changes.{older_frames}
use Rattle.model.proofs.Hearing.{post_taking, yard_taking, yard_hearing, IsNext, taken_or_not}
use Rattle.model.proofs.Steps.{order_pass, hear_pass, beacon_pass, order_or_refused, hear_or_refused, beacon_or_refused, step_ok}

-- how many orders were taken, all posts and lanes together
unfoldable pub total : Posts → ℕ
total W = sum_below 8 (λ p. sum_below 8 (W p).last)

-- the frame carries the order of lane i with serial n
abbrev pub IsOf : Frame → ℕ → ℕ → Type 0
IsOf f i n = (f.beacon ≡ false) × (f.carried.lane ≡ i) × (f.carried.serial ≡ n)

-- of c frames on the air, frame k is the first of that order, and is its own lane's broadcast
pub record First (air : ℕ → Frame) (c i n k : ℕ) : Type 0 where
  pub on_air : k < c
  pub is_of : IsOf (air k) i n
  pub from_its_lane : (air k).sender ≡ i
  pub none_earlier : (j : ℕ) → j < k → IsOf (air j) i n → ⊥

-- each order taken and each beacon is a frame; no clock is above the number of orders taken; `first` is what it is called
pub record AirOk (Y : Yard) : Type 0 where
  pub frames_count : Y.frames ≡ total Y.posts + sum_below 8 Y.beacons
  pub clocks_under : (i : ℕ) → (Y.posts i).clock ≤ total Y.posts
  pub beacons_at_most : (i : ℕ) → Y.beacons i ≤ 128
  pub first_frames : (i n : ℕ) → 0 < n → n ≤ (Y.posts i).own → First Y.air Y.frames i n (Y.first i n)

-- a first frame stays it as frames are added
pub first_later : (a b : ℕ → Frame) (c d i n k : ℕ) → First a c i n k → c ≤ d → ((j : ℕ) → j < c → b j ≡ a j) → First b d i n k
first_later a b c d i n k f l h = record {
  on_air = omega (arith, f.on_air);
  is_of = rw (h k f.on_air) f.is_of;
  from_its_lane = rw (h k f.on_air) f.from_its_lane;
  none_earlier = λ j m e. f.none_earlier j m (rw (h j (omega (arith, f.on_air))) at e);
}

-- nothing on the air is of an order not yet sent
unsent : (R : Roles) (Y : Yard) → YardOk R Y → (i n j : ℕ) → (Y.posts i).own < n → j < Y.frames → IsOf (Y.air j) i n → ⊥
unsent R Y y i n j l m e = omega (arith, e.2, rw e.1 at ((y.frames_ok j m).order_sent e.0).was_sent)

-- ---- the number of orders taken

-- one post took one order more
total_more : (W : Posts) (p j : ℕ) (Q : Post) → p < 8 → j < 8 → Q.last ≡ upd (W p).last j (suc ((W p).last j))
    → total (upd W p Q) ≡ suc (total W)
unfolding total
total_more W p j Q l m e = sum_more (λ q. sum_below 8 (W q).last) (λ q. sum_below 8 (upd W p Q q).last) 8 p l
    (λ i n. rw (upd_other W p Q i n) refl)
    (rw (upd_same, e) (sum_more (W p).last (upd (W p).last j (suc ((W p).last j))) 8 j m
    (λ i n. upd_other (W p).last j (suc ((W p).last j)) i n) (upd_same (W p).last j (suc ((W p).last j)))))

-- none did
total_same : (W : Posts) (p : ℕ) (Q : Post) → Q.last ≡ (W p).last → total (upd W p Q) ≡ total W
unfolding total
total_same W p Q e = sum_same (λ q. sum_below 8 (W q).last) (λ q. sum_below 8 (upd W p Q q).last) 8
    (λ i l. upd_case (λ Z. sum_below 8 Z.last ≡ sum_below 8 (W i).last) W p Q i (λ q. rw (q, e) refl) (λ n. refl))

-- at most 16 of each lane by each post
pub total_bound : (R : Roles) (Y : Yard) → YardOk R Y → total Y.posts ≤ 1024
unfolding total
total_bound R Y y = omega (arith, sum_bound (λ p. sum_below 8 (Y.posts p).last) 8 128 each)
  where
    each : (p : ℕ) → sum_below 8 (Y.posts p).last ≤ 128
    each p = sum_bound (Y.posts p).last 8 16 (λ i. omega (arith, (y.posts_ok p).knows.last_sent i, (y.selves i).own_at_most))

-- so there are at most 2,048 frames
pub frames_bound : (R : Roles) (Y : Yard) → YardOk R Y → AirOk Y → Y.frames ≤ 2048
frames_bound R Y y a = omega (arith, a.frames_count, sum_bound Y.beacons 8 128 a.beacons_at_most, total_bound R Y y)

-- no clock is above 1,024
pub clock_bound : (R : Roles) (Y : Yard) → YardOk R Y → AirOk Y → (i : ℕ) → (Y.posts i).clock ≤ 1024
clock_bound R Y y a i = omega (arith, a.clocks_under i, total_bound R Y y)

-- ---- every step keeps the air as it has to be

-- order: its broadcast is the first frame of the order
order_air : (R : Roles) (Y : Yard) (p w : ℕ) → p < 8 → YardOk R Y → AirOk Y → AirOk (order_done R Y p w)
order_air R Y p w l y a = record {
  frames_count = omega (arith, more, a.frames_count);
  clocks_under = λ i. upd_case (λ Z. Z.clock ≤ total X) Y.posts p D i
      (λ q. omega (arith, more, a.clocks_under p)) (λ q. omega (arith, more, a.clocks_under i));
  beacons_at_most = a.beacons_at_most;
  first_frames = λ i n b h. upd2_case (λ k. First (upd Y.air Y.frames f) (suc Y.frames) i n k) Y.first p (suc P.own) Y.frames i n
      (λ q r. rw (q, r) new) (λ q. old i n b (was i n q h));
}
  where
    P : Post
    P = Y.posts p

    Q : Post
    Q = own_taken p w P

    D : Post
    D = deliver R p Q

    X : Posts
    X = upd Y.posts p D

    f : Frame
    f = entries_frame false p (order_of Q p Q.own) Q

    more : total X ≡ suc (total Y.posts)
    more = total_more Y.posts p p D l l (rw (y.selves p).own_taken refl)

    -- the orders that there were
    was : (i n : ℕ) → (i ≡ p → n ≢ suc P.own) → n ≤ (X i).own → n ≤ (Y.posts i).own
    was i n ne = upd_case (λ Z. n ≤ Z.own → n ≤ (Y.posts i).own) Y.posts p D i (λ q h. rw q (omega (arith, ne q))) (λ q h. h)

    old : (i n : ℕ) → 0 < n → n ≤ (Y.posts i).own → First (upd Y.air Y.frames f) (suc Y.frames) i n (Y.first i n)
    old i n b h = first_later Y.air (upd Y.air Y.frames f) Y.frames (suc Y.frames) i n (Y.first i n)
        (a.first_frames i n b h) (omega arith) (older_frames Y f)

    -- and the new one
    new : First (upd Y.air Y.frames f) (suc Y.frames) p (suc P.own) Y.frames
    new = record {
      on_air = omega arith;
      is_of = rw upd_same (refl, refl, refl);
      from_its_lane = rw upd_same refl;
      none_earlier = λ j m e. unsent R Y y p (suc P.own) j (omega arith) m (rw (older_frames Y f j m) at e);
    }

-- a step that sends no order, and adds to the air at most
first_same : (Y : Yard) (p : ℕ) (Q : Post) → Q.own ≡ (Y.posts p).own → (g : ℕ → Frame) (c : ℕ) → Y.frames ≤ c
    → ((j : ℕ) → j < Y.frames → g j ≡ Y.air j) → AirOk Y → (i n : ℕ) → 0 < n → n ≤ (upd Y.posts p Q i).own → First g c i n (Y.first i n)
first_same Y p Q e g c l h a i n b =
    upd_case (λ Z. n ≤ Z.own → First g c i n (Y.first i n)) Y.posts p Q i (λ q m. old (rw (e, ← q) at m)) (λ q m. old m)
  where
    old : n ≤ (Y.posts i).own → First g c i n (Y.first i n)
    old m = first_later Y.air g Y.frames c i n (Y.first i n) (a.first_frames i n b m) l h

-- hear, the order is taken: a clock passes its stamp by one at most
taking_air : (R : Roles) → RolesOk R → (Y : Yard) (p : ℕ) (f : Frame) → p < 8 → FrameOk R Y.posts f → IsNext Y p f → YardOk R Y → AirOk Y
    → AirOk (yard_taking R Y p f)
taking_air R ro Y p f l fo next y a = record {
  frames_count = omega (arith, more, a.frames_count);
  clocks_under = λ i. upd_case (λ Z. Z.clock ≤ total X) Y.posts p D i (λ q. clock (R.source p)) (λ q. omega (arith, more, a.clocks_under i));
  beacons_at_most = a.beacons_at_most;
  first_frames = first_same Y p D refl (upd Y.air Y.frames h) (suc Y.frames) (omega arith) (older_frames Y h) a;
}
  where
    o : Order
    o = f.carried

    order_sent : Sent Y.posts o
    order_sent = fo.order_sent next.0

    Q : Post
    Q = post_taking R p (Y.posts p) f

    D : Post
    D = deliver R p Q

    X : Posts
    X = upd Y.posts p D

    h : Frame
    h = entries_frame false p o Q

    source : R.source o.lane ≡ true
    source = sends_source R Y y o.lane (omega (arith, order_sent.from_one, order_sent.was_sent))

    more : total X ≡ suc (total Y.posts)
    more = total_more Y.posts p o.lane D l (source_below R ro o.lane source) (rw next.1 refl)

    low : o.stamp ≤ total Y.posts
    low = omega (arith, order_sent.stamp_is, (y.selves o.lane).stamps_under_clock o.serial order_sent.from_one order_sent.was_sent, a.clocks_under o.lane)

    clock : (b : Bool) → cond b (suc (max (Y.posts p).clock o.stamp)) (Y.posts p).clock ≤ total X
    clock true = omega (arith, more, low, a.clocks_under p)
    clock false = omega (arith, more, a.clocks_under p)

-- hear, only the entries
hearing_air : (R : Roles) (Y : Yard) (p : ℕ) (f : Frame) → AirOk Y → AirOk (yard_hearing R Y p f)
hearing_air R Y p f a = record {
  frames_count = omega (arith, same, a.frames_count);
  clocks_under = λ i. upd_case (λ Z. Z.clock ≤ total X) Y.posts p D i
      (λ q. omega (arith, same, a.clocks_under p)) (λ q. omega (arith, same, a.clocks_under i));
  beacons_at_most = a.beacons_at_most;
  first_frames = first_same Y p D refl Y.air Y.frames (omega arith) (λ j l. refl) a;
}
  where
    D : Post
    D = deliver R p (raised (Y.posts p) f)

    X : Posts
    X = upd Y.posts p D

    same : total X ≡ total Y.posts
    same = total_same Y.posts p D refl

-- beacon
beacon_air : (R : Roles) (Y : Yard) (p : ℕ) → p < 8 → Y.beacons p < 128 → AirOk Y → AirOk (beacon_done R Y p)
beacon_air R Y p small l a = record {
  frames_count = omega (arith, a.frames_count, more);
  clocks_under = a.clocks_under;
  beacons_at_most = λ i. upd_case (λ n. n ≤ 128) Y.beacons p (suc (Y.beacons p)) i (λ q. l) (λ q. a.beacons_at_most i);
  first_frames = λ i n b m. first_later Y.air (beacon_done R Y p).air Y.frames (suc Y.frames) i n (Y.first i n) (a.first_frames i n b m)
      (omega arith) (older_frames Y (entries_frame true p no_order_lem (Y.posts p)));
}
  where
    c : ℕ
    c = suc (Y.beacons p)

    more : sum_below 8 (upd Y.beacons p c) ≡ suc (sum_below 8 Y.beacons)
    more = sum_more Y.beacons (upd Y.beacons p c) 8 p small (upd_other Y.beacons p c) (upd_same Y.beacons p c)

module _ (R : Roles) (ro : RolesOk R) where
  -- a step, refused or not
  pub step_air : (Y : Yard) (s : Single) → YardOk R Y → AirOk Y → AirOk (step R Y s)
  step_air Y (order p w) y a = order_or_refused R Y AirOk p w (λ e. order_air R Y p w (order_pass R Y p w e).0 y a) a
  step_air Y (hear p k) y a = hear_or_refused R Y AirOk p k heard a
    where
      heard : hear_refused R Y p k ≡ 0 → AirOk (hear_done R Y p (Y.air k))
      heard e = let q = hear_pass R Y p k e in
          taken_or_not AirOk R Y p (Y.air k)
          (λ n. taking_air R ro Y p (Y.air k) q.0 (y.frames_ok k q.2) n y a) (λ n. hearing_air R Y p (Y.air k) a)
  step_air Y (beacon p) y a = beacon_or_refused R Y AirOk p (λ e. beacon_air R Y p (beacon_pass R Y p e).0 (beacon_pass R Y p e).2 a) a

  -- a list of them
  pub run_air : (Y : Yard) (l : List Single) → YardOk R Y → AirOk Y → AirOk (run R Y l)
  unfolding run
  run_air Y [] y a = a
  run_air Y (s ∷ l) y a = run_air (step R Y s) l (step_ok R ro Y s y).next_ok (step_air Y s y a)

-- a fresh yard
pub fresh_air : (air : ℕ → Frame) → AirOk (fresh air)
unfolding fresh fresh_post total sum_below
fresh_air air = record {
  frames_count = refl;
  clocks_under = λ i. omega arith;
  beacons_at_most = λ i. omega arith;
  first_frames = λ i n c d. absurd (omega arith);
}
