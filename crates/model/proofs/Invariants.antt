-- What holds of a post, of a frame and of a yard after any steps, and that it goes on holding as posts send more. Assumes nothing.
use mathlib.Core.Path.{◌≡◌, refl, sym, ◌∙◌}
use mathlib.Core.Logic.{◌⊎◌, inl, inr}
use mathlib.Core.Bool.{Bool, true, false}
use Prim.Native.Nat.{ℕ, suc, ◌≤◌, ◌<◌}
use native.Mathlib.Omega.{arith}
use Rattle.laws.proofs.ListLaws.{Mem}
use Rattle.roll.specs.Runs.{Order}
use Rattle.roll.specs.Logs.{rank, Rising}
use Rattle.model.proofs.Functions.{le_or_not, upd, upd_case}
use Rattle.model.proofs.Model.{Frame, Post, Roles, Yard, order_of, ready}

-- ---- roles

-- "a role at a lane without a post" does not occur
pub record RolesOk (R : Roles) : Type 0 where
  pub sources_present : (i : ℕ) → R.source i ≡ true → R.present i ≡ true
  pub dests_present : (i : ℕ) → R.dest i ≡ true → R.present i ≡ true
  pub present_lanes : (i : ℕ) → R.present i ≡ true → i < 8

-- a source's lane is one of the eight
pub source_below : (R : Roles) → RolesOk R → (i : ℕ) → R.source i ≡ true → i < 8
source_below R ro i b = ro.present_lanes i (ro.sources_present i b)

-- ---- what is true of the posts together

-- the posts of a yard
abbrev pub Posts : Type 0
Posts = ℕ → Post

-- the stamp of the order that lane i sent with serial n: its own post keeps it
abbrev pub stamp_of : Posts → ℕ → ℕ → ℕ
stamp_of W i n = (W i).stamps i n

-- and its word
abbrev pub word_of : Posts → ℕ → ℕ → ℕ
word_of W i n = (W i).words i n

-- the entry (i, n, s) is true: the orders of lane i after serial n have stamps above s, those still to be sent too
pub record Holds (W : Posts) (i n s : ℕ) : Type 0 where
  pub serial_sent : n ≤ (W i).own
  pub clock_reached : s ≤ (W i).clock
  pub before_next : n < (W i).own → s < stamp_of W i (suc n)

-- the order was sent by its lane, with this stamp and word
pub record Sent (W : Posts) (o : Order) : Type 0 where
  pub from_one : 0 < o.serial
  pub was_sent : o.serial ≤ (W o.lane).own
  pub stamp_is : o.stamp ≡ stamp_of W o.lane o.serial
  pub word_is : o.word ≡ word_of W o.lane o.serial

-- lane i sends no more with stamp t or below after serial l, now and later
pub record NoMore (W : Posts) (l t i : ℕ) : Type 0 where
  pub clock_past : t ≤ (W i).clock
  pub later_above : (k : ℕ) → l < k → k ≤ (W i).own → t < stamp_of W i k

-- ---- what holds of a post

-- what a post says of others is true, and no source can send below an order that it has logged
pub record Knows (R : Roles) (W : Posts) (P : Post) : Type 0 where
  pub entries_true : (i n : ℕ) → 0 < P.table i n → Holds W i n (P.table i n)
  pub last_sent : (i : ℕ) → P.last i ≤ (W i).own
  pub stamps_true : (i n : ℕ) → 0 < n → n ≤ P.last i → P.stamps i n ≡ stamp_of W i n
  pub words_true : (i n : ℕ) → 0 < n → n ≤ P.last i → P.words i n ≡ word_of W i n
  pub logged_no_more : (x : Order) → Mem x P.log → (i : ℕ) → R.source i ≡ true → NoMore W (P.last i) x.stamp i

-- x is an order that P has taken from a lane below k
abbrev pub TakenIn : Post → ℕ → Order → Type 0
TakenIn P k x = record {
  lane_below : x.lane < k;
  serial_from_one : 0 < x.serial;
  serial_taken : x.serial ≤ P.last x.lane;
  as_kept : x ≡ order_of P x.lane x.serial;
}

-- the log rises, holds orders taken, and with an order all orders taken that rank below it
pub record LogOk (P : Post) : Type 0 where
  pub log_rises : Rising P.log
  pub log_taken : (x : Order) → Mem x P.log → TakenIn P 8 x
  pub log_closed : (x y : Order) → Mem x P.log → TakenIn P 8 y → rank y < rank x → Mem y P.log

-- a destination has logged every order taken that is ready
abbrev pub Served : Roles → ℕ → Post → Type 0
Served R p P =
    R.dest p ≡ true → (i n : ℕ) → i < 8 → 0 < n → n ≤ P.last i → ready R P (P.stamps i n) ≡ true → Mem (order_of P i n) P.log

-- post p in view of the others
pub record PostOk (R : Roles) (W : Posts) (p : ℕ) (P : Post) : Type 0 where
  pub knows : Knows R W P
  pub log_ok : LogOk P
  pub served : Served R p P

-- post p by itself: its own lane, and its clock
abbrev pub SelfOk : Roles → ℕ → Post → Type 0
SelfOk R p P = record {
  own_taken : P.last p ≡ P.own;
  stamps_rise : (n : ℕ) → 0 < n → n < P.own → P.stamps p n < P.stamps p (suc n);
  stamps_positive : (n : ℕ) → 0 < n → n ≤ P.own → 0 < P.stamps p n;
  stamps_under_clock : (n : ℕ) → 0 < n → n ≤ P.own → P.stamps p n ≤ P.clock;
  idle_unless_source : R.source p ≡ false → (P.own ≡ 0) × (P.clock ≡ 0);
  own_at_most : P.own ≤ 16;
  own_entry : R.source p ≡ true → P.table p P.own ≡ P.clock;
  clock_seen : R.source p ≡ true → (i n : ℕ) → 0 < n → n ≤ P.last i → P.stamps i n ≤ P.clock;
}

-- ---- what holds of a frame, and of a yard

-- its entries are true, its order was sent, and a post of the yard broadcast it
pub record FrameOk (R : Roles) (W : Posts) (f : Frame) : Type 0 where
  pub entries_hold : (i : ℕ) → 0 < f.entry_stamp i → Holds W i (f.entry_serial i) (f.entry_stamp i)
  pub order_sent : f.beacon ≡ false → Sent W f.carried
  pub sender_present : R.present f.sender ≡ true
  pub empty_entries : (i : ℕ) → f.entry_stamp i ≡ 0 → f.entry_serial i ≡ 0

-- each post by itself, each in view of the others, and each frame
pub record YardOk (R : Roles) (Y : Yard) : Type 0 where
  pub selves : (p : ℕ) → SelfOk R p (Y.posts p)
  pub posts_ok : (p : ℕ) → PostOk R Y.posts p (Y.posts p)
  pub frames_ok : (k : ℕ) → k < Y.frames → FrameOk R Y.posts (Y.air k)

-- a lane that has sent an order is a source
pub sends_source : (R : Roles) (Y : Yard) → YardOk R Y → (i : ℕ) → 0 < (Y.posts i).own → R.source i ≡ true
sends_source R Y y i h = go (R.source i) refl
  where
    go : (b : Bool) → R.source i ≡ b → R.source i ≡ true
    go true e = e
    go false e = absurd (omega (arith, ((y.selves i).idle_unless_source e).0))

-- ---- what is true of the posts stays true

-- posts W became X: what was sent stays, what is new has a stamp above the clock that there was
pub record Grew (W X : Posts) : Type 0 where
  pub own_grows : (i : ℕ) → (W i).own ≤ (X i).own
  pub clock_grows : (i : ℕ) → (W i).clock ≤ (X i).clock
  pub stamps_stay : (i n : ℕ) → 0 < n → n ≤ (W i).own → stamp_of X i n ≡ stamp_of W i n
  pub words_stay : (i n : ℕ) → 0 < n → n ≤ (W i).own → word_of X i n ≡ word_of W i n
  pub new_above : (i n : ℕ) → (W i).own < n → n ≤ (X i).own → (W i).clock < stamp_of X i n

-- posts that do not change
pub grew_itself : (W : Posts) → Grew W W
grew_itself W = record {
  own_grows = λ i. omega arith;
  clock_grows = λ i. omega arith;
  stamps_stay = λ i n a b. refl;
  words_stay = λ i n a b. refl;
  new_above = λ i n a b. absurd (omega arith);
}

-- a true entry stays true
pub holds_grew : (W X : Posts) → Grew W X → (i n s : ℕ) → Holds W i n s → Holds X i n s
holds_grew W X g i n s h = record {
  serial_sent = omega (arith, h.serial_sent, g.own_grows i);
  clock_reached = omega (arith, h.clock_reached, g.clock_grows i);
  before_next = λ l. go l (le_or_not (suc n) (W i).own);
}
  where
    go : n < (X i).own → (suc n ≤ (W i).own) ⊎ ((W i).own < suc n) → s < stamp_of X i (suc n)
    go l (inl q) = rw (g.stamps_stay i (suc n) (omega arith) q) (h.before_next q)
    go l (inr q) = omega (arith, g.new_above i (suc n) q l, h.clock_reached)

-- an order sent stays sent
pub sent_grew : (W X : Posts) → Grew W X → (o : Order) → Sent W o → Sent X o
sent_grew W X g o s = record {
  from_one = s.from_one;
  was_sent = omega (arith, s.was_sent, g.own_grows o.lane);
  stamp_is = s.stamp_is ∙ sym (g.stamps_stay o.lane o.serial s.from_one s.was_sent);
  word_is = s.word_is ∙ sym (g.words_stay o.lane o.serial s.from_one s.was_sent);
}

-- a lane that sends no more up to a stamp stays so
pub no_more_grew : (W X : Posts) → Grew W X → (l t i : ℕ) → NoMore W l t i → NoMore X l t i
no_more_grew W X g l t i c = record {
  clock_past = omega (arith, c.clock_past, g.clock_grows i);
  later_above = λ k a b. go k a b (le_or_not k (W i).own);
}
  where
    go : (k : ℕ) → l < k → k ≤ (X i).own → (k ≤ (W i).own) ⊎ ((W i).own < k) → t < stamp_of X i k
    go k a b (inl q) = rw (g.stamps_stay i k (omega arith) q) (c.later_above k a q)
    go k a b (inr q) = omega (arith, g.new_above i k q b, c.clock_past)

-- it is so after a later serial too
pub no_more_later : (W : Posts) (l m t i : ℕ) → l ≤ m → NoMore W l t i → NoMore W m t i
no_more_later W l m t i h c = record { clock_past = c.clock_past; later_above = λ k a b. c.later_above k (omega arith) b }

-- what a post knows stays true
pub knows_grew : (R : Roles) (W X : Posts) → Grew W X → (P : Post) → Knows R W P → Knows R X P
knows_grew R W X g P k = record {
  entries_true = λ i n h. holds_grew W X g i n (P.table i n) (k.entries_true i n h);
  last_sent = λ i. omega (arith, k.last_sent i, g.own_grows i);
  stamps_true = λ i n a b. k.stamps_true i n a b ∙ sym (g.stamps_stay i n a (omega (arith, k.last_sent i)));
  words_true = λ i n a b. k.words_true i n a b ∙ sym (g.words_stay i n a (omega (arith, k.last_sent i)));
  logged_no_more = λ x m i s. no_more_grew W X g (P.last i) x.stamp i (k.logged_no_more x m i s);
}

-- what holds of a frame goes on holding
pub frame_grew : (R : Roles) (W X : Posts) → Grew W X → (f : Frame) → FrameOk R W f → FrameOk R X f
frame_grew R W X g f k = record {
  entries_hold = λ i h. holds_grew W X g i (f.entry_serial i) (f.entry_stamp i) (k.entries_hold i h);
  order_sent = λ e. sent_grew W X g f.carried (k.order_sent e);
  sender_present = k.sender_present;
  empty_entries = k.empty_entries;
}

-- ---- one post changes

-- post p changed from P to Q: as `Grew`, of this post
abbrev pub Grows : ℕ → Post → Post → Type 0
Grows p P Q = record {
  own_up : P.own ≤ Q.own;
  clock_up : P.clock ≤ Q.clock;
  stamps_kept : (n : ℕ) → 0 < n → n ≤ P.own → Q.stamps p n ≡ P.stamps p n;
  words_kept : (n : ℕ) → 0 < n → n ≤ P.own → Q.words p n ≡ P.words p n;
  new_stamps : (n : ℕ) → P.own < n → n ≤ Q.own → P.clock < Q.stamps p n;
}

-- then the posts grew
pub grew : (W : Posts) (p : ℕ) (Q : Post) → Grows p (W p) Q → Grew W (upd W p Q)
grew W p Q g = record {
  own_grows = λ i. upd_case (λ Z. (W i).own ≤ Z.own) W p Q i (λ e. rw e g.own_up) (λ n. omega arith);
  clock_grows = λ i. upd_case (λ Z. (W i).clock ≤ Z.clock) W p Q i (λ e. rw e g.clock_up) (λ n. omega arith);
  stamps_stay = λ i n a. upd_case (λ Z. n ≤ (W i).own → Z.stamps i n ≡ stamp_of W i n) W p Q i (λ e. rw e (g.stamps_kept n a)) (λ n b. refl);
  words_stay = λ i n a. upd_case (λ Z. n ≤ (W i).own → Z.words i n ≡ word_of W i n) W p Q i (λ e. rw e (g.words_kept n a)) (λ n b. refl);
  new_above = λ i n a. upd_case (λ Z. n ≤ Z.own → (W i).clock < Z.stamps i n) W p Q i
      (λ e. rw e (λ b. g.new_stamps n (rw e at a) b)) (λ n b. absurd (omega arith));
}

-- a yard whose post p became Q: what is to be shown of Q and of the frames
pub yard_posts_lem : (R : Roles) (Y : Yard) (p : ℕ) (Q : Post) → YardOk R Y → Grows p (Y.posts p) Q
    → SelfOk R p Q → PostOk R (upd Y.posts p Q) p Q → (a : ℕ → Frame) (c : ℕ) (b : ℕ → ℕ) (first : ℕ → ℕ → ℕ)
    → ((k : ℕ) → k < c → FrameOk R (upd Y.posts p Q) (a k))
    → YardOk R (record { posts = upd Y.posts p Q; air = a; frames = c; beacons = b; first = first })
yard_posts_lem R Y p Q y g s o a c b first fr = record {
  selves = λ i. upd_case (λ Z. SelfOk R i Z) Y.posts p Q i (λ e. rw e s) (λ n. y.selves i);
  posts_ok = λ i. upd_case (λ Z. PostOk R (upd Y.posts p Q) i Z) Y.posts p Q i (λ e. rw e o) (λ n. other i);
  frames_ok = fr;
}
  where
    other : (i : ℕ) → PostOk R (upd Y.posts p Q) i (Y.posts i)
    other i = record {
      knows = knows_grew R Y.posts (upd Y.posts p Q) (grew Y.posts p Q g) (Y.posts i) (y.posts_ok i).knows;
      log_ok = (y.posts_ok i).log_ok;
      served = (y.posts_ok i).served;
    }
