-- What the records, the tables and the bytes of a yard keep while it runs: lengths and ranges, roles, readable frames. Assumes nothing.
use mathlib.Core.Path.{◌≡◌, refl, ap, ◌∙◌}
use mathlib.Core.List.{List}
use mathlib.Core.Logic.{◌⊎◌, inl, inr, ◌≢◌}
use mathlib.Core.Bool.{Bool, true, false, cond}
use Prim.Native.Nat.{ℕ, ◌+◌, ◌<◌, max}
use native.Mathlib.Omega.{arith}
use lib.ListN.{length, get_or, set}
use lib.Seq.{get_or-set_same, get_or-set_other}
use Rattle.frame.specs.declared.Frame.{Frame}
use Rattle.frame.specs.Refusals.{read_refusal}
use Rattle.frame.specs.Layout.{frame_of}
use Rattle.air.specs.Air.{stretch_at, frames_with}
use Rattle.post.specs.declared.Post.{Post}
use Rattle.post.specs.Record.{is_source, last_of}
use Rattle.post.specs.Taking.{kept, ticked, own_taken, raised_post, taken}
use Rattle.deliver.specs.Delivery.{delivered}
use Rattle.steps.specs.Refusals.{order_refusal, is_next, hear_refusal}
use Rattle.steps.specs.Steps.{order_step, hear_step}
use Rattle.state.specs.Yards.{no_post, post_at}
use Rattle.yard.specs.Singles.{frame_at}
use Rattle.yard.specs.Worlds.{World}
use Rattle.laws.proofs.TestLaws.{same_or_not, true_or_false}
use Rattle.laws.proofs.Valid.{Shaped, Valid}
use Rattle.laws.proofs.ValidLog.{delivered_log_only}
use Rattle.laws.proofs.ValidSteps.{heard_post, heard_taken, heard_other, order_post, order_refused_lem, hear_post, hear_refused_lem}
use Rattle.laws.proofs.StepLaws.{order_shaped, order_valid, hear_shaped, hear_valid}
use Rattle.laws.proofs.Broadcasts.{Sendable}
use Rattle.agreement.proofs.AirViews.{spoken_frame, spoken_read, spoken_before}

-- two records of one post with one set of roles
pub record SameRoles (p q : Post) : Type 0 where
  pub lane : q.lane ≡ p.lane
  pub posts : q.posts ≡ p.posts
  pub sources : q.sources ≡ p.sources
  pub dests : q.dests ≡ p.dests

pub same_roles : (p : Post) → SameRoles p p
same_roles p = record { lane = refl; posts = refl; sources = refl; dests = refl }

-- ---- the steps of a post keep its lane and roles

pub delivered_roles : (q : Post) → SameRoles q (delivered q).post
delivered_roles q =
    let e = delivered_log_only q in
    record {
      lane = ap (λ (r : Post). r.lane) e;
      posts = ap (λ (r : Post). r.posts) e;
      sources = ap (λ (r : Post). r.sources) e;
      dests = ap (λ (r : Post). r.dests) e;
    }

pub ordered_roles : (p : Post) (word : ℕ) → SameRoles p (own_taken p word)
unfolding own_taken kept ticked
ordered_roles p word = record { lane = refl; posts = refl; sources = refl; dests = refl }

raised_roles : (p : Post) (f : Frame) → SameRoles p (raised_post p f)
unfolding raised_post
raised_roles p f = record { lane = refl; posts = refl; sources = refl; dests = refl }

pub taken_roles : (p : Post) (f : Frame) → SameRoles p (taken p f)
unfolding taken raised_post kept ticked
taken_roles p f = go (is_source p p.lane)
  where
    q : Post
    q = kept (raised_post p f) f.lane f.serial.0 f.stamp.0 f.word

    go : (b : Bool) → SameRoles p (cond b (ticked q p.serial.0 (max p.clock.0 f.stamp.0 + 1)) q)
    go true = record { lane = refl; posts = refl; sources = refl; dests = refl }
    go false = record { lane = refl; posts = refl; sources = refl; dests = refl }

pub heard_roles : (p : Post) (f : Frame) → SameRoles p (heard_post p f)
heard_roles p f = go (true_or_false (is_next f (last_of p f.lane)))
  where
    go : (is_next f (last_of p f.lane) ≡ true) ⊎ (is_next f (last_of p f.lane) ≡ false) → SameRoles p (heard_post p f)
    go (inl e) = rw (heard_taken p f e) (taken_roles p f)
    go (inr e) = rw (heard_other p f e) (raised_roles p f)

pub then_roles : (p q r : Post) → SameRoles p q → SameRoles q r → SameRoles p r
then_roles p q r a b = record {
  lane = b.lane ∙ a.lane;
  posts = b.posts ∙ a.posts;
  sources = b.sources ∙ a.sources;
  dests = b.dests ∙ a.dests;
}

pub order_roles : (p : Post) (word : ℕ) → SameRoles p (order_step p word).post
order_roles p word = go (same_or_not (order_refusal p) 0)
  where
    go : (order_refusal p ≡ 0) ⊎ (order_refusal p ≢ 0) → SameRoles p (order_step p word).post
    go (inl z) =
        rw (order_post p word z)
        (then_roles p (own_taken p word) (delivered (own_taken p word)).post (ordered_roles p word) (delivered_roles (own_taken p word)))
    go (inr n) = rw (order_refused_lem p word n) (same_roles p)

pub hear_roles : (p : Post) (f : Frame) → SameRoles p (hear_step p f).post
hear_roles p f = go (same_or_not (hear_refusal p f) 0)
  where
    go : (hear_refusal p f ≡ 0) ⊎ (hear_refusal p f ≢ 0) → SameRoles p (hear_step p f).post
    go (inl z) =
        rw (hear_post p f z)
        (then_roles p (heard_post p f) (delivered (heard_post p f)).post (heard_roles p f) (delivered_roles (heard_post p f)))
    go (inr n) = rw (hear_refused_lem p f n) (same_roles p)

-- frame k is one that reading and the post's steps accept
pub record OnAir (air : List ℕ) (k : ℕ) : Type 0 where
  pub sendable : Sendable (frame_at air k)
  pub readable : read_refusal (stretch_at air k) ≡ 0

-- the frames before a broadcast stay, and it is one more
pub on_air_more : (air : List ℕ) (k : ℕ) (f : Frame) → length air ≡ 65536 → k < 2048 → Sendable f → ((j : ℕ) → j < k → OnAir air j)
    → (j : ℕ) → j < k + 1 → OnAir (frames_with air k f) j
on_air_more air k f whole room s old j l = go (same_or_not j k)
  where
    go : (j ≡ k) ⊎ (j ≢ k) → OnAir (frames_with air k f) j
    go (inl e) =
        rw e (record { sendable = rw (spoken_frame air k f whole room s) s; readable = spoken_read air k f whole room s })
    go (inr n) =
        let h : j < k = omega arith in
        record {
          sendable = rw (ap frame_of (spoken_before air k f whole room s j h)) (old j h).sendable;
          readable = rw (spoken_before air k f whole room s j h) (old j h).readable;
        }

module _ (present sources dests : ℕ) where
  -- the record of a lane of the yard with these sets
  pub record InYard (lane : ℕ) (p : Post) : Type 0 where
    pub its_lane : p.lane ≡ lane
    pub its_posts : p.posts ≡ present
    pub its_sources : p.sources ≡ sources
    pub its_dests : p.dests ≡ dests
    pub shaped : Shaped p
    pub valid : Valid p

  in_yard_lem : (lane : ℕ) (p q : Post) → InYard lane p → SameRoles p q → Shaped q → Valid q → InYard lane q
  in_yard_lem lane p q i r s v = record {
    its_lane = r.lane ∙ i.its_lane;
    its_posts = r.posts ∙ i.its_posts;
    its_sources = r.sources ∙ i.its_sources;
    its_dests = r.dests ∙ i.its_dests;
    shaped = s;
    valid = v;
  }

  -- an order and a hearing leave such a record, refused or not
  pub order_in_yard : (lane : ℕ) (p : Post) (word : ℕ) → word < 65536 → InYard lane p → InYard lane (order_step p word).post
  order_in_yard lane p word b i =
      in_yard_lem lane p (order_step p word).post i (order_roles p word) (order_shaped p word b i.shaped i.valid) (order_valid p word b i.shaped i.valid)

  pub hear_in_yard : (lane : ℕ) (p : Post) (f : Frame) → Sendable f → InYard lane p → InYard lane (hear_step p f).post
  hear_in_yard lane p f s i =
      in_yard_lem lane p (hear_step p f).post i (hear_roles p f)
      (hear_shaped p f s.good s.fits i.shaped i.valid)
      (hear_valid p f s.good s.fits i.shaped i.valid)

  -- a yard with these sets and an air of the right length
  pub record Sound (w : World) : Type 0 where
    pub its_present : w.yard.present ≡ present
    pub its_sources : w.yard.sources ≡ sources
    pub eight : length w.yard.posts ≡ 8
    pub counts : length w.yard.beacons ≡ 8
    pub places : length w.yard.first ≡ 128
    pub whole : length w.air ≡ 65536
    pub post : (lane : ℕ) → lane < 8 → InYard lane (post_at w.yard lane)
    pub on_air : (k : ℕ) → k < w.yard.frames → OnAir w.air k

  -- one record is changed
  pub posts_in_yard : (posts : List Post) (lane : ℕ) (q : Post) → length posts ≡ 8 → lane < 8
      → ((i : ℕ) → i < 8 → InYard i (get_or posts i no_post)) → InYard lane q
      → (i : ℕ) → i < 8 → InYard i (get_or (set posts lane q) i no_post)
  posts_in_yard posts lane q e l all new i h = go (same_or_not i lane)
    where
      go : (i ≡ lane) ⊎ (i ≢ lane) → InYard i (get_or (set posts lane q) i no_post)
      go (inl s) = rw (s, get_or-set_same posts lane q no_post (omega arith)) new
      go (inr n) = rw (get_or-set_other posts lane i q no_post n) (all i h)
