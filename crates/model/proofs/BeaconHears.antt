-- The roll call's hearings of the beacons: after them every post has every source's clock at the last order of its lane. Assumes nothing.
use mathlib.Core.Path.{◌≡◌, refl, sym, ◌∙◌}
use mathlib.Core.List.{List, [], ◌∷◌}
use mathlib.Core.Logic.{◌⊎◌, inl, inr, ◌≢◌}
use mathlib.Core.Bool.{Bool, true, false, cond, ◌&&◌, not}
use Prim.Native.Nat.{ℕ, zero, suc, ◌+◌, ◌≤◌, ◌<◌}
use native.Mathlib.Omega.{arith}
use lib.Dec.{eqb}
use borrow.Author.Tests.{ne_eqb}
use Rattle.laws.proofs.TestLaws.{same_or_not, not_both}
use Rattle.yard.specs.Worlds.{Single, hear}
use Rattle.model.proofs.Functions.{le_or_not, upd, upd_same, upd_case}
use Rattle.model.proofs.Model.{Frame, Post, Roles, Yard, deliver, raise, raised, hear_refused, hear_done, step, run, sources_below, beacons_heard}
use Rattle.model.proofs.Model.{posts_hear_beacons}
use Rattle.model.proofs.Invariants.{RolesOk, source_below, YardOk}
use Rattle.model.proofs.Entries.{raise_reach, raise_up, OwnBeacon}
use Rattle.model.proofs.Hearing.{yard_hearing, taken_or_not}
use Rattle.model.proofs.Steps.{hear_fine, hear_or_refused, step_hear, step_ok, run_append, run_none, run_one}
use Rattle.model.proofs.Air.{AirOk, step_air}
use Rattle.model.proofs.RollBeacons.{sources_le, sources_suc, Beaconed}

-- from B to X only beacons were heard
pub record OnlyBeacons (R : Roles) (B X : Yard) : Type 0 where
  pub then_ok : YardOk R X
  pub then_air : AirOk X
  pub same_air : X.air ≡ B.air
  pub same_frames : X.frames ≡ B.frames
  pub same_last : (p : ℕ) → (X.posts p).last ≡ (B.posts p).last
  pub same_stamps : (p : ℕ) → (X.posts p).stamps ≡ (B.posts p).stamps
  pub same_own : (p : ℕ) → (X.posts p).own ≡ (B.posts p).own
  pub same_clock : (p : ℕ) → (X.posts p).clock ≡ (B.posts p).clock
  pub entries_up : (p i n : ℕ) → (B.posts p).table i n ≤ (X.posts p).table i n

module _ (R : Roles) (ro : RolesOk R) where
  -- nothing was heard
  pub only_itself : (B : Yard) → YardOk R B → AirOk B → OnlyBeacons R B B
  only_itself B y a = record {
    then_ok = y;
    then_air = a;
    same_air = refl;
    same_frames = refl;
    same_last = λ p. refl;
    same_stamps = λ p. refl;
    same_own = λ p. refl;
    same_clock = λ p. refl;
    entries_up = λ p i n. omega arith;
  }

  -- first some, then more
  only_on : (B X Z : Yard) → OnlyBeacons R B X → OnlyBeacons R X Z → OnlyBeacons R B Z
  only_on B X Z s t = record {
    then_ok = t.then_ok;
    then_air = t.then_air;
    same_air = t.same_air ∙ s.same_air;
    same_frames = t.same_frames ∙ s.same_frames;
    same_last = λ p. t.same_last p ∙ s.same_last p;
    same_stamps = λ p. t.same_stamps p ∙ s.same_stamps p;
    same_own = λ p. t.same_own p ∙ s.same_own p;
    same_clock = λ p. t.same_clock p ∙ s.same_clock p;
    entries_up = λ p i n. omega (arith, s.entries_up p i n, t.entries_up p i n);
  }

  -- of a beacon only the entries are heard
  hear_beacon : (X : Yard) (p : ℕ) (f : Frame) → f.beacon ≡ true → hear_done R X p f ≡ yard_hearing R X p f
  hear_beacon X p f b = taken_or_not (λ Z. Z ≡ yard_hearing R X p f) R X p f (λ n. absurd (not_both f.beacon b n.0)) (λ n. refl)

  -- one hearing of a beacon, refused or not
  only_step : (X : Yard) (p k : ℕ) → (X.air k).beacon ≡ true → YardOk R X → AirOk X → OnlyBeacons R X (step R X (hear p k))
  only_step X p k b y a = record {
    then_ok = (step_ok R ro X (hear p k) y).next_ok;
    then_air = step_air R ro X (hear p k) y a;
    same_air = each (λ Z. Z.air ≡ X.air) refl refl;
    same_frames = each (λ Z. Z.frames ≡ X.frames) refl refl;
    same_last = λ q. each (λ Z. (Z.posts q).last ≡ (X.posts q).last) (post q (λ Z. Z.last ≡ (X.posts q).last) (λ e. rw e refl) refl) refl;
    same_stamps = λ q. each (λ Z. (Z.posts q).stamps ≡ (X.posts q).stamps) (post q (λ Z. Z.stamps ≡ (X.posts q).stamps) (λ e. rw e refl) refl) refl;
    same_own = λ q. each (λ Z. (Z.posts q).own ≡ (X.posts q).own) (post q (λ Z. Z.own ≡ (X.posts q).own) (λ e. rw e refl) refl) refl;
    same_clock = λ q. each (λ Z. (Z.posts q).clock ≡ (X.posts q).clock) (post q (λ Z. Z.clock ≡ (X.posts q).clock) (λ e. rw e refl) refl) refl;
    entries_up = λ q i n. each (λ Z. (X.posts q).table i n ≤ (Z.posts q).table i n)
        (post q (λ Z. (X.posts q).table i n ≤ Z.table i n)
        (λ e. rw e (raise_up (X.posts p).table f.entry_serial f.entry_stamp i n)) (omega arith)) (omega arith);
  }
    where
      f : Frame
      f = X.air k

      D : Post
      D = deliver R p (raised (X.posts p) f)

      each : (C : Yard → Type 0) → C (yard_hearing R X p f) → C X → C (step R X (hear p k))
      each C g h = hear_or_refused R X C p k (λ e. rw (hear_beacon X p f b) g) h

      post : (q : ℕ) (C : Post → Type 0) → (q ≡ p → C D) → C (X.posts q) → C (upd X.posts p D q)
      post q C g h = upd_case C X.posts p D q g (λ n. h)

  -- ---- how the lists run

  -- the hearings of no beacon
  heard_zero : (X : Yard) (c p : ℕ) → run R X (beacons_heard R c p 0) ≡ X
  unfolding beacons_heard run
  heard_zero X c p = refl

  -- of one source more
  heard_suc : (X : Yard) (c p i : ℕ) → run R X (beacons_heard R c p (suc i))
      ≡ run R (run R X (beacons_heard R c p i)) (cond (R.source i && not (eqb i p)) (hear p (c + sources_below R i) ∷ []) [])
  unfolding beacons_heard
  heard_suc X c p i = run_append R X (beacons_heard R c p i) (cond (R.source i && not (eqb i p)) (hear p (c + sources_below R i) ∷ []) [])

  -- by no post
  posts_zero : (X : Yard) (c : ℕ) → run R X (posts_hear_beacons R c 0) ≡ X
  unfolding posts_hear_beacons run
  posts_zero X c = refl

  -- by one post more
  posts_suc : (X : Yard) (c p : ℕ)
      → run R X (posts_hear_beacons R c (suc p)) ≡ run R (run R X (posts_hear_beacons R c p)) (cond (R.present p) (beacons_heard R c p 8) [])
  unfolding posts_hear_beacons
  posts_suc X c p = run_append R X (posts_hear_beacons R c p) (cond (R.present p) (beacons_heard R c p 8) [])

  -- ---- from Z on, where all sources have sent their beacons

  module _ (Y Z : Yard) (h : Beaconed R Y Z 8) where
    -- source i's beacon in whatever follows
    there : (X : Yard) → OnlyBeacons R Z X → (i : ℕ) → R.source i ≡ true → OwnBeacon Y.posts i (X.air (Y.frames + sources_below R i))
    there X t i b = rw t.same_air (h.beacon_at i (source_below R ro i b) b)

    -- it is on the air
    on_air_lem : (X : Yard) → OnlyBeacons R Z X → (i : ℕ) → R.source i ≡ true → Y.frames + sources_below R i < X.frames
    on_air_lem X t i b = omega (arith, t.same_frames, h.frames_then, sources_suc R i b, sources_le R (suc i) 8 (source_below R ro i b))

    -- and another post's hearing of it is not refused
    pub beacon_hearable : (X : Yard) → OnlyBeacons R Z X → (p i : ℕ) → p < 8 → R.present p ≡ true → R.source i ≡ true → i ≢ p
        → hear_refused R X p (Y.frames + sources_below R i) ≡ 0
    beacon_hearable X t p i l c b ne =
        hear_fine R X p (Y.frames + sources_below R i) l c (on_air_lem X t i b) (λ e. ne (sym (there X t i b).beacon_from ∙ e))

    -- one of the hearings
    next_only : (X : Yard) → OnlyBeacons R Z X → (p i : ℕ)
        → OnlyBeacons R X (run R X (cond (R.source i && not (eqb i p)) (hear p (Y.frames + sources_below R i) ∷ []) []))
    next_only X t p i = go (R.source i) (not (eqb i p)) refl
      where
        k : ℕ
        k = Y.frames + sources_below R i

        go : (a b : Bool) → R.source i ≡ a → OnlyBeacons R X (run R X (cond (a && b) (hear p k ∷ []) []))
        go true true e = rw (run_one R X (hear p k)) (only_step X p k (there X t i e).is_beacon t.then_ok t.then_air)
        go true false e = rw (run_none R X) (only_itself X t.then_ok t.then_air)
        go false b e = rw (run_none R X) (only_itself X t.then_ok t.then_air)

    -- those of post p, of no source
    post_only_zero : (X : Yard) → OnlyBeacons R Z X → (p : ℕ) → OnlyBeacons R X (run R X (beacons_heard R Y.frames p 0))
    post_only_zero X t p = rw (heard_zero X Y.frames p) (only_itself X t.then_ok t.then_air)

    -- of one source more
    post_only_suc : (X : Yard) → OnlyBeacons R Z X → (p i : ℕ) → OnlyBeacons R X (run R X (beacons_heard R Y.frames p i))
        → OnlyBeacons R X (run R X (beacons_heard R Y.frames p (suc i)))
    post_only_suc X t p i s = rw (heard_suc X Y.frames p i) (only_on X W (run R W L) s (next_only W (only_on Z X W t s) p i))
      where
        W : Yard
        W = run R X (beacons_heard R Y.frames p i)

        L : List Single
        L = cond (R.source i && not (eqb i p)) (hear p (Y.frames + sources_below R i) ∷ []) []

    -- of the sources below k
    post_only : (X : Yard) → OnlyBeacons R Z X → (p k : ℕ) → OnlyBeacons R X (run R X (beacons_heard R Y.frames p k))
    post_only X t p zero = post_only_zero X t p
    post_only X t p (suc i) = post_only_suc X t p i (post_only X t p i)

    -- those of post p, if it is there
    one_only : (X : Yard) → OnlyBeacons R Z X → (p : ℕ) → OnlyBeacons R X (run R X (cond (R.present p) (beacons_heard R Y.frames p 8) []))
    one_only X t p = go (R.present p)
      where
        go : (b : Bool) → OnlyBeacons R X (run R X (cond b (beacons_heard R Y.frames p 8) []))
        go true = post_only X t p 8
        go false = rw (run_none R X) (only_itself X t.then_ok t.then_air)

    -- those of no post
    posts_only_zero : OnlyBeacons R Z Z → OnlyBeacons R Z (run R Z (posts_hear_beacons R Y.frames 0))
    posts_only_zero t = rw (posts_zero Z Y.frames) t

    -- of one post more
    posts_only_suc : (p : ℕ) → OnlyBeacons R Z (run R Z (posts_hear_beacons R Y.frames p))
        → OnlyBeacons R Z (run R Z (posts_hear_beacons R Y.frames (suc p)))
    posts_only_suc p w = rw (posts_suc Z Y.frames p)
        (only_on Z W (run R W (cond (R.present p) (beacons_heard R Y.frames p 8) [])) w (one_only W w p))
      where
        W : Yard
        W = run R Z (posts_hear_beacons R Y.frames p)

    -- of the posts below k
    pub posts_only : OnlyBeacons R Z Z → (k : ℕ) → OnlyBeacons R Z (run R Z (posts_hear_beacons R Y.frames k))
    posts_only t zero = posts_only_zero t
    posts_only t (suc p) = posts_only_suc p (posts_only t p)

    -- ---- what the hearer has then

    -- post p has the clock of source i at its last order
    abbrev Heard : Yard → ℕ → ℕ → Type 0
    Heard X p i = (Y.posts i).clock ≤ (X.posts p).table i (Y.posts i).own

    -- after the hearing of its beacon
    one_heard : (X : Yard) → OnlyBeacons R Z X → (p i : ℕ) → p < 8 → R.present p ≡ true → R.source i ≡ true → i ≢ p
        → Heard (step R X (hear p (Y.frames + sources_below R i))) p i
    one_heard X t p i l c b ne =
        rw (step_hear R X p k (beacon_hearable X t p i l c b ne), hear_beacon X p (X.air k) f.is_beacon, upd_same) (go (le_or_not (Y.posts i).clock 0))
      where
        k : ℕ
        k = Y.frames + sources_below R i

        f : OwnBeacon Y.posts i (X.air k)
        f = there X t i b

        go : ((Y.posts i).clock ≤ 0) ⊎ (0 < (Y.posts i).clock)
            → (Y.posts i).clock ≤ raise (X.posts p).table (X.air k).entry_serial (X.air k).entry_stamp i (Y.posts i).own
        go (inl z) = omega arith
        go (inr z) = let n = f.says_own z in
            omega (arith, n.1, raise_reach (X.posts p).table (X.air k).entry_serial (X.air k).entry_stamp i (Y.posts i).own (sym n.0))

    -- after one of the hearings, its beacon's or another
    next_heard : (X : Yard) → OnlyBeacons R Z X → (p k : ℕ) → p < 8 → R.present p ≡ true → (i : ℕ) → R.source i ≡ true → i ≢ p
        → (i ≡ k) ⊎ Heard X p i → Heard (run R X (cond (R.source k && not (eqb k p)) (hear p (Y.frames + sources_below R k) ∷ []) [])) p i
    next_heard X t p k m c i b ne (inl q) =
        rw (← q, b, ne_eqb i p ne, run_one R X (hear p (Y.frames + sources_below R i))) (one_heard X t p i m c b ne)
    next_heard X t p k m c i b ne (inr e) = omega (arith, e, (next_only X t p k).entries_up p i (Y.posts i).own)

    -- after those of post p, of the sources below k
    post_heard : (X : Yard) → OnlyBeacons R Z X → (p k : ℕ) → p < 8 → R.present p ≡ true → (i : ℕ) → i < k → R.source i ≡ true → i ≢ p
        → Heard (run R X (beacons_heard R Y.frames p k)) p i
    post_heard X t p zero m c i n b ne = absurd (omega arith)
    post_heard X t p (suc k) m c i n b ne = rw (heard_suc X Y.frames p k)
        (next_heard W (only_on Z X W t (post_only X t p k)) p k m c i b ne (go (same_or_not i k) (post_heard X t p k m c i)))
      where
        W : Yard
        W = run R X (beacons_heard R Y.frames p k)

        go : (i ≡ k) ⊎ (i ≢ k) → (i < k → R.source i ≡ true → i ≢ p → Heard W p i) → (i ≡ k) ⊎ Heard W p i
        go (inl q) ih = inl q
        go (inr q) ih = inr (ih (omega arith) b ne)

    -- after those of one post, p or another
    one_post_heard : (X : Yard) → OnlyBeacons R Z X → (k p : ℕ) → p < 8 → R.present p ≡ true → (i : ℕ) → R.source i ≡ true → i ≢ p
        → (p ≡ k) ⊎ Heard X p i → Heard (run R X (cond (R.present k) (beacons_heard R Y.frames k 8) [])) p i
    one_post_heard X t k p m c i b ne (inl q) = rw (← q, c) (post_heard X t p 8 m c i (source_below R ro i b) b ne)
    one_post_heard X t k p m c i b ne (inr e) = omega (arith, e, (one_only X t k).entries_up p i (Y.posts i).own)

    -- after those of the posts below k
    pub posts_heard_beacons : OnlyBeacons R Z Z → (k : ℕ) → k ≤ 8 → (p : ℕ) → p < k → R.present p ≡ true → (i : ℕ) → R.source i ≡ true → i ≢ p
        → Heard (run R Z (posts_hear_beacons R Y.frames k)) p i
    posts_heard_beacons t zero l p m c i b ne = absurd (omega arith)
    posts_heard_beacons t (suc k) l p m c i b ne = rw (posts_suc Z Y.frames k)
        (one_post_heard W (posts_only t k) k p (omega arith) c i b ne (go (same_or_not p k) (posts_heard_beacons t k (omega arith) p)))
      where
        W : Yard
        W = run R Z (posts_hear_beacons R Y.frames k)

        go : (p ≡ k) ⊎ (p ≢ k) → (p < k → R.present p ≡ true → (i : ℕ) → R.source i ≡ true → i ≢ p → Heard W p i) → (p ≡ k) ⊎ Heard W p i
        go (inl q) ih = inl q
        go (inr q) ih = inr (ih (omega arith) c i b ne)
