-- The ways through the parts of a step: the frame that a post is to hear, and a broadcast. Assumes nothing.
use mathlib.Core.Path.{◌≡◌, refl, sym, ap, ◌∙◌}
use mathlib.Core.Bool.{Bool, true, false, cond, ◌&&◌}
use mathlib.Core.List.{List}
use mathlib.Core.Logic.{◌⊎◌, inl, inr}
use Prim.Native.Nat.{ℕ, ◌+◌, ◌<◌, ◌≤◌}
use native.Mathlib.Omega.{arith}
use lib.Dec.{ltb, eqb}
use lib.ListN.{length, get_or, set}
use lib.Seq.{set-get_or}
use borrow.Author.Tests.{ne_eqb, eq-eqb, eqb-true, eqb-false, not-false, le-leb, lt-leb, lt-ltb, le-ltb, ltb-true, leb-false}
use Rattle.std.proofs.lemmas.Bool.{ltb-false}
use Rattle.frame.specs.Refusals.{frame_refusal}
use Rattle.frame.specs.ReadWrite.{read_of}
use Rattle.frame.specs.declared.Frame.{Frame}
use Rattle.std.specs.Prelude.{Result, Ok, Err, IfOk}
use Rattle.refusal.specs.declared.Refusal.{Refusal}
use Rattle.refusal.specs.Numbers.{refused_with}
use Rattle.frame.specs.FrameRead.{FrameRead, read_answer}
use Rattle.frame.proofs.Laws.{passed}
use Rattle.air.specs.Air.{bad_air, not_on_air, stretch_at, place_refusal, frames_with}
use Rattle.air.specs.Stretch.{stretch_refusal, stretch_of}
use Rattle.air.proofs.Laws.{has_place, kept_bytes}
use Rattle.cells.specs.Tables.{order_place}
use Rattle.post.specs.declared.Post.{Post}
use Rattle.row.specs.Rows.{put_in}
use Rattle.steps.specs.Refusals.{not_in_yard, beacon_refusal}
use Rattle.state.specs.Yards.{spent}
use Rattle.yard.specs.Singles.{frames_after, absent_refusal, stops_hearing, frame_at, stops_beacon}

-- ---- a lane and a state

pub placed : (s : List ℕ) (lane : ℕ) → ◌≡◌ {A = ℕ} 0 (cond (ltb 7 lane) 4 (cond (eqb (length s) 4483) 0 12)) → (lane < 8) × (length s ≡ 4483)
placed s lane e = go (ltb 7 lane) refl (eqb (length s) 4483) refl
  where
    go : (a : Bool) → ltb 7 lane ≡ a → (b : Bool) → eqb (length s) 4483 ≡ b → (lane < 8) × (length s ≡ 4483)
    go true p b q = absurd (let z : ◌≡◌ {A = ℕ} 0 4 = rw p at e in omega arith)
    go false p true q = (omega (arith, ltb-false 7 lane p), eqb-true (length s) 4483 q)
    go false p false q = absurd (let z : ◌≡◌ {A = ℕ} 0 12 = rw (p, q) at e in omega arith)

pub misplaced : (s : List ℕ) (lane n : ℕ) → n ≡ cond (ltb 7 lane) 4 (cond (eqb (length s) 4483) 0 12) → (n ≡ 0 → ⊥)
    → ((8 ≤ lane) × (n ≡ 4)) ⊎ ((lane < 8) × (length s ≡ 4483 → ⊥) × (n ≡ 12))
misplaced s lane n e h = go (ltb 7 lane) refl (eqb (length s) 4483) refl
  where
    go : (a : Bool) → ltb 7 lane ≡ a → (b : Bool) → eqb (length s) 4483 ≡ b → ((8 ≤ lane) × (n ≡ 4)) ⊎ ((lane < 8) × (length s ≡ 4483 → ⊥) × (n ≡ 12))
    go true p b q = inl (omega (arith, ltb-true 7 lane p), rw p at e)
    go false p true q = absurd (h (rw (p, q) at e))
    go false p false q = inr (omega (arith, ltb-false 7 lane p), eqb-false (length s) 4483 q, rw (p, q) at e)

-- ---- the frame that a post is to hear

-- 21 comes before 25, and after 13
absent_is : (air : List ℕ) (p : Post) (frames k n r : ℕ) → n ≡ stretch_refusal air frames k → r ≡ cond (eqb n 25 && not_in_yard p.posts p.lane) 21 n
    → r ≡ absent_refusal air p.lane p.posts frames k
unfolding stretch_refusal
absent_is air p frames k n r en er = go (bad_air air) refl (not_on_air frames k) refl
  where
    go : (a : Bool) → bad_air air ≡ a → (o : Bool) → not_on_air frames k ≡ o → r ≡ absent_refusal air p.lane p.posts frames k
    go true qa o qo = rw qa (let z : n ≡ 13 = rw qa at en in rw z at er)
    go false qa true qo = rw (qa, qo) (let z : n ≡ 25 = rw (qa, qo) at en in rw z at er)
    go false qa false qo = rw (qa, qo) (let z : n ≡ 0 = rw (qa, qo) at en in rw z at er)

-- what stops a hearing, and the frame where nothing does
abbrev Found : List ℕ → Post → ℕ → ℕ → ℕ → Frame → Type 0
Found air p frames k n f = (n ≡ stops_hearing air p frames k) × (n ≡ 0 → f ≡ frame_at air k)

not_there : (air : List ℕ) (p : Post) (frames k n : ℕ) → n ≡ absent_refusal air p.lane p.posts frames k → (n ≡ 0 → ⊥) → n ≡ stops_hearing air p frames k
not_there air p frames k n e h = rw (← e, ne_eqb n 0 h)

-- a frame that nothing says is absent is on the air
on_air_lem : (air : List ℕ) (p : Post) (frames k : ℕ) → absent_refusal air p.lane p.posts frames k ≡ 0 → (bad_air air ≡ false) × (not_on_air frames k ≡ false)
on_air_lem air p frames k z = let a = passed (bad_air air) 13 (cond (not_on_air frames k) (cond (not_in_yard p.posts p.lane) 21 25) 0) (omega arith) z in (a.0, go (not_on_air frames k) (not_in_yard p.posts p.lane) a.1)
  where
    go : (o s : Bool) → ◌≡◌ {A = ℕ} (cond o (cond s 21 25) 0) 0 → o ≡ false
    go true true e = absurd (omega arith)
    go true false e = absurd (omega arith)
    go false s e = refl

-- what is read there
stretch_there : (air : List ℕ) (frames k : ℕ) → bad_air air ≡ false → not_on_air frames k ≡ false → stretch_of air frames k ≡ stretch_at air k
unfolding stretch_of stretch_refusal
stretch_there air frames k a o = rw (a, o)

there : (air : List ℕ) (p : Post) (frames k : ℕ) (got : FrameRead) → absent_refusal air p.lane p.posts frames k ≡ 0
    → got ≡ read_of (stretch_of air frames k) → Found air p frames k got.refusal got.frame
unfolding read_of
there air p frames k got z eg =
    let o = on_air_lem air p frames k z in
    let g : got ≡ read_of (stretch_at air k) = eg ∙ ap read_of (stretch_there air frames k o.0 o.1) in
    (rw z (ap (λ (x : FrameRead). x.refusal) g), λ q. ap (λ (x : FrameRead). x.frame) g ∙ rw (sym (ap (λ (x : FrameRead). x.refusal) g) ∙ q))

-- asking for the frame is refused just where nothing says that it is there
absent_none : (air : List ℕ) (lane posts frames k : ℕ) → stretch_refusal air frames k ≡ 0 → absent_refusal air lane posts frames k ≡ 0
unfolding stretch_refusal
absent_none air lane posts frames k z = go (bad_air air) (not_on_air frames k) refl refl z
  where
    go : (a o : Bool) → bad_air air ≡ a → not_on_air frames k ≡ o → ◌≡◌ {A = ℕ} (cond (bad_air air) 13 (cond (not_on_air frames k) 25 0)) 0 → absent_refusal air lane posts frames k ≡ 0
    go true o qa qo e = absurd (omega (arith, rw qa at e))
    go false true qa qo e = absurd (omega (arith, rw (qa, qo) at e))
    go false false qa qo e = rw (qa, qo)

none_absent : (air : List ℕ) (p : Post) (frames k : ℕ) → absent_refusal air p.lane p.posts frames k ≡ 0 → stretch_refusal air frames k ≡ 0
unfolding stretch_refusal
none_absent air p frames k z = let o = on_air_lem air p frames k z in rw (o.0, o.1)

found_there : (air part : List ℕ) (p : Post) (frames k n : ℕ) (got : FrameRead) → n ≡ stretch_refusal air frames k → n ≡ 0 → part ≡ stretch_of air frames k
    → got ≡ read_of part → Found air p frames k got.refusal got.frame
found_there air part p frames k n got en z e eg = there air p frames k got (absent_none air p.lane p.posts frames k (sym en ∙ z)) (rw e at eg)

-- so of what the reader gives
pub found_read : (air part : List ℕ) (p : Post) (frames k n : ℕ) (r : Result Frame Refusal) → n ≡ stretch_refusal air frames k → n ≡ 0 → part ≡ stretch_of air frames k
    → read_answer r ≡ read_of part → (refused_with r ≡ stops_hearing air p frames k) × IfOk r (λ f. f ≡ frame_at air k)
found_read air part p frames k n (Ok f) en z e er = let h = found_there air part p frames k n (read_answer (Ok f)) en z e er in (h.0, h.1 refl)
found_read air part p frames k n (Err r) en z e er = ((found_there air part p frames k n (read_answer (Err r)) en z e er).0, tt)

pub absent_first : (air : List ℕ) (p : Post) (frames k n r : ℕ) → n ≡ stretch_refusal air frames k → (n ≡ 0 → ⊥)
    → r ≡ cond (eqb n 25 && not_in_yard p.posts p.lane) 21 n → r ≡ stops_hearing air p frames k
absent_first air p frames k n r en h er =
    let e = absent_is air p frames k n r en er in
    not_there air p frames k r e (λ q. h (en ∙ none_absent air p frames k (sym e ∙ q)))

-- where nothing stops it the air has its length
pub air_there : (air : List ℕ) (p : Post) (frames k : ℕ) → stops_hearing air p frames k ≡ 0 → length air ≡ 65536
air_there air p frames k z = go (eqb (absent_refusal air p.lane p.posts frames k) 0) refl
  where
    go : (b : Bool) → eqb (absent_refusal air p.lane p.posts frames k) 0 ≡ b → length air ≡ 65536
    go true q = eqb-true (length air) 65536 (not-false _ (on_air_lem air p frames k (eqb-true _ 0 q)).0)
    go false q =
        let y : absent_refusal air p.lane p.posts frames k ≡ 0 = rw q at z in
        absurd (eqb-false (absent_refusal air p.lane p.posts frames k) 0 q y)

-- ---- a broadcast

-- what a broadcast leaves of the state and of the air
abbrev pub Sends : List ℕ → List ℕ → List ℕ → List ℕ → Frame → Type 0
Sends s t air exit f = (t ≡ set s 2 (frames_after air (get_or s 2 0) f)) × (exit ≡ frames_with air (get_or s 2 0) f)

-- what has no place is not counted, and not written
not_placed : (s air : List ℕ) (f : Frame) → (place_refusal air (get_or s 2 0) f ≡ 0 → ⊥) → Sends s s air air f
unfolding frames_after
not_placed s air f h = (rw (ne_eqb (place_refusal air (get_or s 2 0) f) 0 h) (sym (set-get_or s 2 0)), sym (kept_bytes air (get_or s 2 0) f h))

pub no_kind : (f : Frame) → f.kind ≡ 0 → frame_refusal f ≡ 7
unfolding frame_refusal
no_kind f z = rw z

pub none_sent_lem : (s air : List ℕ) (f : Frame) → f.kind ≡ 0 → Sends s s air air f
none_sent_lem s air f z = not_placed s air f (λ e. absurd (omega (arith, no_kind f z, (has_place air (get_or s 2 0) f e).1)))

-- a frame that is written has a place, so the count of frames does not wrap
pub has_room : (air : List ℕ) (frames n : ℕ) (f : Frame) → length air ≡ 65536 → n ≡ place_refusal air frames f → n ≡ 0 → frames < 2048
has_room air frames n f l e z = omega (arith, (has_place air frames f (sym e ∙ z)).0)

pub one_sent : (s t air exit : List ℕ) (frames n : ℕ) (f : Frame) → frames ≡ get_or s 2 0 → n ≡ place_refusal air frames f → exit ≡ frames_with air frames f → n ≡ 0
    → t ≡ set s 2 (frames + 1) → Sends s t air exit f
unfolding frames_after
one_sent s t air exit frames n f ef en ex z et = rw (← ef) (rw (← en, z) et, ex)

pub not_sent : (s air exit : List ℕ) (frames n : ℕ) (f : Frame) → frames ≡ get_or s 2 0 → n ≡ place_refusal air frames f → exit ≡ frames_with air frames f → (n ≡ 0 → ⊥)
    → Sends s s air exit f
not_sent s air exit frames n f ef en ex h =
    let p : place_refusal air (get_or s 2 0) f ≡ 0 → ⊥ = λ z. h (en ∙ rw ef z) in
    ((not_placed s air f p).0, rw (← ef) ex)

-- ---- the first frame of an order

-- what is noted of it
abbrev pub Noted : List ℕ → List ℕ → ℕ → ℕ → ℕ → Type 0
Noted s t lane serial before = t ≡ cond (ltb before (get_or s 2 0)) (put_in s 11 128 (order_place lane serial) before) s

pub first_noted : (s t : List ℕ) (lane serial before frames place : ℕ) → frames ≡ get_or s 2 0 → before < frames → place ≡ order_place lane serial
    → t ≡ put_in s 11 128 place before → Noted s t lane serial before
first_noted s t lane serial before frames place ef h ep et = rw (← ef, lt-ltb before frames h, ← ep) et

pub first_kept : (s : List ℕ) (lane serial before frames : ℕ) → frames ≡ get_or s 2 0 → frames ≤ before → Noted s s lane serial before
first_kept s lane serial before frames ef h = rw (← ef, le-ltb before frames h)

-- ---- what stops a beacon: 13, what the post's own step refuses, 27, or nothing

module _ (air : List ℕ) (p : Post) (beacons : ℕ) where
  pub beacon_no_air : (length air ≡ 65536 → ⊥) → 13 ≡ stops_beacon air p beacons
  beacon_no_air bad = rw (ne_eqb (length air) 65536 bad)

  module _ (good : length air ≡ 65536) where
    pub beacon_refused : (n : ℕ) → n ≡ beacon_refusal p → (n ≡ 0 → ⊥) → n ≡ stops_beacon air p beacons
    beacon_refused n e h = rw (eq-eqb (length air) 65536 good) (go (not_in_yard p.posts p.lane) refl)
      where
        go : (b : Bool) → not_in_yard p.posts p.lane ≡ b → n ≡ cond b 21 (cond (spent beacons) 27 0)
        go true q = rw q at e
        go false q = absurd (h (rw q at e))

    -- the post has sent its beacons, or has some left
    own : (m : ℕ) → ◌≡◌ {A = ℕ} 0 (beacon_refusal p) → m ≡ cond (spent beacons) 27 0 → m ≡ stops_beacon air p beacons
    own m e em = rw (eq-eqb (length air) 65536 good) (go (not_in_yard p.posts p.lane) refl)
      where
        go : (b : Bool) → not_in_yard p.posts p.lane ≡ b → m ≡ cond b 21 (cond (spent beacons) 27 0)
        go true q = absurd (let z : ◌≡◌ {A = ℕ} 0 21 = rw q at e in omega arith)
        go false q = em

    pub beacon_spent : ◌≡◌ {A = ℕ} 0 (beacon_refusal p) → 128 ≤ beacons → ◌≡◌ {A = ℕ} 27 (stops_beacon air p beacons)
    beacon_spent e h = own 27 e (rw (le-leb 128 beacons h))

    pub beacon_goes : ◌≡◌ {A = ℕ} 0 (beacon_refusal p) → beacons < 128 → ◌≡◌ {A = ℕ} 0 (stops_beacon air p beacons)
    beacon_goes e h = own 0 e (rw (lt-leb 128 beacons h))

-- where nothing stops it the air has its length, and the post has sent fewer than 128
pub beacon_left : (air : List ℕ) (p : Post) (beacons : ℕ) → stops_beacon air p beacons ≡ 0 → (length air ≡ 65536) × (beacons < 128)
beacon_left air p beacons z =
    let r27 : ℕ = cond (spent beacons) 27 0 in
    let r21 : ℕ = cond (not_in_yard p.posts p.lane) 21 r27 in
    let a = passed (bad_air air) 13 r21 (omega arith) z in
    let b = passed (not_in_yard p.posts p.lane) 21 r27 (omega arith) a.1 in
    let d = passed (spent beacons) 27 0 (omega arith) b.1 in
    (eqb-true (length air) 65536 (not-false _ a.0), leb-false 128 beacons d.0)
