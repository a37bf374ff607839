-- Cells of a state: writing some of them changes exactly what they hold of the yard. Assumes nothing.
use mathlib.Core.Path.{◌≡◌, refl, sym, ap, ap₂, ◌∙◌}
use mathlib.Core.Bool.{Bool, true, false, cond}
use mathlib.Core.List.{List, [], ◌++◌, map}
use Prim.Native.Nat.{ℕ, zero, suc, ◌+◌, ◌-◌, ◌*◌, ◌<◌, ◌≤◌}
use native.Mathlib.Omega.{arith}
use native.Mathlib.Decide.{ℕ_discrete, dec_lt}
use borrow.Author.Tests.{le-leb, eq-eqb, ne_eqb}
use lib.Dec.{ltb}
use lib.ListN.{length, get_or, set, take, drop, length-set, length-take, length-drop}
use lib.Seq.{get_or-set_same, get_or-set_other, ext_get_or}
use Rattle.frame.specs.Lanes.{lanes}
use Rattle.post.specs.declared.Post.{Post}
use Rattle.row.specs.Rows.{part, put_in, post_in, known_in}
use Rattle.row.proofs.Laws.{part_get, part_put, part_apart, cell_apart}
use Rattle.state.specs.Yards.{Yard, no_post, post_at}
use Rattle.state.specs.Changed.{with_post, with_beacons}
use Rattle.state.specs.States.{row_of, yard_in, knowns_in, whole, other, held_in}
use Rattle.row.proofs.LentParts.{put_part, part_back, length_back, part_before, part_after}

-- ---- one thing for each of the eight lanes

pub at_lane : {A : Type 0} (d : A) (f : ℕ → A) (lane : ℕ) → lane < 8 → get_or (map f lanes) lane d ≡ f lane
at_lane d f zero h = refl
at_lane d f (suc zero) h = refl
at_lane d f (suc (suc zero)) h = refl
at_lane d f (suc (suc (suc zero))) h = refl
at_lane d f (suc (suc (suc (suc zero)))) h = refl
at_lane d f (suc (suc (suc (suc (suc zero))))) h = refl
at_lane d f (suc (suc (suc (suc (suc (suc zero)))))) h = refl
at_lane d f (suc (suc (suc (suc (suc (suc (suc zero))))))) h = refl
at_lane d f (suc (suc (suc (suc (suc (suc (suc (suc n)))))))) h = absurd (omega arith)

-- a list of eight is what it has at each lane
pub eight : {A : Type 0} (d : A) (f : ℕ → A) (l : List A) → length l ≡ 8 → ((i : ℕ) → i < 8 → get_or l i d ≡ f i) → l ≡ map f lanes
eight d f l e h = ext_get_or d l (map f lanes) e (λ i s. let k : i < 8 = omega arith in h i k ∙ sym (at_lane d f i k))

pub set_lane : {A : Type 0} (d : A) (f g : ℕ → A) (lane : ℕ) → lane < 8 → ((i : ℕ) → i < 8 → (i ≡ lane → ⊥) → g i ≡ f i)
    → map g lanes ≡ set (map f lanes) lane (g lane)
set_lane d f g lane small o = sym (eight d g (set (map f lanes) lane (g lane)) (length-set (map f lanes) lane (g lane)) (λ i h. go i h (ℕ_discrete i lane)))
  where
    go : (i : ℕ) → i < 8 → Dec (i ≡ lane) → get_or (set (map f lanes) lane (g lane)) i d ≡ g i
    go i h (yes e) = rw e (get_or-set_same (map f lanes) lane (g lane) d small)
    go i h (no n) = get_or-set_other (map f lanes) lane i (g lane) d n ∙ at_lane d f i h ∙ sym (o i h n)

same_lanes : {A : Type 0} (f g : ℕ → A) → ((i : ℕ) → g i ≡ f i) → map g lanes ≡ map f lanes
same_lanes f g o = rw (o 0, o 1, o 2, o 3, o 4, o 5, o 6, o 7)

-- ---- what a state holds

pub held_whole : (s : List ℕ) → length s ≡ 4483 → held_in s ≡ whole (yard_in s) (knowns_in s)
unfolding held_in
held_whole s h = rw (eq-eqb (length s) 4483 h)

pub held_other : (s : List ℕ) → (length s ≡ 4483 → ⊥) → held_in s ≡ other s
unfolding held_in
held_other s h = rw (ne_eqb (length s) 4483 h)

pub at_yard : (s : List ℕ) (lane : ℕ) → lane < 8 → post_at (yard_in s) lane ≡ post_in (row_of s lane)
unfolding yard_in
at_yard s lane h = at_lane no_post (λ (i : ℕ). post_in (row_of s i)) lane h

pub at_knowns : (s : List ℕ) (lane : ℕ) → lane < 8 → get_or (knowns_in s) lane [] ≡ known_in (row_of s lane)
unfolding knowns_in
at_knowns s lane h = at_lane [] (λ (i : ℕ). known_in (row_of s i)) lane h

pub frames_in_lem : (s : List ℕ) → (yard_in s).frames ≡ get_or s 2 0
unfolding yard_in
frames_in_lem s = refl

pub beacons_in_lem : (s : List ℕ) → (yard_in s).beacons ≡ part s 3 8
unfolding yard_in
beacons_in_lem s = refl

yard_is : {a a' b b' e e' : ℕ} {ps ps' : List Post} {f f' l l' : List ℕ} → a ≡ a' → b ≡ b' → ps ≡ ps' → e ≡ e' → f ≡ f' → l ≡ l'
    → ◌≡◌ {A = Yard} (record { present = a; sources = b; posts = ps; frames = e; beacons = f; first = l }) (record { present = a'; sources = b'; posts = ps'; frames = e'; beacons = f'; first = l' })
yard_is p q r s t u = rw (p, q, r, s, t, u)

-- ---- a row written

module _ (s : List ℕ) (lane : ℕ) (row : List ℕ) (long : length s ≡ 4483) (small : lane < 8) (size : length row ≡ 543) where
  abbrev t : List ℕ
  t = put_part s (139 + 543 * lane) 543 row

  inside : 139 + 543 * lane + 543 ≤ length s
  inside = omega arith

  pub this_row : row_of t lane ≡ row
  this_row = part_back s (139 + 543 * lane) 543 row inside size

  pub other_row : (i : ℕ) → (i ≡ lane → ⊥) → row_of t i ≡ row_of s i
  other_row i n = go (dec_lt i lane)
    where
      go : Dec (i < lane) → row_of t i ≡ row_of s i
      go (yes l) = part_before s (139 + 543 * lane) 543 row inside size (139 + 543 * i) 543 (omega arith)
      go (no l) = part_after s (139 + 543 * lane) 543 row inside size (139 + 543 * i) 543 (omega (arith, n))

  pub row_long : length t ≡ 4483
  row_long = length_back s (139 + 543 * lane) 543 row inside size ∙ long

  -- the cells before the rows
  pub front_part : (b m : ℕ) → b + m ≤ 139 → part t b m ≡ part s b m
  front_part b m h = part_before s (139 + 543 * lane) 543 row inside size b m (omega arith)

  pub front_cell : (k : ℕ) → k + 1 ≤ 139 → get_or t (k + 0) 0 ≡ get_or s (k + 0) 0
  front_cell k h = sym (part_get t k 1 0 (omega arith)) ∙ ap (λ (l : List ℕ). get_or l 0 0) (front_part k 1 h) ∙ part_get s k 1 0 (omega arith)

  pub row_yard : yard_in t ≡ with_post (yard_in s) lane (post_in row) (yard_in s).frames
  unfolding yard_in
  row_yard =
      let ps : map (λ (i : ℕ). post_in (row_of t i)) lanes ≡ set (map (λ (i : ℕ). post_in (row_of s i)) lanes) lane (post_in row)
      = set_lane no_post (λ (i : ℕ). post_in (row_of s i)) (λ (i : ℕ). post_in (row_of t i)) lane small (λ i h n. ap post_in (other_row i n))
      ∙ ap (λ (l : List ℕ). set (map (λ (i : ℕ). post_in (row_of s i)) lanes) lane (post_in l)) this_row
      in
      yard_is (front_cell 0 (omega arith)) (front_cell 1 (omega arith)) ps (front_cell 2 (omega arith)) (front_part 3 8 (omega arith)) (front_part 11 128 (omega arith))

  pub row_knowns : knowns_in t ≡ set (knowns_in s) lane (known_in row)
  unfolding knowns_in
  row_knowns =
      set_lane [] (λ (i : ℕ). known_in (row_of s i)) (λ (i : ℕ). known_in (row_of t i)) lane small (λ i h n. ap known_in (other_row i n))
      ∙ ap (λ (l : List ℕ). set (map (λ (i : ℕ). known_in (row_of s i)) lanes) lane (known_in l)) this_row

-- the row of a lane as code lends it, and the state that it comes back to
abbrev pub lent_row : List ℕ → ℕ → List ℕ
lent_row s lane = take (139 + 543 * lane + 543 - (139 + 543 * lane)) (drop (139 + 543 * lane) s)

abbrev pub row_back : List ℕ → ℕ → List ℕ → List ℕ
row_back s lane row = take (139 + 543 * lane) s ++ (row ++ drop (139 + 543 * lane + 543 - (139 + 543 * lane)) (drop (139 + 543 * lane) s))

same_543 : (lane : ℕ) → 139 + 543 * lane + 543 - (139 + 543 * lane) ≡ 543
same_543 lane = omega arith

pub lent_is : (s : List ℕ) (lane : ℕ) → lent_row s lane ≡ row_of s lane
unfolding part
lent_is s lane = rw (same_543 lane)

pub back_is : (s : List ℕ) (lane : ℕ) (row : List ℕ) → row_back s lane row ≡ put_part s (139 + 543 * lane) 543 row
unfolding put_part
back_is s lane row = rw (same_543 lane)

pub lent_length : (s : List ℕ) (lane : ℕ) → length s ≡ 4483 → lane < 8 → length (lent_row s lane) ≡ 543
lent_length s lane long small = rw (same_543 lane) (simp (length-take, length-drop) (omega arith))

-- ---- the count of frames

abbrev pub with_frames : Yard → ℕ → Yard
with_frames y frames = with_beacons y frames y.beacons

module _ (s : List ℕ) (v : ℕ) (long : length s ≡ 4483) where
  frames_part : (b m : ℕ) → 3 ≤ b → part (set s 2 v) b m ≡ part s b m
  unfolding put_in
  frames_part b m h = part_apart s 2 1 0 v b m (rw (le-leb 3 b h))

  pub frames_row : (lane : ℕ) → row_of (set s 2 v) lane ≡ row_of s lane
  frames_row lane = frames_part (139 + 543 * lane) 543 (omega arith)

  pub frames_yard : yard_in (set s 2 v) ≡ with_frames (yard_in s) v
  unfolding yard_in put_in
  frames_yard =
      let cell = cell_apart s 2 1 0 v in
      yard_is (cell 0 refl) (cell 1 refl) (same_lanes (λ (i : ℕ). post_in (row_of s i)) (λ (i : ℕ). post_in (row_of (set s 2 v) i)) (λ i. ap post_in (frames_row i)))
      (get_or-set_same s 2 v 0 (omega arith)) (frames_part 3 8 (omega arith)) (frames_part 11 128 (omega arith))

  pub frames_knowns : knowns_in (set s 2 v) ≡ knowns_in s
  unfolding knowns_in
  frames_knowns = same_lanes (λ (i : ℕ). known_in (row_of s i)) (λ (i : ℕ). known_in (row_of (set s 2 v) i)) (λ i. ap known_in (frames_row i))

  pub frames_held : held_in (set s 2 v) ≡ whole (with_frames (yard_in s) v) (knowns_in s)
  frames_held = held_whole (set s 2 v) (length-set s 2 v ∙ long) ∙ ap₂ whole frames_yard frames_knowns

-- ---- a cell of the n from a on, before the rows

module _ (s : List ℕ) (a n i v : ℕ) (front : a + n ≤ 139) where
  abbrev u : List ℕ
  u = put_in s a n i v

  cell_row : (lane : ℕ) → row_of u lane ≡ row_of s lane
  cell_row lane = part_apart s a n i v (139 + 543 * lane) 543 (rw (le-leb (a + n) (139 + 543 * lane) (omega arith)))

  cell_posts : map (λ (k : ℕ). post_in (row_of u k)) lanes ≡ map (λ (k : ℕ). post_in (row_of s k)) lanes
  cell_posts = same_lanes (λ (k : ℕ). post_in (row_of s k)) (λ (k : ℕ). post_in (row_of u k)) (λ k. ap post_in (cell_row k))

  pub cell_knowns : knowns_in u ≡ knowns_in s
  unfolding knowns_in
  cell_knowns = same_lanes (λ (k : ℕ). known_in (row_of s k)) (λ (k : ℕ). known_in (row_of u k)) (λ k. ap known_in (cell_row k))

  pub cell_long : length u ≡ length s
  unfolding put_in
  cell_long = go (ltb i n)
    where
      go : (b : Bool) → length (cond b (set s (a + i) v) s) ≡ length s
      go true = length-set s (a + i) v
      go false = refl

-- a count of beacons
pub beacons_yard : (s : List ℕ) (i v : ℕ) → yard_in (put_in s 3 8 i v) ≡ with_beacons (yard_in s) (yard_in s).frames (set (yard_in s).beacons i v)
unfolding yard_in
beacons_yard s i v =
    let cell = cell_apart s 3 8 i v in
    yard_is (cell 0 refl) (cell 1 refl) (cell_posts s 3 8 i v (omega arith)) (cell 2 refl) (part_put s 3 8 i v) (part_apart s 3 8 i v 11 128 refl)

-- the number of a first frame
abbrev pub with_first : Yard → List ℕ → Yard
with_first y first = record { present = y.present; sources = y.sources; posts = y.posts; frames = y.frames; beacons = y.beacons; first = first }

first_yard : (s : List ℕ) (i v : ℕ) → yard_in (put_in s 11 128 i v) ≡ with_first (yard_in s) (set (yard_in s).first i v)
unfolding yard_in
first_yard s i v =
    let cell = cell_apart s 11 128 i v in
    yard_is (cell 0 refl) (cell 1 refl) (cell_posts s 11 128 i v (omega arith)) (cell 2 refl) (part_apart s 11 128 i v 3 8 refl) (part_put s 11 128 i v)

pub first_held : (s : List ℕ) (i v : ℕ) → length s ≡ 4483
    → held_in (put_in s 11 128 i v) ≡ whole (with_first (yard_in s) (set (yard_in s).first i v)) (knowns_in s)
first_held s i v h =
    held_whole (put_in s 11 128 i v) (cell_long s 11 128 i v (omega arith) ∙ h) ∙ ap₂ whole (first_yard s i v) (cell_knowns s 11 128 i v (omega arith))
