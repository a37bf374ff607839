-- The ways through the making of a fresh yard. Assumes nothing.
use mathlib.Core.Path.{◌≡◌, refl, sym, ap, ◌∙◌}
use mathlib.Core.Bool.{Bool, true, false}
use mathlib.Core.List.{List, [], ◌++◌, map}
use Prim.Native.Nat.{ℕ, ◌+◌, ◌*◌, ◌<◌, ◌≤◌}
use native.Mathlib.Omega.{arith}
use native.Mathlib.Decide.{ℕ_discrete}
use lib.Count.{ones}
use lib.Dec.{eqb}
use lib.ListN.{length, get_or, set, take, drop, replicate, length-take}
use borrow.Author.Tests.{ne_eqb}
use Rattle.frame.specs.Lanes.{lanes}
use Rattle.cells.specs.Sets.{role_astray}
use Rattle.post.specs.Record.{fresh_post}
use Rattle.row.specs.Rows.{part, post_in, known_in}
use Rattle.row.proofs.Laws.{part_get}
use Rattle.state.specs.Yards.{no_post, fresh_yard, yard_refusal}
use Rattle.state.specs.States.{whole, row_of, yard_in, knowns_in, held_in}
use Rattle.state.specs.Fresh.{Made, nothing_known, fresh_in}
use Rattle.state.specs.Making.{FreshFront, FreshBelow, SameFront}
use Rattle.row.proofs.LentParts.{put_part}
use Rattle.state.proofs.StateLaws.{at_lane, eight, held_whole, held_other, this_row, other_row, front_part, lent_row, row_back, back_is, lent_length}

-- ---- the cells before the rows

pub front_fresh : (s row : List ℕ) (present sources : ℕ) → length s ≡ 4483 → row ≡ replicate (length (take 139 s)) 0
    → FreshFront (set (set (row ++ drop 139 s) 0 present) 1 sources) present sources
unfolding part
front_fresh s row present sources long er =
    let l : length (take 139 s) ≡ 139 = simp length-take (omega arith) in
    let w : row ≡ replicate 139 0 = rw l at er in
    record {
      posts = rw w;
      roles = rw w;
      frames = rw w;
      beacons = rw w;
      first = rw w;
    }

-- ---- a row

pub row_fresh : (l a : List ℕ) (lane present sources dests : ℕ) → length l ≡ 543 → a ≡ replicate (length l) 0
    → let m : List ℕ = set (set (set (set a 0 lane) 1 sources) 2 dests) 542 present in
    (post_in m ≡ fresh_post lane present sources dests) × (known_in m ≡ replicate 8 0)
unfolding post_in known_in part
row_fresh l a lane present sources dests long ea =
    let w : a ≡ replicate 543 0 = rw long at ea in
    (rw w, rw w)

-- none yet, and one more
pub rows_none : (s : List ℕ) (present sources dests : ℕ) → FreshBelow s present sources dests 0 × SameFront s s
rows_none s present sources dests = (record { post = λ i l. absurd (omega arith); known = λ i l. absurd (omega arith) }, λ b m k. refl)

pub rows_more : (s₀ s row t : List ℕ) (present sources dests lane : ℕ) → length s ≡ 4483 → lane < 8 → length row ≡ length (lent_row s lane)
    → FreshBelow s present sources dests lane × SameFront s₀ s
    → post_in row ≡ fresh_post lane present sources dests → known_in row ≡ replicate 8 0 → t ≡ row_back s lane row
    → FreshBelow t present sources dests (lane + 1) × SameFront s₀ t
rows_more s₀ s row t present sources dests lane long small lr h ep ek et = (record { post = λ i l. post i l (ℕ_discrete i lane); known = λ i l. known i l (ℕ_discrete i lane) }, front)
  where
    size : length row ≡ 543
    size = lr ∙ lent_length s lane long small

    back : t ≡ put_part s (139 + 543 * lane) 543 row
    back = et ∙ back_is s lane row

    post : (i : ℕ) → i < lane + 1 → Dec (i ≡ lane) → post_in (row_of t i) ≡ fresh_post i present sources dests
    post i l (yes e) = rw (back, e, this_row s lane row long small size) ep
    post i l (no n) = rw (back, other_row s lane row long small size i n) (h.0.post i (omega (arith, n)))

    known : (i : ℕ) → i < lane + 1 → Dec (i ≡ lane) → known_in (row_of t i) ≡ replicate 8 0
    known i l (yes e) = rw (back, e, this_row s lane row long small size) ek
    known i l (no n) = rw (back, other_row s lane row long small size i n) (h.0.known i (omega (arith, n)))

    front : SameFront s₀ t
    front b m k = rw back (front_part s lane row long small size b m k) ∙ h.1 b m k

-- ---- the whole

same_cell : (s t : List ℕ) (k : ℕ) → SameFront s t → k + 1 ≤ 139 → get_or t (k + 0) 0 ≡ get_or s (k + 0) 0
same_cell s t k h l = sym (part_get t k 1 0 (omega arith)) ∙ ap (λ (x : List ℕ). get_or x 0 0) (h k 1 l) ∙ part_get s k 1 0 (omega arith)

held_fresh : (s t : List ℕ) (present sources dests : ℕ) → length t ≡ 4483 → FreshFront s present sources → FreshBelow t present sources dests 8 → SameFront s t
    → held_in t ≡ whole (fresh_yard present sources dests) nothing_known
unfolding yard_in knowns_in fresh_yard
held_fresh s t present sources dests long f b e =
    let ps : map (λ (i : ℕ). post_in (row_of t i)) lanes ≡ map (λ (i : ℕ). fresh_post i present sources dests) lanes
    = eight no_post (λ (i : ℕ). fresh_post i present sources dests) (map (λ (i : ℕ). post_in (row_of t i)) lanes) refl
    (λ i l. at_lane no_post (λ (j : ℕ). post_in (row_of t j)) i l ∙ b.post i l)
    in
    let ks : map (λ (i : ℕ). known_in (row_of t i)) lanes ≡ map (λ (i : ℕ). replicate 8 0) lanes
    = eight [] (λ (i : ℕ). replicate 8 0) (map (λ (i : ℕ). known_in (row_of t i)) lanes) refl
    (λ i l. at_lane [] (λ (j : ℕ). known_in (row_of t j)) i l ∙ b.known i l)
    in
    held_whole t long
    ∙ rw (ps, ks, same_cell s t 0 e (omega arith), same_cell s t 1 e (omega arith), same_cell s t 2 e (omega arith), e 3 8 (omega arith), e 11 128 (omega arith), f.posts, f.roles, f.frames, f.beacons, f.first)

-- no posts, 3
pub fresh_no_posts : (s : List ℕ) (present sources dests : ℕ) → ones present ≡ 0
    → ◌≡◌ {A = Made} (record { number = 3; held = held_in s }) (fresh_in (held_in s) present sources dests)
unfolding held_in fresh_in yard_refusal
fresh_no_posts s present sources dests none = go (eqb (length s) 4483) refl
  where
    go : (a : Bool) → eqb (length s) 4483 ≡ a → ◌≡◌ {A = Made} (record { number = 3; held = held_in s }) (fresh_in (held_in s) present sources dests)
    go true p = rw (p, none)
    go false p = rw (p, none)

-- 12, for the roles or the length
pub fresh_astray : (s : List ℕ) (present sources dests : ℕ) → (ones present ≡ 0 → ⊥) → role_astray present sources dests ≡ true
    → ◌≡◌ {A = Made} (record { number = 12; held = held_in s }) (fresh_in (held_in s) present sources dests)
unfolding held_in fresh_in yard_refusal
fresh_astray s present sources dests some astray = go (eqb (length s) 4483) refl
  where
    go : (a : Bool) → eqb (length s) 4483 ≡ a → ◌≡◌ {A = Made} (record { number = 12; held = held_in s }) (fresh_in (held_in s) present sources dests)
    go true p = rw (p, ne_eqb (ones present) 0 some, astray)
    go false p = rw (p, ne_eqb (ones present) 0 some)

pub fresh_short : (s : List ℕ) (present sources dests : ℕ) → (ones present ≡ 0 → ⊥) → (length s ≡ 4483 → ⊥)
    → ◌≡◌ {A = Made} (record { number = 12; held = held_in s }) (fresh_in (held_in s) present sources dests)
unfolding fresh_in
fresh_short s present sources dests some short = rw (held_other s short, ne_eqb (ones present) 0 some)

pub fresh_made : (s u t : List ℕ) (present sources dests : ℕ) → length s ≡ 4483 → (ones present ≡ 0 → ⊥) → role_astray present sources dests ≡ false → length t ≡ 4483
    → FreshFront u present sources → FreshBelow t present sources dests 8 → SameFront u t
    → ◌≡◌ {A = Made} (record { number = 0; held = held_in t }) (fresh_in (held_in s) present sources dests)
unfolding fresh_in yard_refusal
fresh_made s u t present sources dests long some astray lt f b e =
    rw (held_whole s long, ne_eqb (ones present) 0 some, astray, held_fresh u t present sources dests lt f b e)
