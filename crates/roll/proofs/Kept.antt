-- Hearings keep the first frames of the orders and the own serials, which say what a roll call hears. Assumes nothing.
use mathlib.Core.Path.{◌≡◌, refl, ◌∙◌}
use mathlib.Core.Bool.{Bool, true, false, cond}
use mathlib.Core.List.{List, [], ◌∷◌, ◌++◌}
use Prim.Native.Nat.{ℕ, zero, suc}
use lib.Dec.{ltb, eqb}
use lib.ListN.{get_or, set}
use Rattle.frame.specs.declared.Frame.{Frame}
use Rattle.cells.specs.Sets.{has_lane}
use Rattle.cells.specs.Tables.{order_place}
use Rattle.post.specs.declared.Post.{Post}
use Rattle.post.specs.Record.{is_source, last_of}
use Rattle.post.specs.Taking.{kept, ticked, raised_post, taken}
use Rattle.deliver.specs.Known.{delivered_from}
use Rattle.steps.specs.Refusals.{is_next, hear_refusal}
use Rattle.steps.specs.Knowing.{hear_took, hears_by}
use Rattle.state.specs.Yards.{Yard, no_post, post_at}
use Rattle.yard.specs.Singles.{stops_hearing, frame_at}
use Rattle.yard.specs.Worlds.{Single, hear}
use Rattle.state.specs.States.{Held, whole, other}
use Rattle.yard.specs.InState.{hears_in, Here, single_in, singles_in}
use Rattle.roll.specs.RollCall.{lane_hears, lanes_hears, posts_hear}

-- ---- one list after another

pub singles_append : (h : Here) (l m : List Single) → singles_in h (l ++ m) ≡ singles_in (singles_in h l) m
unfolding singles_in
singles_append h [] m = refl
singles_append h (s ∷ l) m = singles_append (single_in h s) l m

-- ---- a hearing keeps the post's own serial

took_serial : (p : Post) (f : Frame) → (hear_took p f).serial.0 ≡ p.serial.0
unfolding hear_took taken raised_post kept ticked
took_serial p f = go (is_next f (last_of p f.lane)) (is_source p p.lane) refl refl
  where
    go : (a b : Bool) → is_next f (last_of p f.lane) ≡ a → is_source p p.lane ≡ b → (hear_took p f).serial.0 ≡ p.serial.0
    go true true e s = rw (e, s)
    go true false e s = rw (e, s)
    go false b e s = rw e

heard_serial : (known : List ℕ) (p : Post) (f : Frame) → (hears_by known p f).post.serial.0 ≡ p.serial.0
unfolding hears_by delivered_from
heard_serial known p f = go (eqb (hear_refusal p f) 0) refl
  where
    go : (b : Bool) → eqb (hear_refusal p f) 0 ≡ b → (hears_by known p f).post.serial.0 ≡ p.serial.0
    go true e = rw e (took_serial p f)
    go false e = rw e

set_serial : (posts : List Post) (lane q : ℕ) (p : Post) → p.serial.0 ≡ (get_or posts lane no_post).serial.0
    → (get_or (set posts lane p) q no_post).serial.0 ≡ (get_or posts q no_post).serial.0
set_serial [] lane q p e = refl
set_serial (x ∷ l) zero zero p e = e
set_serial (x ∷ l) zero (suc q) p e = refl
set_serial (x ∷ l) (suc lane) zero p e = refl
set_serial (x ∷ l) (suc lane) (suc q) p e = set_serial l lane q p e

-- ---- what says what a roll call hears

unfoldable pub first_of : Held → List ℕ
first_of (whole y knowns) = y.first
first_of (other cells) = []

unfoldable pub serial_of : Held → ℕ → ℕ
serial_of (whole y knowns) q = (post_at y q).serial.0
serial_of (other cells) q = 0

pub record Same (g h : Held) : Type 0 where
  pub first : first_of g ≡ first_of h
  pub serial : (q : ℕ) → serial_of g q ≡ serial_of h q

same : (h : Held) → Same h h
same h = record { first = refl; serial = λ q. refl }

pub same_then : (f g h : Held) → Same f g → Same g h → Same f h
same_then f g h a b = record { first = a.first ∙ b.first; serial = λ q. a.serial q ∙ b.serial q }

hear_keeps : (h : Held) (air : List ℕ) (lane k : ℕ) → Same (hears_in h air lane k).held h
unfolding hears_in first_of serial_of
hear_keeps (other cells) air lane k = same (other cells)
hear_keeps (whole y knowns) air lane k = go (eqb (cond (ltb 7 lane) 4 (stops_hearing air (post_at y lane) y.frames k)) 0) refl
  where
    go : (b : Bool) → eqb (cond (ltb 7 lane) 4 (stops_hearing air (post_at y lane) y.frames k)) 0 ≡ b
        → Same (hears_in (whole y knowns) air lane k).held (whole y knowns)
    go true e = rw e (record {
      first = refl;
      serial = λ q. set_serial y.posts lane q (hears_by (get_or knowns lane []) (post_at y lane) (frame_at air k)).post (heard_serial (get_or knowns lane []) (post_at y lane) (frame_at air k));
    })
    go false e = rw e (same (whole y knowns))

-- ---- the lists of a roll call's hearings

-- one hearing, and one list after another
keeps_one : (h : Here) (p k : ℕ) → Same (singles_in h (hear p k ∷ [])).held h.held
unfolding singles_in single_in
keeps_one h p k = hear_keeps h.held h.air p k

keeps_append : (h : Here) (l m : List Single) → Same (singles_in h l).held h.held → Same (singles_in (singles_in h l) m).held (singles_in h l).held
    → Same (singles_in h (l ++ m)).held h.held
keeps_append h l m a b = rw (singles_append h l m) (same_then (singles_in (singles_in h l) m).held (singles_in h l).held h.held b a)

keeps_none : (h : Here) → Same (singles_in h []).held h.held
unfolding singles_in
keeps_none h = same h.held

pub lane_keeps : (h : Here) (first : List ℕ) (p q n : ℕ) → Same (singles_in h (lane_hears first p q n)).held h.held
unfolding lane_hears
lane_keeps h first p q zero = keeps_none h
lane_keeps h first p q (suc n) =
    keeps_append h (lane_hears first p q n) (hear p (get_or first (order_place q (suc n)) 0) ∷ []) (lane_keeps h first p q n)
    (keeps_one (singles_in h (lane_hears first p q n)) p (get_or first (order_place q (suc n)) 0))

other_keeps : (h : Here) (first : List ℕ) (p q n : ℕ) (b : Bool) → Same (singles_in h (cond b [] (lane_hears first p q n))).held h.held
other_keeps h first p q n true = keeps_none h
other_keeps h first p q n false = lane_keeps h first p q n

pub lanes_keep : (h : Here) (y : Yard) (p k : ℕ) → Same (singles_in h (lanes_hears y p k)).held h.held
unfolding lanes_hears
lanes_keep h y p zero = keeps_none h
lanes_keep h y p (suc q) =
    keeps_append h (lanes_hears y p q) (cond (eqb q p) [] (lane_hears y.first p q (post_at y q).serial.0)) (lanes_keep h y p q)
    (other_keeps (singles_in h (lanes_hears y p q)) y.first p q (post_at y q).serial.0 (eqb q p))

present_keeps : (h : Here) (y : Yard) (p : ℕ) (b : Bool) → Same (singles_in h (cond b (lanes_hears y p 8) [])).held h.held
present_keeps h y p true = lanes_keep h y p 8
present_keeps h y p false = keeps_none h

pub posts_keep : (h : Here) (y : Yard) (k : ℕ) → Same (singles_in h (posts_hear y k)).held h.held
unfolding posts_hear
posts_keep h y zero = keeps_none h
posts_keep h y (suc p) =
    keeps_append h (posts_hear y p) (cond (has_lane y.present p) (lanes_hears y p 8) []) (posts_keep h y p)
    (present_keeps (singles_in h (posts_hear y p)) y p (has_lane y.present p))

-- ---- the same list, of a yard with the same first frames and serials

pub lanes_same : (y z : Yard) (p k : ℕ) → y.first ≡ z.first → ((q : ℕ) → (post_at y q).serial.0 ≡ (post_at z q).serial.0) → lanes_hears y p k ≡ lanes_hears z p k
unfolding lanes_hears
lanes_same y z p zero e s = refl
lanes_same y z p (suc q) e s = rw (lanes_same y z p q e s, e, s q)
