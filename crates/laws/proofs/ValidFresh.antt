-- The record of a fresh post, and how refusal 12 judges it. Assumes nothing.
use mathlib.Core.Path.{◌≡◌, refl, sym, ap, ◌∙◌}
use mathlib.Core.Bool.{Bool, true, false, not, ◌&&◌, ◌||◌}
use Prim.Native.Nat.{ℕ, zero, suc, ◌/◌, ◌%◌, ◌<◌}
use native.Mathlib.Omega.{arith}
use lib.Dec.{ltb, leb, eqb}
use lib.ListN.{get_or, replicate, length-replicate}
use borrow.Author.Tests.{le-ltb, eq-eqb}
use Rattle.cells.specs.Sets.{role_astray}
use Rattle.post.specs.declared.Post.{Post}
use Rattle.post.specs.Record.{last_of, fresh_post}
use Rattle.deliver.specs.Delivery.{is_taken, stamp_at}
use Rattle.judge.specs.Judgement.{word_at, logged_at, bad_number, bad_role, bad_own_serial, is_missing, kept_beyond, bad_orders, repeats, not_taken, bad_logged, bad_log, bad_record}
use Rattle.laws.proofs.TestLaws.{or_made, and_fails, each_none}
use Rattle.laws.proofs.Valid.{Shaped, Valid, judged_valid}

-- a list of zeros has 0 everywhere
pub zeros : (n i : ℕ) → ◌≡◌ {A = ℕ} (get_or (replicate n 0) i 0) 0
zeros zero i = refl
zeros (suc n) zero = refl
zeros (suc n) (suc i) = zeros n i

-- nothing is added by a test that fails
or-false : (a : Bool) → (a || false) ≡ a
or-false true = refl
or-false false = refl

-- a record in which nothing has happened
pub record Blank (p : Post) : Type 0 where
  pub serial : p.serial.0 ≡ 0
  pub logged : p.logged ≡ 0
  pub last : (i : ℕ) → last_of p i ≡ 0
  pub stamps : (place : ℕ) → stamp_at p place ≡ 0
  pub words : (place : ℕ) → word_at p place ≡ 0
  pub log : (k : ℕ) → logged_at p k ≡ 0

-- of its numbers only the lane can be out of range
blank_number : (p : Post) → Blank p → bad_number p ≡ ltb 7 p.lane
blank_number p b =
    rw (b.serial, b.logged, each_none (λ (i : ℕ). ltb 16 (last_of p i)) 8 (λ i l. le-ltb 16 (last_of p i) (omega (arith, b.last i))))
    (or-false (ltb 7 p.lane || false || false) ∙ or-false (ltb 7 p.lane || false) ∙ or-false (ltb 7 p.lane))

-- its own serial is the last taken
blank_own : (p : Post) → Blank p → bad_own_serial p ≡ false
blank_own p b = ap not (eq-eqb p.serial.0 (last_of p p.lane) (b.serial ∙ sym (b.last p.lane)))

-- no order is missing, and none is kept
blank_orders : (p : Post) → Blank p → bad_orders p ≡ false
unfolding bad_orders
blank_orders p b =
    each_none (λ (place : ℕ). is_missing p place || kept_beyond p place) 128
    (λ place l.
    or_made (is_missing p place) (kept_beyond p place)
    (rw (le-ltb (place % 16) (last_of p (place / 16)) (omega (arith, b.last (place / 16)))))
    (and_fails (not (is_taken p place)) (not (eqb (stamp_at p place) 0) || not (eqb (word_at p place) 0)) (λ t. rw (b.stamps place, b.words place))))

-- its log is empty
blank_log : (p : Post) → Blank p → bad_log p ≡ false
unfolding bad_log
blank_log p b =
    each_none (bad_logged p) 128
    (λ k l.
    or_made (ltb k p.logged && (repeats p k || not_taken p k)) (leb p.logged k && not (eqb (logged_at p k) 0))
    (rw (le-ltb k p.logged (omega (arith, b.logged))))
    (and_fails (leb p.logged k) (not (eqb (logged_at p k) 0)) (λ t. rw (b.log k))))

-- it is turned down only for its lane and roles
pub blank_judged : (p : Post) → Blank p → bad_record p ≡ (ltb 7 p.lane || bad_role p)
unfolding bad_record
blank_judged p b =
    ap (λ (x : Bool). x || bad_role p || bad_own_serial p || bad_orders p || bad_log p) (blank_number p b)
    ∙ drops (ltb 7 p.lane || bad_role p) (bad_own_serial p) (bad_orders p) (bad_log p) (blank_own p b) (blank_orders p b) (blank_log p b)
  where
    drops : (a x y z : Bool) → x ≡ false → y ≡ false → z ≡ false → (a || x || y || z) ≡ a
    drops a x y z e f g = rw (e, f, g) (or-false (a || false || false) ∙ or-false (a || false) ∙ or-false a)

module _ (lane posts sources dests : ℕ) where
  -- in a fresh post nothing has happened
  pub fresh_blank : Blank (fresh_post lane posts sources dests)
  fresh_blank = record {
    serial = refl;
    logged = refl;
    last = λ i. zeros 8 i;
    stamps = λ place. zeros 128 place;
    words = λ place. zeros 128 place;
    log = λ k. zeros 128 k;
  }

  -- a fresh post is turned down for a lane over 7, or a role at a lane without a post, and for nothing else
  pub fresh_judged : bad_record (fresh_post lane posts sources dests) ≡ (ltb 7 lane || role_astray posts sources dests)
  fresh_judged = blank_judged (fresh_post lane posts sources dests) fresh_blank

  -- and it is a record of its type
  pub fresh_shaped : posts < 256 → sources < 256 → dests < 256 → Shaped (fresh_post lane posts sources dests)
  fresh_shaped a b c = record {
    last = length-replicate {A = ℕ} 8 0;
    table = length-replicate {A = ℕ} 136 0;
    stamps = length-replicate {A = ℕ} 128 0;
    words = length-replicate {A = ℕ} 128 0;
    log = length-replicate {A = ℕ} 128 0;
    table_values = λ i. rw (zeros 136 i) (omega arith);
    stamp_values = λ i. rw (zeros 128 i) (omega arith);
    word_values = λ i. rw (zeros 128 i) (omega arith);
    clock = omega arith;
    posts = a;
    sources = b;
    dests = c;
  }

  -- with a lane up to 7 and roles at posts it is valid
  pub fresh_valid : lane < 8 → role_astray posts sources dests ≡ false
      → Valid (fresh_post lane posts sources dests)
  fresh_valid h e =
      judged_valid (fresh_post lane posts sources dests)
      (fresh_judged
      ∙ or_made (ltb 7 lane) (role_astray posts sources dests)
      (le-ltb 7 lane (omega arith)) e)
