-- A record that refusal 12 does not turn down, by index, and what every record has by its type. Assumes nothing.
use mathlib.Core.Path.{◌≡◌, refl, ap}
use mathlib.Core.Bool.{Bool, true, false, not, ◌&&◌, ◌||◌}
use Prim.Native.Nat.{ℕ, ◌<◌, ◌≤◌}
use native.Mathlib.Omega.{arith}
use lib.Dec.{ltb, leb, eqb}
use borrow.Author.Tests.{ltb-true, ltb-false, lt-ltb, le-ltb, leb-true, le-leb, eqb-true, eqb-false, eq-eqb, ne_eqb, not-true, not-false}
use Rattle.frame.specs.Lanes.{any_below}
use Rattle.post.specs.declared.Post.{Post}
use Rattle.post.specs.Record.{is_post, is_source, is_dest, last_of}
use Rattle.deliver.specs.Delivery.{is_taken, stamp_at}
use Rattle.judge.specs.Judgement.{word_at, logged_at, bad_number, bad_role, bad_own_serial, is_missing, kept_beyond, bad_orders, repeats, not_taken, bad_logged, bad_log, bad_record}
pub use Rattle.laws.specs.Records.{Shaped, Valid}
use Rattle.laws.proofs.TestLaws.{not_both, zero_of, above_zero, and_second, and_fails, or_parts, or_made, none_each, each_none}

-- ---- the judgement taken apart

-- a role that is not turned down is at a post
role_parts : (source dest post : Bool) → ((source || dest) && not post) ≡ false → (source ≡ true → post ≡ true) × (dest ≡ true → post ≡ true)
role_parts source dest true e = (λ s. refl, λ d. refl)
role_parts true dest false e = absurd (not_both true refl e)
role_parts false true false e = absurd (not_both true refl e)
role_parts false false false e = (λ s. s, λ d. d)

-- and the other way round
role_made : (source dest post : Bool) → (source ≡ true → post ≡ true) → (dest ≡ true → post ≡ true) → ((source || dest) && not post) ≡ false
role_made source dest true h k = and_fails (source || dest) false (λ e. refl)
role_made true dest false h k = absurd (not_both false (h refl) refl)
role_made false true false h k = absurd (not_both false (k refl) refl)
role_made false false false h k = refl

-- a record that is not turned down is valid
pub judged_valid : (p : Post) → bad_record p ≡ false → Valid p
unfolding bad_record bad_orders bad_log
judged_valid p e =
    let a = or_parts (bad_number p || bad_role p || bad_own_serial p || bad_orders p) (bad_log p) e in
    let b = or_parts (bad_number p || bad_role p || bad_own_serial p) (bad_orders p) a.0 in
    let c = or_parts (bad_number p || bad_role p) (bad_own_serial p) b.0 in
    let d = or_parts (bad_number p) (bad_role p) c.0 in
    let n = or_parts (ltb 7 p.lane || ltb 16 p.serial.0 || ltb 128 p.logged) (any_below (λ (i : ℕ). ltb 16 (last_of p i)) 8) d.0 in
    let m = or_parts (ltb 7 p.lane || ltb 16 p.serial.0) (ltb 128 p.logged) n.0 in
    let o = or_parts (ltb 7 p.lane) (ltb 16 p.serial.0) m.0 in
    let full : p.logged ≤ 128 = ltb-false 128 p.logged m.1 in
    let role = none_each (λ (i : ℕ). (is_source p i || is_dest p i) && not (is_post p i)) 8 d.1 in
    let order = none_each (λ (place : ℕ). is_missing p place || kept_beyond p place) 128 b.1 in
    let entry = none_each (bad_logged p) 128 a.1 in
    record {
      lane = omega (arith, ltb-false 7 p.lane o.0);
      serial = ltb-false 16 p.serial.0 o.1;
      logged = full;
      last = λ i l. ltb-false 16 (last_of p i) (none_each (λ (i : ℕ). ltb 16 (last_of p i)) 8 n.1 i l);
      sources = λ i l. (role_parts (is_source p i) (is_dest p i) (is_post p i) (role i l)).0;
      dests = λ i l. (role_parts (is_source p i) (is_dest p i) (is_post p i) (role i l)).1;
      own = eqb-true p.serial.0 (last_of p p.lane) (not-false (eqb p.serial.0 (last_of p p.lane)) c.1);
      present = λ place l t.
          let x = or_parts (is_missing p place) (kept_beyond p place) (order place l) in
          above_zero (stamp_at p place) (and_second (is_taken p place) (eqb (stamp_at p place) 0) x.0 t);
      beyond = λ place l t.
          let x = or_parts (is_missing p place) (kept_beyond p place) (order place l) in
          let y = and_second (not (is_taken p place)) (not (eqb (stamp_at p place) 0) || not (eqb (word_at p place) 0)) x.1 (ap not t) in
          let z = or_parts (not (eqb (stamp_at p place) 0)) (not (eqb (word_at p place) 0)) y in
          (zero_of (stamp_at p place) z.0, zero_of (word_at p place) z.1);
      once = λ j k h l.
          let x = in_log k l (omega arith) (entry k (omega arith)) in
          eqb-false (logged_at p j) (logged_at p k) (none_each (λ (j : ℕ). eqb (logged_at p j) (logged_at p k)) k x.0 j h);
      places = λ k l.
          let x = in_log k l (omega arith) (entry k (omega arith)) in
          under_128 (logged_at p k) (ltb-false 127 (logged_at p k) (or_parts (ltb 127 (logged_at p k)) (not (is_taken p (logged_at p k))) x.1).0);
      taken = λ k l.
          let x = in_log k l (omega arith) (entry k (omega arith)) in
          not-false (is_taken p (logged_at p k)) (or_parts (ltb 127 (logged_at p k)) (not (is_taken p (logged_at p k))) x.1).1;
      rest = λ k l h.
          let x = or_parts (ltb k p.logged && (repeats p k || not_taken p k)) (leb p.logged k && not (eqb (logged_at p k) 0)) (entry k h) in
          zero_of (logged_at p k) (and_second (leb p.logged k) (not (eqb (logged_at p k) 0)) x.1 (le-leb p.logged k l));
    }
  where
    under_128 : (n : ℕ) → n ≤ 127 → n < 128
    under_128 n h = omega arith

    in_log : (k : ℕ) → k < p.logged → k < 128 → bad_logged p k ≡ false → (repeats p k ≡ false) × (not_taken p k ≡ false)
    in_log k l h e =
        let x = or_parts (ltb k p.logged && (repeats p k || not_taken p k)) (leb p.logged k && not (eqb (logged_at p k) 0)) e in
        or_parts (repeats p k) (not_taken p k) (and_second (ltb k p.logged) (repeats p k || not_taken p k) x.0 (lt-ltb k p.logged l))

-- a valid record is not turned down
pub valid_judged : (p : Post) → Valid p → bad_record p ≡ false
unfolding bad_record bad_orders bad_log
valid_judged p v =
    or_made (bad_number p || bad_role p || bad_own_serial p || bad_orders p) (bad_log p)
    (or_made (bad_number p || bad_role p || bad_own_serial p) (bad_orders p)
    (or_made (bad_number p || bad_role p) (bad_own_serial p)
    (or_made (bad_number p) (bad_role p) number
    (each_none (λ (i : ℕ). (is_source p i || is_dest p i) && not (is_post p i)) 8
    (λ i l. role_made (is_source p i) (is_dest p i) (is_post p i) (v.sources i l) (v.dests i l))))
    (ap not (eq-eqb p.serial.0 (last_of p p.lane) v.own)))
    (each_none (λ (place : ℕ). is_missing p place || kept_beyond p place) 128 order))
    (each_none (bad_logged p) 128 entry)
  where
    number : bad_number p ≡ false
    number =
        or_made (ltb 7 p.lane || ltb 16 p.serial.0 || ltb 128 p.logged) (any_below (λ (i : ℕ). ltb 16 (last_of p i)) 8)
        (or_made (ltb 7 p.lane || ltb 16 p.serial.0) (ltb 128 p.logged)
        (or_made (ltb 7 p.lane) (ltb 16 p.serial.0) (le-ltb 7 p.lane (omega (arith, v.lane))) (le-ltb 16 p.serial.0 v.serial))
        (le-ltb 128 p.logged v.logged))
        (each_none (λ (i : ℕ). ltb 16 (last_of p i)) 8 (λ i l. le-ltb 16 (last_of p i) (v.last i l)))

    order : (place : ℕ) → place < 128 → (is_missing p place || kept_beyond p place) ≡ false
    order place l =
        or_made (is_missing p place) (kept_beyond p place)
        (and_fails (is_taken p place) (eqb (stamp_at p place) 0) (λ t. ne_eqb (stamp_at p place) 0 (λ z. omega (arith, v.present place l t))))
        (and_fails (not (is_taken p place)) (not (eqb (stamp_at p place) 0) || not (eqb (word_at p place) 0))
        (λ t. let b = v.beyond place l (not-true (is_taken p place) t) in
        or_made (not (eqb (stamp_at p place) 0)) (not (eqb (word_at p place) 0))
        (ap not (eq-eqb (stamp_at p place) 0 b.0)) (ap not (eq-eqb (word_at p place) 0 b.1))))

    entry : (k : ℕ) → k < 128 → bad_logged p k ≡ false
    entry k l =
        or_made (ltb k p.logged && (repeats p k || not_taken p k)) (leb p.logged k && not (eqb (logged_at p k) 0))
        (and_fails (ltb k p.logged) (repeats p k || not_taken p k)
        (λ t. let b : k < p.logged = ltb-true k p.logged t in
        or_made (repeats p k) (not_taken p k)
        (each_none (λ (j : ℕ). eqb (logged_at p j) (logged_at p k)) k (λ j h. ne_eqb (logged_at p j) (logged_at p k) (v.once j k h b)))
        (or_made (ltb 127 (logged_at p k)) (not (is_taken p (logged_at p k)))
        (le-ltb 127 (logged_at p k) (omega (arith, v.places k b)))
        (ap not (v.taken k b)))))
        (and_fails (leb p.logged k) (not (eqb (logged_at p k) 0))
        (λ t. ap not (eq-eqb (logged_at p k) 0 (v.rest k (leb-true p.logged k t) l))))
