-- Laws of the judgement's loops. Assumes nothing.
use mathlib.Core.Path.{◌≡◌, refl, sym, ap, ap₂, ◌∙◌}
use mathlib.Core.Bool.{Bool, true, false, cond, not, ◌&&◌, ◌||◌}
use mathlib.Core.List.{List}
use Prim.Native.Nat.{ℕ, zero, suc, ◌+◌, ◌-◌, ◌*◌, ◌/◌, ◌%◌, ◌<◌, ◌≤◌, min}
use native.Mathlib.Numerals.{add-one}
use native.Mathlib.Omega.{arith}
use native.Mathlib.Decide.{dec_lt}
use borrow.Author.Tests.{lt-ltb, le-ltb, le-leb, lt-leb}
use lib.Dec.{ltb, eqb}
use lib.ListN.{length, get_or, set}
use lib.Seq.{set_out}
use Rattle.frame.specs.Lanes.{any_below}
use Rattle.frame.proofs.Lanes.{any_same}
use Rattle.frame.proofs.Laws.{any_more}
use Rattle.deliver.specs.Known.{advanced, known_below}
use Rattle.deliver.specs.Loops.{marks_below}
use Rattle.deliver.proofs.Gathering.{marks_log}
use Rattle.deliver.proofs.KnownLaws.{some_at, at_some}
use Rattle.judge.specs.Parts.{taken_in, bad_order_in, bad_serial_in, bad_used_in, bad_place_in, bad_unused_in, bad_logged_in}

or_assoc : (a b c : Bool) → ((a || b) || c) ≡ (a || (b || c))
or_assoc true b c = refl
or_assoc false b c = refl

or-true : (a b : Bool) → (a || (true || b)) ≡ true
or-true true b = refl
or-true false b = refl

or-false : (a : Bool) → (a || false) ≡ a
or-false true = refl
or-false false = refl

-- a row of tests in two parts
pub any_join : (f : ℕ → Bool) (a b : ℕ) → any_below f (a + b) ≡ (any_below f a || any_below (λ (k : ℕ). f (a + k)) b)
unfolding any_below
any_join f a zero = let e : a + 0 ≡ a = omega arith in rw e (sym (or-false (any_below f a)))
any_join f a (suc b) =
    let e : a + suc b ≡ suc (a + b) = omega arith in
    rw e (ap (λ (x : Bool). x || f (a + b)) (any_join f a b) ∙ or_assoc (any_below f a) (any_below (λ (k : ℕ). f (a + k)) b) (f (a + b)))

-- ---- the orders: serial by serial, each in all lanes, or place by place

same_truth : (a b : Bool) → (a ≡ true → b ≡ true) → (b ≡ true → a ≡ true) → a ≡ b
same_truth true b f g = sym (f refl)
same_truth false true f g = g refl
same_truth false false f g = refl

by_serials : (test : ℕ → Bool) → any_below (λ (k : ℕ). any_below (λ (lane : ℕ). test (lane * 16 + k)) 8) 16 ≡ any_below test 128
by_serials test = same_truth _ _ there back
  where
    there : any_below (λ (k : ℕ). any_below (λ (lane : ℕ). test (lane * 16 + k)) 8) 16 ≡ true → any_below test 128 ≡ true
    there e =
        let r = some_at (λ (k : ℕ). any_below (λ (lane : ℕ). test (lane * 16 + k)) 8) 16 e in
        let s = some_at (λ (lane : ℕ). test (lane * 16 + r.0)) 8 r.2 in
        at_some test 128 (s.0 * 16 + r.0) (omega (arith, r.1, s.1)) s.2

    back : any_below test 128 ≡ true → any_below (λ (k : ℕ). any_below (λ (lane : ℕ). test (lane * 16 + k)) 8) 16 ≡ true
    back e =
        let r = some_at test 128 e in
        let place : ℕ = r.0 in
        let m : place / 16 * 16 + place % 16 ≡ place = omega arith in
        at_some (λ (k : ℕ). any_below (λ (lane : ℕ). test (lane * 16 + k)) 8) 16 (place % 16) (omega arith)
        (at_some (λ (lane : ℕ). test (lane * 16 + place % 16)) 8 (place / 16) (omega (arith, r.1)) (rw m r.2))

serial_there : (last stamps words : List ℕ) (k lane : ℕ) → k < 16 → bad_serial_in last stamps words k lane ≡ bad_order_in last stamps words (lane * 16 + k)
serial_there last stamps words k lane h =
    let d : (lane * 16 + k) / 16 ≡ lane = omega arith in
    let m : (lane * 16 + k) % 16 ≡ k = omega arith in
    rw (d, m)

pub all_serials : (last stamps words : List ℕ) (b : Bool) → b ≡ any_below (λ (k : ℕ). any_below (bad_serial_in last stamps words k) 8) 16
    → b ≡ any_below (bad_order_in last stamps words) 128
all_serials last stamps words b e =
    e
    ∙ any_same (λ (k : ℕ). any_below (bad_serial_in last stamps words k) 8) (λ (k : ℕ). any_below (λ (lane : ℕ). bad_order_in last stamps words (lane * 16 + k)) 8) 16
    (λ k h. any_same (bad_serial_in last stamps words k) (λ (lane : ℕ). bad_order_in last stamps words (lane * 16 + k)) 8 (λ lane l. serial_there last stamps words k lane h))
    ∙ by_serials (bad_order_in last stamps words)

-- one lane more
pub lane_more : (last stamps words : List ℕ) (k order lane : ℕ) (b x : Bool) → order ≡ k → b ≡ any_below (bad_serial_in last stamps words k) lane
    → x ≡ ((ltb order (get_or last lane 0) && eqb (get_or stamps (lane * 16 + k) 0) 0) || (not (ltb order (get_or last lane 0)) && (not (eqb (get_or stamps (lane * 16 + k) 0) 0) || not (eqb (get_or words (lane * 16 + k) 0) 0))))
    → (b || x) ≡ any_below (bad_serial_in last stamps words k) (lane + 1)
lane_more last stamps words k order lane b x e p q = any_more (bad_serial_in last stamps words k) lane b x p (rw e at q)

-- ---- the log

-- the mark at a place of the log says whether it stood there before; past 127 it does not matter
mark_says : (log : List ℕ) (i k mark : ℕ) (t : Bool) → mark ≡ get_or (marks_below log k) i 0
    → (not (eqb mark 0) || (ltb 127 i || t)) ≡ (any_below (λ (j : ℕ). eqb (get_or log j 0) i) k || (ltb 127 i || t))
mark_says log i k mark t e = go (dec_lt i 128)
  where
    twice : (a : Bool) → not (not a) ≡ a
    twice true = refl
    twice false = refl

    go : Dec (i < 128) → (not (eqb mark 0) || (ltb 127 i || t)) ≡ (any_below (λ (j : ℕ). eqb (get_or log j 0) i) k || (ltb 127 i || t))
    go (yes h) = rw (e, marks_log log i h k, twice)
    go (no h) =
        let o : ltb 127 i ≡ true = lt-ltb 127 i (omega arith) in
        rw o (or-true (not (eqb mark 0)) t ∙ sym (or-true (any_below (λ (j : ℕ). eqb (get_or log j 0) i) k) t))

-- what is no order's place makes nothing known
pub advanced_out : (known : List ℕ) (place : ℕ) → length known ≡ 8 → 127 < place → known ≡ advanced known place
unfolding advanced
advanced_out known place long h =
    let k : set known (place / 16) (place % 16 + 1) ≡ known = set_out known (place / 16) (place % 16 + 1) (omega arith) in
    rw k (go (eqb (get_or known (place / 16) 0) (place % 16)))
  where
    go : (b : Bool) → known ≡ cond b known known
    go true = refl
    go false = refl

-- one order of the log more
pub used_more : (last log : List ℕ) (k : ℕ) (bad x : Bool) (marks : List ℕ) → bad ≡ any_below (bad_used_in last log) k → marks ≡ marks_below log k
    → x ≡ bad_place_in last marks (get_or log k 0)
    → (bad || x) ≡ any_below (bad_used_in last log) (k + 1)
used_more last log k bad x marks b m q =
    any_more (bad_used_in last log) k bad x b
    (q ∙ mark_says log (get_or log k 0) k (get_or marks (get_or log k 0) 0) (not (taken_in last (get_or log k 0))) (rw m))

-- and what it makes known
pub known_next : (known log k k' : List ℕ) (n : ℕ) → k ≡ known_below known log 0 n → k' ≡ advanced k (get_or log n 0) → k' ≡ known_below known log 0 (n + 1)
unfolding known_below
known_next known log k k' n e q = let z : 0 + n ≡ n = omega arith in rw (add-one, ← e, z) q

-- one place past the log's end more
pub unused_more : (log : List ℕ) (n k : ℕ) (bad : Bool) (byte : ℕ) → n ≤ k → bad ≡ any_below (λ (j : ℕ). bad_unused_in log (n + j)) (k - n)
    → byte ≡ get_or log k 0
    → (bad || not (eqb byte 0)) ≡ any_below (λ (j : ℕ). bad_unused_in log (n + j)) (k + 1 - n)
unused_more log n k bad byte h b e =
    let s : k + 1 - n ≡ (k - n) + 1 = omega arith in
    let t : n + (k - n) ≡ k = omega arith in
    rw s (any_more (λ (j : ℕ). bad_unused_in log (n + j)) (k - n) bad (not (eqb byte 0)) b (rw (e, t)))

-- the log to its end, and what is past it
pub log_parts : (last log : List ℕ) (logged n : ℕ) (x y : Bool) → n ≡ min logged 128 → x ≡ any_below (bad_used_in last log) n
    → y ≡ any_below (λ (k : ℕ). bad_unused_in log (n + k)) (128 - n)
    → (x || y) ≡ any_below (bad_logged_in last log logged) 128
log_parts last log logged n x y e p q =
    let s : n + (128 - n) ≡ 128 = omega arith in
    sym (ap (any_below (bad_logged_in last log logged)) (sym s) ∙ any_join (bad_logged_in last log logged) n (128 - n)
    ∙ ap₂ ◌||◌ (any_same (bad_logged_in last log logged) (bad_used_in last log) n used ∙ sym p)
    (any_same (λ (k : ℕ). bad_logged_in last log logged (n + k)) (λ (k : ℕ). bad_unused_in log (n + k)) (128 - n) unused ∙ sym q))
  where
    used : (k : ℕ) → k < n → bad_logged_in last log logged k ≡ bad_used_in last log k
    used k h = rw (lt-ltb k logged (omega arith), lt-leb logged k (omega arith)) (or-false (bad_used_in last log k))

    unused : (k : ℕ) → k < 128 - n → bad_logged_in last log logged (n + k) ≡ bad_unused_in log (n + k)
    unused k h = rw (le-ltb (n + k) logged (omega arith), le-leb logged (n + k) (omega arith))
