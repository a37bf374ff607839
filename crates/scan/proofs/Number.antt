-- The reader of a number accepts exactly the numbers that are written. Assumes nothing.
use mathlib.Core.Path.{◌≡◌, refl, sym, ap, ◌∙◌}
use mathlib.Core.Bool.{Bool, true, false, cond, ◌&&◌}
use mathlib.Core.List.{List, [], ◌∷◌, ◌++◌}
use Prim.Native.Nat.{ℕ, ◌+◌, ◌*◌, ◌-◌, ◌/◌, ◌%◌, ◌<◌, ◌≤◌}
use native.Mathlib.Omega.{arith}
use lib.Dec.{ltb, leb}
use lib.ListN.{length, get_or, length-append}
use borrow.Author.Tests.{leb-true, ltb-true, ltb-false, lt-ltb}
use Rattle.scan.specs.Scan.{digit_at, failed, first_digit, next_digit, read_number}
use Rattle.scan.specs.declared.Scan.{Scan}
use Rattle.scan.proofs.Laws.{never, both, digit_in, digit_mid}
use Rattle.text.specs.Decimal.{decimal}
use Rattle.scan.proofs.Here.{Here, here_one, here_head, here_join, here_split}
use Rattle.scan.proofs.Decimal.{decimal_digit, decimal_more}

-- a scan that has read up to a place
abbrev pub done : ℕ → ℕ → ℕ → Scan
done at a b = record { ok = true; at = at; earlier = a; latest = b }

digit_byte_lem : (s : List ℕ) (at : ℕ) → digit_at s at < 10 → get_or s at 0 ≡ 48 + digit_at s at
unfolding digit_at
digit_byte_lem s at h = go (leb 48 (get_or s at 0) && leb (get_or s at 0) 57) refl h
  where
    go : (b : Bool) → (leb 48 (get_or s at 0) && leb (get_or s at 0) 57) ≡ b → cond b (get_or s at 0 - 48) 10 < 10 → get_or s at 0 ≡ 48 + cond b (get_or s at 0 - 48) 10
    go true e l = omega (arith, leb-true 48 (get_or s at 0) (both _ (leb (get_or s at 0) 57) e).0)
    go false e l = absurd (omega arith)

byte_digit : (s : List ℕ) (at d : ℕ) → d < 10 → get_or s at 0 ≡ 48 + d → digit_at s at ≡ d
byte_digit s at d h e = sym (digit_mid s at (48 + d) (sym e) (omega arith) (omega arith)) ∙ (omega arith)

-- ---- what is read is written there

-- the scan has read a number
unfoldable pub Read : List ℕ → ℕ → ℕ → Scan → Type 0
Read s at a c = (n : ℕ) × (c ≡ done (at + length (decimal n)) a n) × Here s at (decimal n) × (n < 100000)

first_sound : (s : List ℕ) (c : Scan) → (first_digit s c).ok ≡ true → (c.ok ≡ true) × Read s c.at c.latest (first_digit s c)
unfolding first_digit Read
first_sound s c h = go (c.ok && ltb (digit_at s c.at) 10) refl h
  where
    go : (b : Bool) → (c.ok && ltb (digit_at s c.at) 10) ≡ b → (cond b (done (c.at + 1) c.latest (digit_at s c.at)) (failed c)).ok ≡ true
        → (c.ok ≡ true) × Read s c.at c.latest (cond b (done (c.at + 1) c.latest (digit_at s c.at)) (failed c))
    go true e q =
        let t = both c.ok (ltb (digit_at s c.at) 10) e in
        let l : digit_at s c.at < 10 = ltb-true _ _ t.1 in
        let w = decimal_digit (digit_at s c.at) l in
        (t.0, (digit_at s c.at, rw w refl, rw w (here_one s c.at _ (digit_in s c.at l) (digit_byte_lem s c.at l)), omega arith))
    go false e q = never q

next_sound : (s : List ℕ) (at a : ℕ) (c : Scan) → Read s at a c → Read s at a (next_digit s c)
unfolding next_digit Read
next_sound s at a c r = rw r.1 (go r.0 r.2 r.3 _ refl)
  where
    go : (n : ℕ) → Here s at (decimal n) → n < 100000 → (b : Bool) → (ltb (digit_at s (at + length (decimal n))) 10 && ltb 0 n && ltb n 10000) ≡ b
        → Read s at a (cond b (done (at + length (decimal n) + 1) a (10 * n + digit_at s (at + length (decimal n)))) (done (at + length (decimal n)) a n))
    go n h l true e =
        let d = digit_at s (at + length (decimal n)) in
        let t = both (ltb d 10 && ltb 0 n) (ltb n 10000) e in
        let u = both (ltb d 10) (ltb 0 n) t.0 in
        let ld : d < 10 = ltb-true d 10 u.0 in
        let lb : 0 < n = ltb-true 0 n u.1 in
        let ln : n < 10000 = ltb-true n 10000 t.1 in
        let w = decimal_more n d lb ln ld in
        let v = length-append (decimal n) ((48 + d) ∷ []) in
        let q : at + length (decimal n ++ (48 + d) ∷ []) ≡ at + length (decimal n) + 1 = omega arith in
        let p = at + length (decimal n) in
        (10 * n + d, rw (w, q) refl, rw w (here_join s (decimal n) _ at h (here_one s p (48 + d) (digit_in s p ld) (digit_byte_lem s p ld))), omega arith)
    go n h l false e = (n, refl, h, l)

next_ok_lem : (s : List ℕ) (c : Scan) → (next_digit s c).ok ≡ true → c.ok ≡ true
unfolding next_digit
next_ok_lem s c h = go (c.ok && ltb (digit_at s c.at) 10 && ltb 0 c.latest && ltb c.latest 10000) refl h
  where
    go : (b : Bool) → (c.ok && ltb (digit_at s c.at) 10 && ltb 0 c.latest && ltb c.latest 10000) ≡ b
        → (cond b (done (c.at + 1) c.earlier (10 * c.latest + digit_at s c.at)) c).ok ≡ true → c.ok ≡ true
    go true e q = (both c.ok _ (both (c.ok && ltb (digit_at s c.at) 10) (ltb 0 c.latest) (both _ (ltb c.latest 10000) e).0).0).0
    go false e q = q

-- a number that was read is written where the scan began
pub number_sound : (s : List ℕ) (c : Scan) → (read_number s c).ok ≡ true → (c.ok ≡ true) × Read s c.at c.latest (read_number s c)
unfolding read_number
number_sound s c h =
    let f = first_sound s c (next_ok_lem s _ (next_ok_lem s _ (next_ok_lem s _ (next_ok_lem s _ h)))) in
    (f.0, next_sound s _ _ _ (next_sound s _ _ _ (next_sound s _ _ _ (next_sound s _ _ _ f.1))))

-- ---- what is written is read

-- the scan x finds each number below 10 * p that is written at a place; one below p has no digit after it
pub Finds : List ℕ → ℕ → ℕ → Scan → ℕ → Type 0
Finds s at a x p =
    (n : ℕ) → n < 10 * p → Here s at (decimal n) → (n < p → digit_at s (at + length (decimal n)) ≡ 10) → x ≡ done (at + length (decimal n)) a n

first_finds : (s : List ℕ) (c : Scan) → c.ok ≡ true → Finds s c.at c.latest (first_digit s c) 1
unfolding first_digit Finds
first_finds s c k n l h z =
    let w = decimal_digit n (omega arith) in
    let e = byte_digit s c.at n (omega arith) (here_head s [] c.at (48 + n) (rw w at h)) in
    rw (k, e, w, lt-ltb n 10 (omega arith))

next_stays : (s : List ℕ) (q a n : ℕ) → digit_at s q ≡ 10 → next_digit s (done q a n) ≡ done q a n
unfolding next_digit
next_stays s q a n e = rw e

next_builds : (s : List ℕ) (q a m d : ℕ) → digit_at s q ≡ d → d < 10 → 0 < m → m < 10000 → next_digit s (done q a m) ≡ done (q + 1) a (10 * m + d)
unfolding next_digit
next_builds s q a m d e l k h = rw (e, lt-ltb d 10 l, lt-ltb 0 m k, lt-ltb m 10000 h)

next_finds : (s : List ℕ) (at a p : ℕ) (x : Scan) → 0 < p → p ≤ 1000 → Finds s at a x p → Finds s at a (next_digit s x) (10 * p)
unfolding Finds
next_finds s at a p x hp lp f n l h z = go (ltb n (10 * p)) refl
  where
    go : (b : Bool) → ltb n (10 * p) ≡ b → next_digit s x ≡ done (at + length (decimal n)) a n
    go true e =
        let ln : n < 10 * p = ltb-true n (10 * p) e in
        rw (f n ln h (λ y. z (omega arith))) (next_stays s (at + length (decimal n)) a n (z ln))
    go false e =
        let ln : 10 * p ≤ n = ltb-false n (10 * p) e in
        let r : n ≡ 10 * (n / 10) + n % 10 = omega arith in
        let w : decimal n ≡ decimal (n / 10) ++ ((48 + n % 10) ∷ []) = ap decimal r ∙ decimal_more (n / 10) (n % 10) (omega arith) (omega arith) (omega arith) in
        let sp = here_split s (decimal (n / 10)) ((48 + n % 10) ∷ []) at (rw w at h) in
        let g = f (n / 10) (omega arith) sp.0 (λ y. absurd (omega arith)) in
        let d = byte_digit s (at + length (decimal (n / 10))) (n % 10) (omega arith) (here_head s [] _ _ sp.1) in
        let v = length-append (decimal (n / 10)) ((48 + n % 10) ∷ []) in
        let q : at + length (decimal n) ≡ at + length (decimal (n / 10)) + 1 = ap (λ (t : List ℕ). at + length t) w ∙ omega arith in
        rw (g, q) (next_builds s (at + length (decimal (n / 10))) a (n / 10) (n % 10) d (omega arith) (omega arith) (omega arith) ∙ ap (done _ a) (sym r))

-- a number that is written, with no digit after it, is read
pub number_complete : (s : List ℕ) (c : Scan) (n : ℕ) → c.ok ≡ true → n < 100000 → Here s c.at (decimal n) → digit_at s (c.at + length (decimal n)) ≡ 10
    → read_number s c ≡ done (c.at + length (decimal n)) c.latest n
unfolding read_number Finds
number_complete s c n k l h z =
    let f1 = first_finds s c k in
    let f2 = next_finds s c.at c.latest 1 _ (omega arith) (omega arith) f1 in
    let f3 = next_finds s c.at c.latest 10 _ (omega arith) (omega arith) f2 in
    let f4 = next_finds s c.at c.latest 100 _ (omega arith) (omega arith) f3 in
    let f5 = next_finds s c.at c.latest 1000 _ (omega arith) (omega arith) f4 in
    f5 n (omega arith) h (λ y. z)
