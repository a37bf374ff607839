-- Laws of reading a number digit by digit: Scan.antt. Assumes nothing.
use mathlib.Core.Path.{◌≡◌, refl, sym, ◌∙◌}
use mathlib.Core.Bool.{Bool, true, false, ◌&&◌}
use mathlib.Core.List.{List}
use mathlib.Core.Logic.{◌⊎◌, inl, inr}
use Prim.Native.Nat.{ℕ, zero, suc, ◌+◌, ◌*◌, ◌-◌, ◌<◌, ◌≤◌}
use native.Mathlib.Omega.{arith}
use lib.ListN.{get_or}
use lib.Dec.{ltb, leb}
use borrow.Author.Tests.{ltb-true, lt-ltb}
use Rattle.scan.specs.Scan.{digit_at, failed, first_digit, next_digit, read_number}
use Rattle.scan.specs.declared.Scan.{Scan}
use Rattle.scan.proofs.Laws.{both, never}
use Rattle.scan.proofs.TextLaws.{ways, and_no}

-- ---- one digit

abbrev pub is_digit : ℕ → Bool
is_digit x = leb 48 x && leb x 57

pub digit_yes : (s : List ℕ) (at x d : ℕ) → x ≡ get_or s at 0 → true ≡ is_digit x → d ≡ x - 48 → d ≡ digit_at s at
unfolding digit_at
digit_yes s at x d e h f = rw (← e, ← h) f

pub digit_no : (s : List ℕ) (at x : ℕ) → x ≡ get_or s at 0 → false ≡ is_digit x → 10 ≡ digit_at s at
unfolding digit_at
digit_no s at x e h = rw (← e, ← h)

-- ---- the first digit

pub first_yes : (s : List ℕ) (c : Scan) (d : ℕ) → c.ok ≡ true → d ≡ digit_at s c.at → d < 10
    → ◌≡◌ {A = Scan} (record { ok = c.ok; at = c.at + 1; earlier = c.latest; latest = d }) (first_digit s c)
unfolding first_digit
first_yes s c d o e l = rw (o, ← e, lt-ltb d 10 l)

pub first_no : (s : List ℕ) (c r : Scan) → r ≡ failed c → (c.ok ≡ false) ⊎ (10 ≡ digit_at s c.at) → r ≡ first_digit s c
unfolding first_digit
first_no s c r q (inl o) = rw o q
first_no s c r q (inr e) = rw (← e, and_no _) q

-- a first digit that is read is below 10
first_below : (s : List ℕ) (c : Scan) → (first_digit s c).ok ≡ true → (first_digit s c).latest < 10
unfolding first_digit
first_below s c = ways (λ (r : Scan). r.ok ≡ true → r.latest < 10) (c.ok && ltb (digit_at s c.at) 10) _ _
    (λ e o. ltb-true _ _ (both c.ok _ e).1)
    (λ o. never o)

pub first_small : (s : List ℕ) (c n : Scan) → n ≡ first_digit s c → n.ok ≡ true → n.latest < 10
first_small s c n e h = rw e (first_below s c (rw e at h))

-- ---- the digits after it

abbrev onward : Bool → Bool → Bool → Bool → Bool
onward ok digit above below = ok && digit && above && below

next_yes : (s : List ℕ) (c : Scan) (d : ℕ) → c.ok ≡ true → d ≡ digit_at s c.at → d < 10 → 0 < c.latest → c.latest < 10000
    → next_digit s c ≡ record { ok = c.ok; at = c.at + 1; earlier = c.earlier; latest = 10 * c.latest + d }
unfolding next_digit
next_yes s c d o e h l m = rw (o, ← e, lt-ltb d 10 h, lt-ltb _ _ l, lt-ltb _ _ m)

next_same : (s : List ℕ) (c : Scan) → onward c.ok (ltb (digit_at s c.at) 10) (ltb 0 c.latest) (ltb c.latest 10000) ≡ false
    → next_digit s c ≡ c
unfolding next_digit
next_same s c h = rw h

no_digit : (a z m : Bool) → onward a false z m ≡ false
no_digit true z m = refl
no_digit false z m = refl

no_above : (a d z m : Bool) → (a && z) ≡ false → onward a d z m ≡ false
no_above false d z m e = refl
no_above true false z m e = refl
no_above true true z m e = rw e

next_none : (s : List ℕ) (c : Scan) → 10 ≡ digit_at s c.at → next_digit s c ≡ c
next_none s c e = next_same s c (rw (← e) (no_digit c.ok _ _))

next_zero : (s : List ℕ) (c : Scan) → (c.ok && ltb 0 c.latest) ≡ false → next_digit s c ≡ c
next_zero s c h = next_same s c (no_above c.ok _ _ _ h)

-- n digits more
unfoldable pub digits : List ℕ → ℕ → Scan → Scan
digits s zero c = c
digits s (suc n) c = digits s n (next_digit s c)

digits_same : (s : List ℕ) (n : ℕ) (c : Scan) → next_digit s c ≡ c → digits s n c ≡ c
unfolding digits
digits_same s zero c e = refl
digits_same s (suc n) c e = rw e (digits_same s n c e)

-- what a number is below with n digits left of five
unfoldable pub tens : ℕ → ℕ
tens zero = 100000
tens (suc zero) = 10000
tens (suc (suc zero)) = 1000
tens (suc (suc (suc zero))) = 100
tens (suc (suc (suc (suc n)))) = 10

tens_next : (n : ℕ) → n < 4 → (10 * tens (suc n) ≤ tens n) × (tens (suc n) ≤ 10000)
unfolding tens
tens_next zero h = (omega arith, omega arith)
tens_next (suc zero) h = (omega arith, omega arith)
tens_next (suc (suc zero)) h = (omega arith, omega arith)
tens_next (suc (suc (suc zero))) h = (omega arith, omega arith)
tens_next (suc (suc (suc (suc n)))) h = absurd (omega arith)

-- What was read so far, with some digits left, leads to what four digits more make of c.
pub record Reading (s : List ℕ) (c : Scan) (left : ℕ) (n : Scan) : Type 0 where
  pub ok : n.ok ≡ true
  pub above : 0 < n.latest
  pub below : n.latest < tens left
  pub leads : digits s left n ≡ digits s 4 c

pub reading_start : (s : List ℕ) (c : Scan) → c.ok ≡ true → 0 < c.latest → c.latest < 10 → Reading s c 4 c
unfolding tens
reading_start s c o l m = record { ok = o; above = l; below = m; leads = refl }

-- with a digit left the value is small
pub reading_small : (s : List ℕ) (c : Scan) (i : ℕ) (n : Scan) → Reading s c (4 - i) n → i < 4 → n.latest < 10000
reading_small s c i n r h =
    let z : 4 - i ≡ suc (3 - i) = omega arith in
    omega (arith, tens_next (3 - i) (omega arith), rw z at r.below)

-- a digit more
reading_step : (s : List ℕ) (c : Scan) (m : ℕ) (n : Scan) (d : ℕ) → Reading s c (suc m) n → m < 4 → d ≡ digit_at s n.at → d < 10
    → Reading s c m (record { ok = n.ok; at = n.at + 1; earlier = n.earlier; latest = 10 * n.latest + d })
unfolding digits
reading_step s c m n d r h e l =
    let t = tens_next m h in
    let b = r.below in
    let a = r.above in
    record {
      ok = r.ok;
      above = omega arith;
      below = omega arith;
      leads = rw (next_yes s n d r.ok e l a (omega arith)) at r.leads;
    }

pub reading_next : (s : List ℕ) (c : Scan) (i : ℕ) (n : Scan) (d : ℕ) → Reading s c (4 - i) n → i < 4 → d ≡ digit_at s n.at → d < 10
    → Reading s c (4 - (i + 1)) (record { ok = n.ok; at = n.at + 1; earlier = n.earlier; latest = 10 * n.latest + d })
reading_next s c i n d r h e l =
    let z : 4 - i ≡ suc (3 - i) = omega arith in
    let y : 4 - (i + 1) ≡ 3 - i = omega arith in
    rw y (reading_step s c (3 - i) n d (rw z at r) (omega arith) e l)

-- no digit more
pub reading_end : (s : List ℕ) (c : Scan) (left : ℕ) (n : Scan) → Reading s c left n → (left ≡ 0) ⊎ (10 ≡ digit_at s n.at)
    → n ≡ next_digit s (next_digit s (next_digit s (next_digit s c)))
unfolding digits
reading_end s c left n r (inl z) = rw z at r.leads
reading_end s c left n r (inr e) = sym (digits_same s left n (next_none s n e)) ∙ r.leads

-- ---- the number

pub number_more : (s : List ℕ) (c n r : Scan) → n ≡ first_digit s c → r ≡ next_digit s (next_digit s (next_digit s (next_digit s n))) → r ≡ read_number s c
unfolding read_number
number_more s c n r e q = cc

pub number_short : (s : List ℕ) (c n : Scan) → n ≡ first_digit s c → (n.ok ≡ false) ⊎ (n.latest ≡ 0) → n ≡ read_number s c
unfolding digits
number_short s c n e h = number_more s c n n e (sym (digits_same s 4 n (next_zero s n (short h))))
  where
    short : (n.ok ≡ false) ⊎ (n.latest ≡ 0) → (n.ok && ltb 0 n.latest) ≡ false
    short (inl o) = rw o
    short (inr z) = rw (z, and_no n.ok)
