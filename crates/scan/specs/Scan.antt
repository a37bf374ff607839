-- Reading a text from a place on: what stands there, and numerals. Assumes nothing.
use Rattle.std.specs.Prelude.{ℕ, zero, suc, ◌+◌, ◌*◌, ◌-◌, Bool, true, false, cond, ◌&&◌, List, ltb, leb, eqb, length, get_or}
use Rattle.scan.specs.declared.Scan.{Scan}

-- whether f holds at each number below n
unfoldable pub all_below : (ℕ → Bool) → ℕ → Bool
all_below f zero = true
all_below f (suc n) = all_below f n && f n

abbrev pub same_bytes : List ℕ → ℕ → List ℕ → Bool
same_bytes s at t = all_below (λ (i : ℕ). eqb (get_or s (at + i) 0) (get_or t i 0)) (length t)

-- whether the text t stands in s at a place
unfoldable pub stands : List ℕ → ℕ → List ℕ → Bool
stands s at t = leb (at + length t) (length s) && same_bytes s at t

-- the digit at a place, or 10 where there is none
unfoldable pub digit_at : List ℕ → ℕ → ℕ
digit_at s at = cond (leb 48 (get_or s at 0) && leb (get_or s at 0) 57) (get_or s at 0 - 48) 10

-- A scan has read up to a place, and keeps the last two numbers that it read. One that failed stays where it failed.
abbrev pub start_at : ℕ → Scan
start_at at = record { ok = true; at = at; earlier = 0; latest = 0 }

abbrev pub failed : Scan → Scan
failed c = record { ok = false; at = c.at; earlier = c.earlier; latest = c.latest }

-- the text t comes next
unfoldable pub read_text : List ℕ → List ℕ → Scan → Scan
read_text s t c =
    cond (c.ok && stands s c.at t)
    (record { ok = true; at = c.at + length t; earlier = c.earlier; latest = c.latest })
    (failed c)

-- a number comes next: its first digit
unfoldable pub first_digit : List ℕ → Scan → Scan
first_digit s c =
    cond (c.ok && ltb (digit_at s c.at) 10)
    (record { ok = true; at = c.at + 1; earlier = c.latest; latest = digit_at s c.at })
    (failed c)

-- a digit more, if there is one: 0 has no digit more, and a number has no more than five
unfoldable pub next_digit : List ℕ → Scan → Scan
next_digit s c =
    cond (c.ok && ltb (digit_at s c.at) 10 && ltb 0 c.latest && ltb c.latest 10000)
    (record { ok = true; at = c.at + 1; earlier = c.earlier; latest = 10 * c.latest + digit_at s c.at })
    c

-- a number of one to five digits
unfoldable pub read_number : List ℕ → Scan → Scan
read_number s c = next_digit s (next_digit s (next_digit s (next_digit s (first_digit s c))))
