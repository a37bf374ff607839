-- A number below 100,000 as a decimal numeral: no digit before the first that counts, and 0 as itself. Assumes nothing.
use Rattle.std.specs.Prelude.{ℕ, ◌+◌, ◌/◌, ◌%◌, Bool, cond, List, [], ◌∷◌, ◌++◌, leb}

-- a text where a test holds, and nothing elsewhere
abbrev pub given : Bool → List ℕ → List ℕ
given test t = cond test t []

-- the byte of a number's last digit; byte 48 is the digit 0
abbrev pub digit_byte : ℕ → ℕ
digit_byte n = 48 + n % 10

-- a digit for each power of ten that the number reaches
unfoldable pub decimal : ℕ → List ℕ
decimal n =
    given (leb 10000 n) (digit_byte (n / 10000) ∷ [])
    ++ given (leb 1000 n) (digit_byte (n / 1000) ∷ [])
    ++ given (leb 100 n) (digit_byte (n / 100) ∷ [])
    ++ given (leb 10 n) (digit_byte (n / 10) ∷ [])
    ++ (digit_byte n ∷ [])
