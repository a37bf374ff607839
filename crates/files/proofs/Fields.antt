-- A field is read, in quotes or not, exactly where it is written. Assumes nothing.
use mathlib.Core.Path.{◌≡◌, refl, sym, ap, ◌∙◌}
use mathlib.Core.Bool.{Bool, true, false, cond}
use mathlib.Core.List.{List, [], ◌∷◌, ◌++◌}
use Prim.Native.Nat.{ℕ, ◌+◌, ◌/◌, ◌<◌}
use native.Mathlib.Omega.{arith}
use lib.Dec.{leb}
use lib.ListN.{length, get_or, length-append}
use Rattle.text.specs.Decimal.{given, digit_byte, decimal}
use Rattle.scan.specs.declared.Scan.{Scan}
use Rattle.scan.specs.Scan.{stands, digit_at, read_text, read_number}
use Rattle.files.specs.Files.{field}
use Rattle.scan.proofs.TextLaws.{stands_not}
use Rattle.scan.proofs.Here.{Here, here_at, here_split, here_stands}
use Rattle.scan.proofs.Number.{done, Read, number_sound, number_complete}
use Rattle.scan.proofs.Reading.{text_sound, text_complete, no_digit, text_step, text_back, number_back}
use Rattle.fields.specs.Fields.{quote, read_field, read_name}

-- ---- a field that does not begin with a quote

abbrev pub Plain : List ℕ → Type 0
Plain t = (0 < length t) × (get_or t 0 0 ≡ 34 → ⊥)

unquoted : (s t : List ℕ) (at : ℕ) → Plain t → Here s at t → stands s at quote ≡ false
unquoted s t at p h = stands_not s quote at 0 (at + 0) refl (omega arith) (λ e. p.1 (sym (here_at s t at 0 h p.0) ∙ e))

-- the first byte of a numeral is that of a digit
head_digit : (a b c d : Bool) (v w x y z : ℕ)
    → Plain (given a (digit_byte v ∷ []) ++ given b (digit_byte w ∷ []) ++ given c (digit_byte x ∷ []) ++ given d (digit_byte y ∷ []) ++ (digit_byte z ∷ []))
head_digit true b c d v w x y z = (omega arith, λ e. omega arith)
head_digit false true c d v w x y z = (omega arith, λ e. omega arith)
head_digit false false true d v w x y z = (omega arith, λ e. omega arith)
head_digit false false false true v w x y z = (omega arith, λ e. omega arith)
head_digit false false false false v w x y z = (omega arith, λ e. omega arith)

decimal_plain : (n : ℕ) → Plain (decimal n)
unfolding decimal
decimal_plain n = head_digit (leb 10000 n) (leb 1000 n) (leb 100 n) (leb 10 n) (n / 10000) (n / 1000) (n / 100) (n / 10) n

-- ---- what is written is read

-- a reader goes over the text t where it stands with no digit after it, and leaves other numbers
abbrev pub Reads : List ℕ → (Scan → Scan) → List ℕ → (a b c d : ℕ) → Type 0
Reads s read t a b c d = (at : ℕ) → Here s at t → digit_at s (at + length t) ≡ 10 → read (done at a b) ≡ done (at + length t) c d

-- a reader of a text in quotes, where a quote stands, or without them
abbrev either : List ℕ → (Scan → Scan) → Scan → Scan
either s read x = cond (stands s x.at quote) (read_text s quote (read (read_text s quote x))) (read x)

-- what is read without quotes is read in quotes, too
either_complete : (s : List ℕ) (read : Scan → Scan) (t : List ℕ) (a b c d : ℕ) (q : Bool) → Plain t → Reads s read t a b c d
    → Reads s (either s read) (field q t) a b c d
either_complete s read t a b c d false p f at h z = rw (unquoted s t at p h) (f at h z)
either_complete s read t a b c d true p f at h z =
    let h3 = here_split s (quote ++ t) quote at h in
    let h2 = here_split s quote t at h3.0 in
    let v = length-append quote t in
    let e : at + length quote + length t ≡ at + length (quote ++ t) = omega arith in
    let r : read (done (at + length quote) a b) ≡ done (at + length (quote ++ t)) c d =
    f (at + length quote) h2.1 (rw e (no_digit s [] _ 34 (omega arith) h3.1)) ∙ ap (λ (p : ℕ). done p c d) e in
    rw (here_stands s quote at h2.0, text_complete s quote at a b h2.0, r) (text_step s (quote ++ t) quote at c d h3.1)

pub field_complete : (s : List ℕ) (a b : ℕ) (q : Bool) (n : ℕ) → n < 100000 → Reads s (read_field s) (field q (decimal n)) a b b n
unfolding read_field
field_complete s a b q n l =
    either_complete s (read_number s) (decimal n) a b b n q (decimal_plain n) (λ at h z. number_complete s (done at a b) n refl l h z)

pub name_complete : (s name : List ℕ) (a b : ℕ) (q : Bool) → Plain name → Reads s (read_name s name) (field q name) a b a b
unfolding read_name
name_complete s name a b q p = either_complete s (read_text s name) name a b a b q p (λ at h z. text_complete s name at a b h)

-- ---- what is read is written there

-- a decimal field was read
unfoldable pub FieldRead : List ℕ → Scan → Scan → Type 0
FieldRead s c r = (q : Bool) × (n : ℕ) × (n < 100000) × Here s c.at (field q (decimal n)) × (r ≡ done (c.at + length (field q (decimal n))) c.latest n)

pub field_sound : (s : List ℕ) (c : Scan) → (read_field s c).ok ≡ true → (c.ok ≡ true) × FieldRead s c (read_field s c)
unfolding read_field FieldRead Read
field_sound s c = go (stands s c.at quote)
  where
    go : (b : Bool) → (cond b (read_text s quote (read_number s (read_text s quote c))) (read_number s c)).ok ≡ true
        → (c.ok ≡ true) × FieldRead s c (cond b (read_text s quote (read_number s (read_text s quote c))) (read_number s c))
    go false k = let r = number_sound s c k in (r.0, (false, r.1.0, r.1.3, r.1.2, r.1.1))
    go true k =
        let c1 = read_text s quote c in
        let c2 = read_number s c1 in
        let k2 = (text_sound s quote c2 k).0 in
        let r1 = text_sound s quote c (number_sound s c1 k2).0 in
        let r2 = number_back s quote c.at c.earlier c.latest c1 r1.2 r1.1 k2 in
        let r3 = text_back s (quote ++ decimal r2.0) quote c.at c.latest r2.0 c2 r2.3 r2.2 k in
        (r1.0, (true, r2.0, r2.1, r3.0, r3.1))

-- a field of the header was read
unfoldable pub NameRead : List ℕ → List ℕ → Scan → Scan → Type 0
NameRead s name c r = (q : Bool) × Here s c.at (field q name) × (r ≡ done (c.at + length (field q name)) c.earlier c.latest)

pub name_sound : (s name : List ℕ) (c : Scan) → (read_name s name c).ok ≡ true → (c.ok ≡ true) × NameRead s name c (read_name s name c)
unfolding read_name NameRead
name_sound s name c = go (stands s c.at quote)
  where
    go : (b : Bool) → (cond b (read_text s quote (read_text s name (read_text s quote c))) (read_text s name c)).ok ≡ true
        → (c.ok ≡ true) × NameRead s name c (cond b (read_text s quote (read_text s name (read_text s quote c))) (read_text s name c))
    go false k = let r = text_sound s name c k in (r.0, (false, r.1, r.2))
    go true k =
        let c1 = read_text s quote c in
        let c2 = read_text s name c1 in
        let k2 = (text_sound s quote c2 k).0 in
        let r1 = text_sound s quote c (text_sound s name c1 k2).0 in
        let r2 = text_back s quote name c.at c.earlier c.latest c1 r1.2 r1.1 k2 in
        let r3 = text_back s (quote ++ name) quote c.at c.earlier c.latest c2 r2.1 r2.0 k in
        (r1.0, (true, r3.0, r3.1))
