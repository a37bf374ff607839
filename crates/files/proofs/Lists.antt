-- The records of a file, one after another to its end, are read exactly where they are written. Assumes nothing.
use mathlib.Core.Path.{◌≡◌, refl, sym, ap, ap₂, ◌∙◌}
use mathlib.Core.Bool.{Bool, true, false}
use mathlib.Core.List.{List, [], ◌∷◌, ◌++◌, map}
use Prim.Native.Nat.{ℕ, zero, suc, ◌+◌, ◌≤◌}
use native.Mathlib.Omega.{arith}
use lib.Dec.{ltb}
use lib.ListN.{length, length-append}
use borrow.Author.Tests.{ltb-true, ltb-false}
use Rattle.fields.specs.Fields.{crlf}
use Rattle.csv_log.proofs.Finding.{records_one, records_none}
use Rattle.csv_log.specs.declared.LogItem.{LogItem}
use Rattle.csv_log.specs.Log.{Record, in_three, malformed, log_in, in_range, first_bad}
use Rattle.csv_log.specs.Reading.{rest_at, record_at, after_record, records_from}
use Rattle.files.specs.Files.{Quotes, three_fields, record_fields}
use Rattle.scan.proofs.Laws.{never}
use Rattle.scan.proofs.Here.{Here, here_split, here_join}
use Rattle.files.proofs.Records.{closing, Closes, Short, after_fields, record_complete, record_sound}
use Rattle.csv_log.proofs.Logs.{AllIn, in_range_lem, first_passed, malformed_bad}
use Rattle.files.proofs.Texts.{first_of, others_of, after_header}

-- ---- the list of records from a place on

-- one that is not read
record_not : (s : List ℕ) (at : ℕ) → (rest_at s at).ok ≡ false → record_at s at ≡ malformed
unfolding record_at
record_not s at e = rw e

-- the text t stands at a place, and is the last of s
unfoldable pub Last : List ℕ → ℕ → List ℕ → Type 0
Last s at t = Here s at t × (at + length t ≡ length s)

pub last_split : (s t u : List ℕ) (at : ℕ) → Last s at (t ++ u) → Here s at t × Last s (at + length t) u
unfolding Last
last_split s t u at h = let p = here_split s t u at h.0 in (p.0, (p.1, omega (arith, h.1, length-append t u)))

pub last_join : (s t u : List ℕ) (at : ℕ) → Here s at t → Last s (at + length t) u → Last s at (t ++ u)
unfolding Last
last_join s t u at h k = (here_join s t u at h k.0, omega (arith, k.1, length-append t u))

-- CR LF and a record, and then what is last
after_split : (s : List ℕ) (at : ℕ) (q : Quotes) (x : LogItem) (u : List ℕ) → Last s at (crlf ++ record_fields q x ++ u)
    → Here s at crlf × Here s (at + 2) (record_fields q x) × Last s (after_fields (at + 2) q x) u
after_split s at q x u h =
    let p = last_split s (crlf ++ record_fields q x) u at h in
    let r = here_split s crlf (record_fields q x) at p.0 in
    let e : at + length (crlf ++ record_fields q x) ≡ at + 2 + length (record_fields q x) = omega arith in
    (r.0, r.1, rw e at p.1)

after_join : (s : List ℕ) (at : ℕ) (q : Quotes) (x : LogItem) (u : List ℕ) → Here s at crlf → Here s (at + 2) (record_fields q x)
    → Last s (after_fields (at + 2) q x) u → Last s at (crlf ++ record_fields q x ++ u)
after_join s at q x u h r k =
    let e : at + 2 + length (record_fields q x) ≡ at + length (crlf ++ record_fields q x) = omega arith in
    last_join s (crlf ++ record_fields q x) u at (here_join s crlf (record_fields q x) at h r) (rw e at k)

-- a record has a byte at least
record_some : (q : Quotes) (x : LogItem) → 1 ≤ length (record_fields q x)
unfolding three_fields
record_some q x = simp length-append (omega arith)

-- ---- what is written is read

-- whether there is CR LF after the fields before these orders
abbrev pub goes_on : Bool → List LogItem → Bool
goes_on last [] = last
goes_on last (x ∷ l) = true

pub after_closes : (s : List ℕ) (at : ℕ) (quotes : List Quotes) (last : Bool) (l : List LogItem) → Last s at (after_header quotes last l)
    → Closes s at (goes_on last l)
unfolding Last Closes after_header
after_closes s at quotes true [] h = (h.0, λ e. never (sym e))
after_closes s at quotes false [] h = (h.0, λ e. omega (arith, h.1))
after_closes s at quotes last (x ∷ l) h = ((after_split s at (first_of quotes) x (after_header (others_of quotes) last l) h).0, λ e. never (sym e))

short_in : (x : LogItem) → in_range x ≡ true → Short x
unfolding Short
short_in x h = let r = in_range_lem x h in (omega arith, omega arith, omega arith)

pub records_complete : (s : List ℕ) (l : List LogItem) (quotes : List Quotes) (last : Bool) (n at : ℕ) → AllIn l
    → Last s at (after_header quotes last l) → length s ≤ n + at → records_from s (at + length (closing (goes_on last l))) n ≡ map in_three l
unfolding AllIn after_header Last
records_complete s [] quotes last n at a h b = records_none s (at + length (closing last)) n (omega (arith, h.1))
records_complete s (x ∷ l) quotes last zero at a h b = absurd (omega (arith, h.1))
records_complete s (x ∷ l) quotes last (suc n) at a h b =
    let q = first_of quotes in
    let p = after_split s at q x (after_header (others_of quotes) last l) h in
    let r = record_complete s (at + 2) q x (goes_on last l) (short_in x a.0) p.1
    (after_closes s (after_fields (at + 2) q x) (others_of quotes) last l p.2) in
    let i = records_complete s l (others_of quotes) last n (after_fields (at + 2) q x) a.1 p.2 (omega arith) in
    records_one s (at + 2) n (omega (arith, p.2.1, record_some q x))
    ∙ ap₂ ◌∷◌ r.0 (ap (λ (next : ℕ). records_from s next n) r.1 ∙ i)

-- ---- what is read is written there

-- records were read from a place on: what is left of the text is theirs, with some choice of quotes and of the last CR LF
abbrev pub Said : List ℕ → ℕ → List Record → Type 0
Said s at records = (quotes : List Quotes) × (last : Bool) × Last s at (after_header quotes last (log_in records))

none_said : (s : List ℕ) (at n : ℕ) (more : Bool) → Here s at (closing more) → at + length (closing more) ≡ length s
    → Said s at (records_from s (at + length (closing more)) n)
unfolding log_in Last after_header
none_said s at n more h e = rw (records_none s (at + length (closing more)) n (omega arith)) ([], more, (h, e))

-- one record more
abbrev Rest : List ℕ → ℕ → Type 0
Rest s n = (at : ℕ) (more : Bool) (earlier : List LogItem) → Closes s at more → length s ≤ n + at
    → (first_bad earlier (records_from s (at + length (closing more)) n)).number ≡ 0 → Said s at (records_from s (at + length (closing more)) n)

one_said : (s : List ℕ) (n at : ℕ) (earlier : List LogItem) → Rest s n → Here s at crlf → length s ≤ suc n + at
    → (first_bad earlier (record_at s (at + 2) ∷ records_from s (after_record s (at + 2)) n)).number ≡ 0
    → Said s at (record_at s (at + 2) ∷ records_from s (after_record s (at + 2)) n)
unfolding log_in after_header
one_said s n at earlier rest h b k = go (rest_at s (at + 2)).ok refl
  where
    go : (ok : Bool) → (rest_at s (at + 2)).ok ≡ ok → Said s at (record_at s (at + 2) ∷ records_from s (after_record s (at + 2)) n)
    go false e = malformed_bad earlier _ (rw (record_not s (at + 2) e) at k)
    go true e =
        let r = record_sound s (at + 2) e in
        let next = after_fields (at + 2) r.0 r.1 in
        let k2 = (first_passed earlier r.1 (records_from s (next + length (closing r.2)) n) (rw (r.5, r.6) at k)).1 in
        let i = rest next r.2 (r.1 ∷ earlier) r.4 (omega arith) k2 in
        rw (r.5, r.6) (r.0 ∷ i.0, i.1, after_join s at r.0 r.1 (after_header i.0 i.1 (log_in (records_from s (next + length (closing r.2)) n))) h r.3 i.2)

rest_none : (s : List ℕ) → Rest s zero
unfolding Closes Here
rest_none s at false earlier c b k = none_said s at zero false c.0 (omega (arith, c.1 refl))
rest_none s at true earlier c b k = absurd (omega (arith, c.0.0))

rest_more : (s : List ℕ) (n : ℕ) → Rest s n → Rest s (suc n)
unfolding Closes Here
rest_more s n rest at false earlier c b k = none_said s at (suc n) false c.0 (omega (arith, c.1 refl))
rest_more s n rest at true earlier c b k = go (ltb (at + 2) (length s)) refl
  where
    go : (t : Bool) → ltb (at + 2) (length s) ≡ t → Said s at (records_from s (at + 2) (suc n))
    go true e =
        let one = records_one s (at + 2) n (ltb-true _ _ e) in
        rw one (one_said s n at earlier rest c.0 b (rw one at k))
    go false e = none_said s at (suc n) true c.0 (omega (arith, c.0.0, ltb-false (at + 2) (length s) e))

pub records_sound : (s : List ℕ) (n : ℕ) → Rest s n
records_sound s zero = rest_none s
records_sound s (suc n) = rest_more s n (records_sound s n)
