-- The text of a file, as header and what comes after it; the text that is written is one; how long it is. Assumes nothing.
use mathlib.Core.Path.{◌≡◌, refl, sym, ap, ◌∙◌}
use mathlib.Core.Bool.{Bool, true, false}
use mathlib.Core.List.{List, [], ◌∷◌, ◌++◌, append_assoc}
use Prim.Native.Nat.{ℕ, ◌+◌, ◌*◌, ◌≤◌}
use native.Mathlib.Omega.{arith}
use lib.ListN.{length, length-append}
use Rattle.text.specs.Bytes.{bytes}
use Rattle.text.specs.Decimal.{decimal}
use Rattle.fields.specs.Fields.{crlf}
use Rattle.csv_log.specs.declared.LogItem.{LogItem}
use Rattle.csv_log.specs.Log.{GoodLog}
use Rattle.csv_log.specs.Text.{record_text, records_text, log_text, in_turn}
use Rattle.files.specs.Files.{Quotes, no_quotes, field, three_fields, header_fields, record_fields, records_after, file_text}
use Rattle.files.proofs.Records.{closing}
use Rattle.csv_log.proofs.Logs.{AllIn, good_in, good_few}
use Rattle.csv_log.proofs.Short.{numbers_length}

-- ---- what comes after the header

-- the choice of quotes for the next record, and the choices after it
abbrev pub first_of : List Quotes → Quotes
first_of [] = no_quotes
first_of (q ∷ quotes) = q

abbrev pub others_of : List Quotes → List Quotes
others_of [] = []
others_of (q ∷ quotes) = quotes

-- the records and the last CR LF
unfoldable pub after_header : List Quotes → Bool → List LogItem → List ℕ
after_header quotes last [] = closing last
after_header quotes last (x ∷ l) = crlf ++ record_fields (first_of quotes) x ++ after_header (others_of quotes) last l

after_is : (quotes : List Quotes) (last : Bool) (l : List LogItem) → records_after quotes l ++ closing last ≡ after_header quotes last l
unfolding records_after after_header
after_is quotes last [] = refl
after_is [] last (x ∷ l) =
    append_assoc (crlf ++ record_fields no_quotes x) (records_after [] l) (closing last)
    ∙ ap (λ (t : List ℕ). crlf ++ record_fields no_quotes x ++ t) (after_is [] last l)
after_is (q ∷ quotes) last (x ∷ l) =
    append_assoc (crlf ++ record_fields q x) (records_after quotes l) (closing last)
    ∙ ap (λ (t : List ℕ). crlf ++ record_fields q x ++ t) (after_is quotes last l)

pub file_is : (header : Quotes) (quotes : List Quotes) (last : Bool) (l : List LogItem)
    → file_text header quotes last l ≡ header_fields header ++ after_header quotes last l
unfolding file_text
file_is header quotes last l =
    append_assoc (header_fields header) (records_after quotes l) (closing last) ∙ ap (λ (t : List ℕ). header_fields header ++ t) (after_is quotes last l)

-- ---- the text that is written

written_after : (l : List LogItem) → crlf ++ records_text l ≡ after_header [] true l
unfolding in_turn record_text after_header three_fields
written_after [] = refl
written_after (x ∷ l) =
    ap (λ (t : List ℕ). crlf ++ t)
    (append_assoc (record_fields no_quotes x) crlf (records_text l) ∙ ap (λ (t : List ℕ). record_fields no_quotes x ++ t) (written_after l))

pub written_file : (l : List LogItem) → log_text l ≡ file_text no_quotes [] true l
unfolding log_text three_fields
written_file l = ap (λ (t : List ℕ). header_fields no_quotes ++ t) (written_after l) ∙ sym (file_is no_quotes [] true l)

-- ---- how long they are

-- with quotes there are up to six bytes more for each record
field_length : (q : Bool) (t : List ℕ) → length (field q t) ≤ length t + 2
field_length true t = simp length-append (omega arith)
field_length false t = omega arith

fields_length : (q : Quotes) (t u v : List ℕ) → length (three_fields q t u v) ≤ length t + length u + length v + 8
unfolding three_fields
fields_length q t u v = simp length-append (omega (arith, field_length q.first t, field_length q.second u, field_length q.third v))

after_length : (quotes : List Quotes) (last : Bool) (l : List LogItem) → AllIn l → length (after_header quotes last l) ≤ 21 * length l + 2
unfolding after_header AllIn
after_length quotes true [] h = omega arith
after_length quotes false [] h = omega arith
after_length quotes last (x ∷ l) h =
    simp length-append (omega (
      arith,
      fields_length (first_of quotes) (decimal x.stamp) (decimal x.lane) (decimal x.word),
      numbers_length x h.0,
      after_length (others_of quotes) last l h.1,
    ))

pub file_short : (header : Quotes) (quotes : List Quotes) (last : Bool) (l : List LogItem) → GoodLog l
    → length (file_text header quotes last l) ≤ 2711
file_short header quotes last l h =
    rw (file_is header quotes last l) (simp length-append (omega (
      arith,
      fields_length header (bytes "stamp") (bytes "lane") (bytes "word"),
      after_length quotes last l (good_in l h),
      good_few l h,
    )))
