-- Reading accepts exactly the files that say a log, and what is written reads back: `exactly` and `round_trip`. Assumes nothing.
use mathlib.Core.Path.{◌≡◌, refl, sym, ap, ◌∙◌}
use mathlib.Core.Bool.{Bool, true, false, cond}
use mathlib.Core.List.{List, [], ◌++◌, map}
use Prim.Native.Nat.{ℕ, ◌+◌, ◌≤◌}
use native.Mathlib.Omega.{arith}
use lib.Dec.{ltb}
use lib.ListN.{length}
use lib.Seq.{ext_get_or}
use borrow.Author.Tests.{ltb-false, le-ltb}
use Rattle.fields.specs.Fields.{read_header}
use Rattle.csv_log.specs.declared.LogItem.{LogItem}
use Rattle.csv_log.specs.Log.{in_three, log_in, item_numbers, at_record, first_bad, GoodLog}
use Rattle.csv_log.specs.Text.{log_text}
use Rattle.csv_log.specs.Writing.{records_in, handed_text, csv_write_refusal}
use Rattle.csv_log.specs.Reading.{records_of, judged_file, log_read}
use Rattle.files.specs.Files.{Quotes, no_quotes, header_fields, file_text}
use Rattle.files.specs.Exactly.{FileSays, Exactly, RoundTrip}
use Rattle.scan.proofs.Here.{Here}
use Rattle.files.proofs.Records.{closing, header_complete, header_sound}
use Rattle.csv_log.proofs.Logs.{good_said, said_back, good_in}
use Rattle.files.proofs.Texts.{after_header, file_is, written_file, file_short}
use Rattle.files.proofs.Lists.{Last, last_split, last_join, goes_on, after_closes, records_complete, records_sound}
use Rattle.csv_log.proofs.Numbers.{numbers_records, records_numbers, write_passed, write_passes}

-- ---- a file that is not refused

pub file_passed : (s : List ℕ) → (judged_file s).number ≡ 0 → (length s ≤ 48000) × ((read_header s).ok ≡ true) × ((first_bad [] (records_of s)).number ≡ 0)
unfolding judged_file
file_passed s h = go (ltb 48000 (length s)) refl (read_header s).ok refl h
  where
    go : (long : Bool) → ltb 48000 (length s) ≡ long → (ok : Bool) → (read_header s).ok ≡ ok
        → (cond long (at_record 0 1) (cond ok (first_bad [] (records_of s)) (at_record 1 31))).number ≡ 0
        → (length s ≤ 48000) × ((read_header s).ok ≡ true) × ((first_bad [] (records_of s)).number ≡ 0)
    go true e ok r k = absurd (omega arith)
    go false e false r k = absurd (omega arith)
    go false e true r k = (ltb-false _ _ e, r, k)

pub file_judged : (s : List ℕ) → length s ≤ 48000 → (read_header s).ok ≡ true → judged_file s ≡ first_bad [] (records_of s)
unfolding judged_file
file_judged s l e = rw (le-ltb 48000 (length s) l, e)

-- ---- a whole text

-- a text stands in itself from its begin to its end
last_whole : (s t : List ℕ) → s ≡ t → Last s 0 t
unfolding Last Here
last_whole s t e = rw e ((omega arith, λ i l. let q : 0 + i ≡ i = omega arith in rw q refl), omega arith)

-- and no other text does
last_only : (s t : List ℕ) → Last s 0 t → s ≡ t
unfolding Last Here
last_only s t h =
    ext_get_or 0 s t (omega (arith, h.1)) (λ i l. let q : 0 + i ≡ i = omega arith in rw q at (h.0.1 i (omega (arith, h.1))))

-- ---- what is written is read

file_records : (s : List ℕ) (header : Quotes) (quotes : List Quotes) (last : Bool) (l : List LogItem) → GoodLog l
    → Last s 0 (header_fields header ++ after_header quotes last l) → ((read_header s).ok ≡ true) × (records_of s ≡ map in_three l)
file_records s header quotes last l g h =
    let p = last_split s (header_fields header) (after_header quotes last l) 0 h in
    let at = 0 + length (header_fields header) in
    let r = header_complete s header (goes_on last l) p.0 (after_closes s at quotes last l p.1) in
    rw r (refl, records_complete s l quotes last (length s) at (good_in l g) p.1 (omega arith))

pub file_reads : (header : Quotes) (quotes : List Quotes) (last : Bool) (l : List LogItem) → GoodLog l → FileSays (file_text header quotes last l) l
file_reads header quotes last l g =
    let s = file_text header quotes last l in
    let r = file_records s header quotes last l g (last_whole s _ (file_is header quotes last l)) in
    let j = file_judged s (omega (arith, file_short header quotes last l g)) r.0 in
    (rw (j, r.1) g, rw r.1 (said_back l))

-- ---- what is read is written

pub file_accepted : (s : List ℕ) → (judged_file s).number ≡ 0
    → GoodLog (log_read s) × ((header : Quotes) × (quotes : List Quotes) × (last : Bool) × (s ≡ file_text header quotes last (log_read s)))
file_accepted s h =
    let p = file_passed s h in
    let r = header_sound s p.1 in
    let at = 0 + length (header_fields r.0) in
    let e : (read_header s).at ≡ at + length (closing r.1) = ap (λ c. c.at) r.4 in
    let k = records_sound s (length s) at r.1 [] r.3 (omega arith) (rw e at p.2) in
    let whole = last_join s (header_fields r.0) (after_header k.0 k.1 (log_read s)) 0 r.2 (rw (← e) at k.2) in
    (good_said (records_of s) p.2, (r.0, k.0, k.1, last_only s _ whole ∙ sym (file_is r.0 k.0 k.1 (log_read s))))

pub exactly : Exactly
exactly = record { plainly = written_file; reads = file_reads; accepts = file_accepted }

-- ---- written and read

-- the text of a good log says it
pub written_reads : (l : List LogItem) → GoodLog l → FileSays (log_text l) l
written_reads l g = rw (written_file l) (file_reads no_quotes [] true l g)

handed_back : (numbers buffer : List ℕ) → csv_write_refusal numbers buffer ≡ 0
    → ((judged_file (handed_text numbers)).number ≡ 0) × (item_numbers (log_read (handed_text numbers)) ≡ numbers)
handed_back numbers buffer h =
    let w = (write_passed numbers buffer h).1 in
    let r = written_reads (log_in (records_in numbers)) (good_said (records_in numbers) w) in
    (r.0, ap item_numbers r.1 ∙ records_numbers [] numbers w)

read_again : (s : List ℕ) → (judged_file s).number ≡ 0
    → ((buffer : List ℕ) → length buffer ≡ 2048 → csv_write_refusal (item_numbers (log_read s)) buffer ≡ 0)
    × FileSays (handed_text (item_numbers (log_read s))) (log_read s)
read_again s h =
    let g = (file_accepted s h).0 in
    let e = numbers_records (log_read s) in
    (λ buffer b. write_passes (item_numbers (log_read s)) buffer b (rw e g), rw (e, said_back (log_read s)) (written_reads (log_read s) g))

pub round_trip : RoundTrip
round_trip = record { same = handed_back; again = read_again }
