-- What the exported functions answer and leave, each way: Writing.antt, Reading.antt. Assumes nothing.
use mathlib.Core.Path.{◌≡◌, refl, sym, ap, ◌∙◌}
use mathlib.Core.List.{List, [], ◌∷◌, ◌++◌}
use Prim.Native.Nat.{ℕ, ◌+◌, ◌*◌, ◌≤◌}
use native.Mathlib.Omega.{arith}
use borrow.Author.Tests.{ne_eqb}
use Rattle.std.proofs.lemmas.Bool.Decides.{nat_tests}
use lib.ListN.{length, take, drop}
use lib.Seq.{sets, sets-eq, take_at}
use Rattle.text.specs.Writing.{Out, out, wrote}
use Rattle.text.proofs.Laws.{wrote_fits}
use Rattle.csv_log.specs.declared.LogItem.{LogItem}
use Rattle.csv_log.specs.Log.{Record, in_three, malformed, log_in, item_numbers, FirstBad, at_record, first_bad}
use Rattle.csv_log.specs.Writing.{records_in, handed_text, csv_write_refusal, buffer_after}
use Rattle.csv_log.specs.Reading.{records_of, judged_file, log_read, csv_read_refusal, numbers_after}
use Rattle.csv_log.proofs.Logs.{good_said, good_few}
use Rattle.csv_log.proofs.Short.{log_short}

-- ---- writing

-- a log that is not refused fits
handed_short : (numbers : List ℕ) → 0 ≡ (first_bad [] (records_in numbers)).number → length (handed_text numbers) ≤ 1937
handed_short numbers e = log_short (log_in (records_in numbers)) (good_said (records_in numbers) (sym e))

write_all : (numbers buffer after : List ℕ) (n : ℕ) → length buffer ≡ 2048 → 0 ≡ (first_bad [] (records_in numbers)).number
    → out after n ≡ wrote (out buffer 0) (handed_text numbers)
    → (n ≡ length (handed_text numbers)) × (after ≡ handed_text numbers ++ drop (length (handed_text numbers)) buffer)
write_all numbers buffer after n h e w =
    let t = handed_text numbers in
    let s = handed_short numbers e in
    let q : out after n ≡ out (take 0 buffer ++ t ++ drop (0 + length t) buffer) (0 + length t) = w ∙ wrote_fits t buffer 0 (omega arith) in
    let p : 0 + length t ≡ length t = omega arith in
    (ap (λ (o : Out). o.at) q ∙ p, ap (λ (o : Out). o.buffer) q ∙ ap (λ (m : ℕ). t ++ drop m buffer) p)

pub write_good : (numbers buffer after : List ℕ) (n : ℕ) → length buffer ≡ 2048 → 0 ≡ (first_bad [] (records_in numbers)).number
    → out after n ≡ wrote (out buffer 0) (handed_text numbers)
    → (n ≡ length (handed_text numbers)) × (after ≡ buffer_after numbers buffer) × (n ≤ 1937)
unfolding buffer_after csv_write_refusal
write_good numbers buffer after n h e w =
    let a = write_all numbers buffer after n h e w in
    grind (arith, nat_tests, a, handed_short numbers e)

-- where none is bad, which is the number of records, the header among them
good_which : (earlier : List LogItem) (records : List Record) → (first_bad earlier records).number ≡ 0
    → (first_bad earlier records).which ≡ length earlier + length (log_in records) + 1
unfolding log_in first_bad
good_which earlier [] h = grind arith
good_which earlier (malformed ∷ records) h = grind arith
good_which earlier (in_three x ∷ records) h = grind (arith, nat_tests, good_which (x ∷ earlier) records)

-- ---- reading

pub numbers_count : (l : List LogItem) → length (item_numbers l) ≡ 3 * length l
unfolding item_numbers
numbers_count [] = refl
numbers_count (x ∷ l) = let q = numbers_count l in omega arith

-- where the length is not refused, the first bad record decides
read_judged : (s numbers : List ℕ) → (length s ≤ 48000 → length numbers ≡ 384) → csv_read_refusal s numbers ≡ (judged_file s).number
unfolding csv_read_refusal judged_file
read_judged s numbers h = grind (arith, nat_tests)

-- the verdict on a file that is not refused
file_verdict : (s : List ℕ) → (judged_file s).number ≡ 0 → (judged_file s ≡ first_bad [] (records_of s)) × (length s ≤ 48000)
unfolding judged_file
file_verdict s h = grind (arith, nat_tests)

-- its orders: how many, and that they are few
pub read_orders : (s : List ℕ) (orders : ℕ) → at_record (orders + 1) 0 ≡ judged_file s
    → (orders ≡ length (log_read s)) × (length (log_read s) ≤ 128) × (length s ≤ 48000)
read_orders s orders e =
    let q : (judged_file s).number ≡ 0 = ap (λ (b : FirstBad). b.number) (sym e) in
    let p = file_verdict s q in
    let g : (first_bad [] (records_of s)).number ≡ 0 = ap (λ (b : FirstBad). b.number) (sym p.0) ∙ q in
    let w : orders + 1 ≡ 0 + length (log_read s) + 1 = ap (λ (b : FirstBad). b.which) (e ∙ p.0) ∙ good_which [] (records_of s) g in
    (omega (arith, w), good_few (log_read s) (good_said (records_of s) g), p.1)

-- the first numbers of those found are the log's
pub front : (t zeros : List ℕ) (n : ℕ) → length t ≡ n → n ≤ length zeros → take n (sets zeros 0 t) ≡ t
front t zeros n e h =
    let q : sets zeros 0 t ≡ t ++ drop (0 + length t) zeros = sets-eq t zeros 0 (omega arith) in
    rw q (take_at t (drop (0 + length t) zeros) n e)

-- there is room for their numbers
pub read_room : (s numbers found : List ℕ) (orders : ℕ) → (length s ≤ 48000 → length numbers ≡ 384) → length found ≡ 384 → at_record (orders + 1) 0 ≡ judged_file s
    → (3 * orders ≤ length numbers) × (3 * orders ≤ length found)
read_room s numbers found orders h m e =
    let r = read_orders s orders e in
    let n = h r.2 in
    (omega (arith, r.0, r.1, n), omega (arith, r.0, r.1, m))

-- the refusal of a file that is bad, which leaves the numbers
pub read_number : (s numbers : List ℕ) (which number : ℕ) → length numbers ≡ 384 → at_record which number ≡ judged_file s → number ≡ csv_read_refusal s numbers
read_number s numbers which number h e = ap (λ (b : FirstBad). b.number) e ∙ sym (read_judged s numbers (λ b. h))

pub read_bad : (s numbers : List ℕ) (which number : ℕ) → length numbers ≡ 384 → at_record which number ≡ judged_file s → (number ≡ 0 → ⊥)
    → numbers ≡ numbers_after s numbers
unfolding numbers_after
read_bad s numbers which number h e z = rw (← read_number s numbers which number h e, ne_eqb number 0 z)

pub read_good : (s numbers zeros found part : List ℕ) (orders : ℕ) → (length s ≤ 48000 → length numbers ≡ 384) → length zeros ≡ 384
    → at_record (orders + 1) 0 ≡ judged_file s → found ≡ sets zeros 0 (item_numbers (log_read s)) → part ≡ take (3 * orders) found
    → part ++ drop (3 * orders) numbers ≡ numbers_after s numbers
unfolding numbers_after
read_good s numbers zeros found part orders h m e f p =
    let r = read_orders s orders e in
    let t = item_numbers (log_read s) in
    let d : length t ≡ 3 * orders = omega (arith, numbers_count (log_read s), r.0) in
    rw (read_judged s numbers h, ← e, p, f, front t zeros (3 * orders) d (omega (arith, r.0, r.1)), d)
