-- What `csv-read` prints is what reading gives, and it is short. Assumes nothing.
use mathlib.Core.Path.{◌≡◌, refl, sym, ap, ◌∙◌}
use mathlib.Core.Bool.{Bool, true, false, cond, not}
use mathlib.Core.List.{List, [], ◌∷◌, ◌++◌}
use Prim.Native.Nat.{ℕ, ◌+◌, ◌*◌, ◌/◌, ◌%◌, ◌≤◌}
use native.Mathlib.Omega.{arith}
use lib.Dec.{eqb, ltb, leb}
use lib.ListN.{length, take, drop, length-append}
use lib.Seq.{take_at}
use borrow.Author.Tests.{eqb-true, eqb-false, ne_eqb}
use Rattle.text.specs.Bytes.{bytes}
use Rattle.text.specs.Writing.{Out, wrote}
use Rattle.text.proofs.Laws.{next}
use Rattle.scan.proofs.Decimal.{at_most_5}
use Rattle.meaning.specs.Texts.{bad_text}
use Rattle.fields.specs.Fields.{read_header}
use Rattle.csv_log.specs.declared.LogItem.{LogItem}
use Rattle.csv_log.specs.Log.{Record, in_three, malformed, FirstBad, log_in, item_numbers, in_range, rises_after, count_of_lane, item_refusal, at_record, first_bad}
use Rattle.csv_log.specs.Text.{in_turn}
use Rattle.csv_log.specs.Writing.{records_in}
use Rattle.csv_log.specs.Reading.{records_of, judged_file, log_read, csv_read_answer, numbers_after, first_bad_answer}
use Rattle.csv_log.proofs.Logs.{AllIn, item_passed, good_said, good_in, good_few, said_back}
use Rattle.csv_log.proofs.Short.{numbers_length}
use Rattle.csv_log.proofs.Numbers.{numbers_records}
use Rattle.csv_log.proofs.Entries.{numbers_count, read_number, read_orders}
use Rattle.files.proofs.Theorem.{file_passed}
use Rattle.commands.specs.Csv.{log_item_text, csv_read_text, SaidFits}

-- ---- the numbers of refusals and records are small

chain_small : (a b c d : Bool) → ◌≤◌ (cond a 31 (cond b 32 (cond c 32 (cond d 32 0)))) 32
chain_small true b c d = omega arith
chain_small false true c d = omega arith
chain_small false false true d = omega arith
chain_small false false false true = omega arith
chain_small false false false false = omega arith

item_small : (earlier : List LogItem) (x : LogItem) → item_refusal earlier x ≤ 32
unfolding item_refusal
item_small earlier x = chain_small (not (in_range x)) (not (rises_after earlier x)) (leb 128 (length earlier)) (leb 16 (count_of_lane x.lane earlier))

records_small : (earlier : List LogItem) (records : List Record) → length earlier ≤ 128
    → ((first_bad earlier records).which ≤ 130) × ((first_bad earlier records).number ≤ 32)
unfolding first_bad
records_small earlier [] h = (omega arith, omega arith)
records_small earlier (malformed ∷ records) h = (omega arith, omega arith)
records_small earlier (in_three x ∷ records) h = go (eqb (item_refusal earlier x) 0) refl (λ l. records_small (x ∷ earlier) records l)
  where
    go : (b : Bool) → eqb (item_refusal earlier x) 0 ≡ b → (length (x ∷ earlier) ≤ 128 → ((first_bad (x ∷ earlier) records).which ≤ 130) × ((first_bad (x ∷ earlier) records).number ≤ 32))
        → ((cond b (first_bad (x ∷ earlier) records) (at_record (length earlier + 2) (item_refusal earlier x))).which ≤ 130)
        × ((cond b (first_bad (x ∷ earlier) records) (at_record (length earlier + 2) (item_refusal earlier x))).number ≤ 32)
    go true e r = r (omega (arith, (item_passed earlier x (eqb-true _ 0 e)).2))
    go false e r = (omega arith, item_small earlier x)

pub judged_small : (s : List ℕ) → ((judged_file s).which ≤ 130) × ((judged_file s).number ≤ 32)
unfolding judged_file
judged_small s = go (ltb 48000 (length s)) (read_header s).ok
  where
    go : (b d : Bool) → ((cond b (at_record 0 1) (cond d (first_bad [] (records_of s)) (at_record 1 31))).which ≤ 130)
        × ((cond b (at_record 0 1) (cond d (first_bad [] (records_of s)) (at_record 1 31))).number ≤ 32)
    go true d = (omega arith, omega arith)
    go false true = records_small [] (records_of s) (omega arith)
    go false false = (omega arith, omega arith)

-- ---- what reading 384 numbers answers

-- the answer's lowest byte is the refusal, and the rest is the number of orders
answer_parts : (k n : ℕ) → k ≤ 32 → (cond (eqb k 0) (256 * n) k % 256 ≡ k) × (k ≡ 0 → cond (eqb k 0) (256 * n) k / 256 ≡ n)
answer_parts k n h = go (eqb k 0) refl
  where
    go : (b : Bool) → eqb k 0 ≡ b → (cond b (256 * n) k % 256 ≡ k) × (k ≡ 0 → cond b (256 * n) k / 256 ≡ n)
    go true e = let z = eqb-true k 0 e in (omega arith, λ y. omega arith)
    go false e = (omega arith, λ y. absurd (eqb-false k 0 e y))

read_parts : (s numbers : List ℕ) (a : ℕ) → length numbers ≡ 384 → a ≡ csv_read_answer s numbers
    → (a % 256 ≡ (judged_file s).number) × ((judged_file s).number ≡ 0 → a / 256 ≡ length (log_read s))
unfolding csv_read_answer
read_parts s numbers a h e = rw (e, ← read_number s numbers (judged_file s).which (judged_file s).number h refl) (answer_parts (judged_file s).number (length (log_read s)) (judged_small s).1)

-- ---- a bad file

pub bad_parts : (s : List ℕ) (b : ℕ) → b ≡ first_bad_answer s → ((judged_file s).number ≡ 0 → ⊥)
    → (b / 256 ≡ (judged_file s).which) × (b % 256 ≡ (judged_file s).number)
unfolding first_bad_answer
bad_parts s b e h =
    let m = judged_small s in
    rw (e, ne_eqb (judged_file s).number 0 h) (omega arith, omega arith)

pub answer_bad : (s numbers : List ℕ) (a : ℕ) → length numbers ≡ 384 → a ≡ csv_read_answer s numbers → (a % 256 ≡ 0 → ⊥) → (judged_file s).number ≡ 0 → ⊥
answer_bad s numbers a h e n z = n ((read_parts s numbers a h e).0 ∙ z)

pub said_bad : (o p : Out) (s : List ℕ) (which number : ℕ) → at_record which number ≡ judged_file s → (number ≡ 0 → ⊥) → p ≡ wrote o (bad_text which number)
    → p ≡ wrote o (csv_read_text s)
unfolding csv_read_text
said_bad o p s which number e h q = rw (← e, ne_eqb number 0 h) q

-- ---- a good one

pub answer_good : (s numbers : List ℕ) (a : ℕ) → length numbers ≡ 384 → a ≡ csv_read_answer s numbers → a % 256 ≡ 0
    → ((judged_file s).number ≡ 0) × (a / 256 ≡ length (log_read s))
answer_good s numbers a h e n =
    let r = read_parts s numbers a h e in
    let z = sym r.0 ∙ n in
    (z, r.1 z)

-- they are at most 128
few_said : (s : List ℕ) → (judged_file s).number ≡ 0 → length (log_read s) ≤ 128
few_said s z = good_few (log_read s) (good_said (records_of s) (file_passed s z).2)

pub said_few : (s : List ℕ) (orders : ℕ) → at_record (orders + 1) 0 ≡ judged_file s → 3 * orders ≤ 384
said_few s orders e = let d = read_orders s orders e in omega (arith, d.0, d.1)

-- the first numbers are those of the log
said_numbers : (s numbers after : List ℕ) (orders : ℕ) → length numbers ≡ 384 → at_record (orders + 1) 0 ≡ judged_file s
    → after ≡ numbers_after s numbers → take (3 * orders) after ≡ item_numbers (log_read s)
unfolding numbers_after
said_numbers s numbers after orders h e i =
    let t = item_numbers (log_read s) in
    let z = sym (read_number s numbers (orders + 1) 0 h e) in
    rw (i, z) (take_at t (drop (length t) numbers) (3 * orders) (omega (arith, numbers_count (log_read s), (read_orders s orders e).0)))

pub said_good : (o p q r : Out) (s numbers after : List ℕ) (orders : ℕ) → length numbers ≡ 384 → at_record (orders + 1) 0 ≡ judged_file s
    → after ≡ numbers_after s numbers → p ≡ wrote o (bytes "(log")
    → q ≡ wrote p (in_turn log_item_text (log_in (records_in (take (3 * orders) after)))) → r ≡ wrote q (bytes ")\n") → r ≡ wrote o (csv_read_text s)
unfolding csv_read_text
said_good o p q r s numbers after orders h e i f g k =
    let z : (judged_file s).number ≡ 0 = ap (λ (b : FirstBad). b.number) (sym e) in
    let t : log_in (records_in (take (3 * orders) after)) ≡ log_read s =
    ap (λ (x : List ℕ). log_in (records_in x)) (said_numbers s numbers after orders h e i) ∙ ap log_in (numbers_records (log_read s)) ∙ said_back (log_read s) in
    rw z (next o _ (bytes ")\n") (next o (bytes "(log") _ f (rw t at g)) k)

-- ---- how long it is

items_length : (l : List LogItem) → AllIn l → length (in_turn log_item_text l) ≤ 16 * length l
unfolding in_turn AllIn
items_length [] h = omega arith
items_length (x ∷ l) h = simp length-append (omega (arith, numbers_length x h.0, items_length l h.1))

bad_length_lem : (which number : ℕ) → length (bad_text which number) ≤ 2054
unfolding bad_text
bad_length_lem which number = simp length-append (omega (arith, at_most_5 which, at_most_5 number))

pub said_fits : SaidFits
unfolding csv_read_text
said_fits s = go (eqb (judged_file s).number 0) refl
  where
    go : (b : Bool) → eqb (judged_file s).number 0 ≡ b
        → length (cond b (bytes "(log" ++ in_turn log_item_text (log_read s) ++ bytes ")\n") (bad_text (judged_file s).which (judged_file s).number)) ≤ 2054
    go true e =
        let z = eqb-true (judged_file s).number 0 e in
        let g = good_said (records_of s) (file_passed s z).2 in
        simp length-append (omega (arith, items_length (log_read s) (good_in (log_read s) g), few_said s z))
    go false e = bad_length_lem (judged_file s).which (judged_file s).number
