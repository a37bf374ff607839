-- The numbers of a log, three an order, and the log that they are. Assumes nothing.
use mathlib.Core.Path.{◌≡◌, refl, ap}
use mathlib.Core.List.{List, [], ◌∷◌, map}
use Prim.Native.Nat.{ℕ}
use native.Mathlib.Omega.{arith}
use Rattle.std.proofs.lemmas.Bool.Decides.{nat_tests}
use lib.ListN.{length}
use borrow.Author.Tests.{eq-eqb}
use Rattle.csv_log.specs.declared.LogItem.{LogItem}
use Rattle.csv_log.specs.Log.{Record, in_three, log_item, log_in, item_numbers, first_bad}
use Rattle.csv_log.specs.Writing.{records_in, csv_write_refusal}
use Rattle.csv_log.proofs.Logs.{first_passed, malformed_bad}

-- the records of a log's numbers are its orders
pub numbers_records : (l : List LogItem) → records_in (item_numbers l) ≡ map in_three l
unfolding records_in item_numbers
numbers_records [] = refl
numbers_records (x ∷ l) = ap (λ (records : List Record). in_three x ∷ records) (numbers_records l)

-- numbers of which no record is bad are the numbers of the log that they say
pub records_numbers : (earlier : List LogItem) (numbers : List ℕ) → (first_bad earlier (records_in numbers)).number ≡ 0
    → item_numbers (log_in (records_in numbers)) ≡ numbers
unfolding records_in item_numbers log_in
records_numbers earlier [] h = refl
records_numbers earlier (stamp ∷ []) h = malformed_bad earlier [] h
records_numbers earlier (stamp ∷ lane ∷ []) h = malformed_bad earlier [] h
records_numbers earlier (stamp ∷ lane ∷ word ∷ numbers) h =
    ap (λ (rest : List ℕ). stamp ∷ lane ∷ word ∷ rest)
    (records_numbers (log_item stamp lane word ∷ earlier) numbers (first_passed earlier (log_item stamp lane word) (records_in numbers) h).1)

-- what writing does not refuse
pub write_passed : (numbers buffer : List ℕ) → csv_write_refusal numbers buffer ≡ 0
    → (length buffer ≡ 2048) × ((first_bad [] (records_in numbers)).number ≡ 0)
unfolding csv_write_refusal
write_passed numbers buffer h = grind (arith, nat_tests)

pub write_passes : (numbers buffer : List ℕ) → length buffer ≡ 2048 → (first_bad [] (records_in numbers)).number ≡ 0
    → csv_write_refusal numbers buffer ≡ 0
unfolding csv_write_refusal
write_passes numbers buffer e h = rw (eq-eqb (length buffer) 2048 e) h
