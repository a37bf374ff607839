-- The numbers found record by record are those of the log that a file says. Assumes nothing.
use mathlib.Core.Path.{◌≡◌, refl, sym, ◌∙◌}
use mathlib.Core.List.{List, [], ◌∷◌}
use Prim.Native.Nat.{ℕ, zero, suc, ◌+◌, ◌*◌, ◌<◌, ◌≤◌}
use native.Mathlib.Omega.{arith}
use lib.ListN.{length, get_or}
use lib.Seq.{sets}
use borrow.Author.Tests.{lt-ltb, le-ltb}
use Rattle.csv_log.specs.Log.{Record, in_three, malformed, log_in, item_numbers, at_record, first_bad}
use Rattle.csv_log.specs.Reading.{record_at, after_record, records_from}
use Rattle.csv_log.specs.Seen.{refusal_by, found_with, item_found, record_refusal_by, record_seen, record_found}
use Rattle.csv_log.proofs.Judging.{Judging, judging_start, judging_next, judging_bad, judging_end, bad_seen}
use Rattle.csv_log.proofs.ReadLaws.{after_above}

-- the records from a place on, one and then the others, or none
pub records_one : (s : List ℕ) (at n : ℕ) → at < length s → records_from s at (suc n) ≡ record_at s at ∷ records_from s (after_record s at) n
unfolding records_from
records_one s at n h = rw (lt-ltb at (length s) h)

pub records_none : (s : List ℕ) (at n : ℕ) → length s ≤ at → records_from s at n ≡ []
unfolding records_from
records_none s at zero h = refl
records_none s at (suc n) h = rw (le-ltb at (length s) h)

-- the numbers of a record that is not bad stand before those that are left
found_next : (rest : List Record) (seen found joined : List ℕ) (r : Record) (k : ℕ) → k ≡ record_refusal_by seen r → k ≡ 0 → joined ≡ record_found seen found r
    → sets found (3 * get_or seen 0 0) (item_numbers (log_in (r ∷ rest))) ≡ sets joined (3 * (get_or seen 0 0 + 1)) (item_numbers (log_in rest))
unfolding item_found found_with log_in item_numbers
found_next rest seen found joined malformed k e z f = absurd (omega arith)
found_next rest seen found joined (in_three x) k e z f =
    let n = get_or seen 0 0 in
    let a : 3 * n + 1 ≡ suc (3 * n) = omega arith in
    let b : 3 * n + 2 ≡ suc (suc (3 * n)) = omega arith in
    let d : 3 * (n + 1) ≡ suc (suc (suc (3 * n))) = omega arith in
    let q : refusal_by seen x ≡ 0 = sym e ∙ z in
    rw (f, q, d, a, b)

-- up to a place no record is bad, and what is found leads to the numbers of all
abbrev pub Finding : List ℕ → ℕ → List ℕ → ℕ → List ℕ → List ℕ → Type 0
Finding s from found₀ at seen found =
    (n : ℕ) × (length s ≤ at + n) × Judging seen (records_from s from (length s)) (records_from s at n) × (get_or seen 0 0 ≤ 128)
    × (sets found (3 * get_or seen 0 0) (item_numbers (log_in (records_from s at n))) ≡ sets found₀ 0 (item_numbers (log_in (records_from s from (length s)))))

pub finding_start : (s found : List ℕ) (from : ℕ) → Finding s from found from (0 ∷ 0 ∷ 0 ∷ 0 ∷ 0 ∷ 0 ∷ 0 ∷ 0 ∷ 0 ∷ 0 ∷ 0 ∷ []) found
finding_start s found from = (length s, omega arith, judging_start (records_from s from (length s)), omega arith, refl)

-- a record more
pub finding_next : (s found₀ seen found after joined : List ℕ) (from at k a : ℕ) → Finding s from found₀ at seen found → at < length s
    → k ≡ record_refusal_by seen (record_at s at) → k ≡ 0 → a ≡ after_record s at → after ≡ record_seen seen (record_at s at) → joined ≡ record_found seen found (record_at s at)
    → Finding s from found₀ a after joined
finding_next s found₀ seen found after joined from at k a (zero, l, j, m, g) h e z i p q = absurd (omega arith)
finding_next s found₀ seen found after joined from at k a (suc n, l, j, m, g) h e z i p q =
    let o = records_one s at n h in
    let t = judging_next (records_from s from (length s)) (records_from s (after_record s at) n) seen after (record_at s at) k (rw o at j) e z p in
    let f = found_next (records_from s (after_record s at) n) seen found joined (record_at s at) k e z q in
    rw i (n, omega (arith, after_above s at h), t.0, omega (arith, t.1, t.2), rw t.1 (sym f ∙ rw o at g))

-- a bad one
pub finding_bad : (s found₀ seen found after : List ℕ) (from at k : ℕ) → Finding s from found₀ at seen found → at < length s
    → k ≡ record_refusal_by seen (record_at s at) → (k ≡ 0 → ⊥) → after ≡ record_seen seen (record_at s at)
    → (at_record (get_or after 0 0 + 2) k ≡ first_bad [] (records_from s from (length s))) × (get_or after 0 0 ≤ 128)
finding_bad s found₀ seen found after from at k (zero, l, j, m, g) h e z p = absurd (omega arith)
finding_bad s found₀ seen found after from at k (suc n, l, j, m, g) h e z p =
    let b = judging_bad (records_from s from (length s)) (records_from s (after_record s at) n) seen (record_at s at) k (rw (records_one s at n h) at j) e z in
    rw (p, bad_seen seen (record_at s at) k e z) (sym b, m)

-- no record more
pub finding_end : (s found₀ seen found : List ℕ) (from at : ℕ) → Finding s from found₀ at seen found → length s ≤ at
    → (at_record (get_or seen 0 0 + 1) 0 ≡ first_bad [] (records_from s from (length s)))
    × (found ≡ sets found₀ 0 (item_numbers (log_in (records_from s from (length s)))))
unfolding log_in item_numbers
finding_end s found₀ seen found from at (n, l, j, m, g) h =
    let o = records_none s at n h in
    (sym (judging_end (records_from s from (length s)) seen (rw o at j)), rw o at g)
