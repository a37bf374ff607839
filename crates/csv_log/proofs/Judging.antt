-- Records judged one after another by the cells: the first bad one is that of the definitions. Assumes nothing.
use mathlib.Core.Path.{◌≡◌, refl, sym, ap, ◌∙◌}
use mathlib.Core.List.{List, [], ◌∷◌}
use Prim.Native.Nat.{ℕ, ◌+◌, ◌<◌}
use native.Mathlib.Numerals.{add-one}
use native.Mathlib.Omega.{arith}
use Rattle.std.proofs.lemmas.Bool.Decides.{nat_tests}
use lib.ListN.{length, get_or}
use borrow.Author.Tests.{ne_eqb}
use Rattle.csv_log.specs.declared.LogItem.{LogItem}
use Rattle.csv_log.specs.Log.{Record, in_three, malformed, count_of_lane, item_refusal, at_record, first_bad}
use Rattle.csv_log.specs.Seen.{refusal_by, seen_with, seen_after, record_refusal_by, record_seen}
use Rattle.csv_log.proofs.Logs.{item_passed}
use Rattle.csv_log.proofs.SeenLaws.{seen_of, count_cell, seen_with_lem, seen_judges}

-- after some records, none of them bad, the cells are theirs, and what is left decides
abbrev pub Judging : List ℕ → List Record → List Record → Type 0
Judging seen all rest = (earlier : List LogItem) × (seen ≡ seen_of earlier) × (first_bad [] all ≡ first_bad earlier rest)

pub judging_start : (all : List Record) → Judging (0 ∷ 0 ∷ 0 ∷ 0 ∷ 0 ∷ 0 ∷ 0 ∷ 0 ∷ 0 ∷ 0 ∷ 0 ∷ []) all all
unfolding seen_of count_of_lane
judging_start all = ([], none, refl)
  where
    none : (0 ∷ 0 ∷ 0 ∷ 0 ∷ 0 ∷ 0 ∷ 0 ∷ 0 ∷ 0 ∷ 0 ∷ 0 ∷ []) ≡ seen_of []
    none = refl

first_good : (earlier : List LogItem) (x : LogItem) (rest : List Record) → item_refusal earlier x ≡ 0 → first_bad earlier (in_three x ∷ rest) ≡ first_bad (x ∷ earlier) rest
unfolding first_bad
first_good earlier x rest z = rw z

first_bad_lem : (earlier : List LogItem) (x : LogItem) (rest : List Record) → (item_refusal earlier x ≡ 0 → ⊥)
    → first_bad earlier (in_three x ∷ rest) ≡ at_record (length earlier + 2) (item_refusal earlier x)
unfolding first_bad
first_bad_lem earlier x rest h = rw (ne_eqb (item_refusal earlier x) 0 h)

after_good : (seen : List ℕ) (x : LogItem) → refusal_by seen x ≡ 0 → seen_after seen x ≡ seen_with seen x
unfolding seen_after
after_good seen x h = rw h

-- a record that is not bad
pub judging_next : (all rest : List Record) (seen after : List ℕ) (r : Record) (k : ℕ) → Judging seen all (r ∷ rest) → k ≡ record_refusal_by seen r → k ≡ 0
    → after ≡ record_seen seen r → Judging after all rest × (get_or after 0 0 ≡ get_or seen 0 0 + 1) × (get_or seen 0 0 < 128)
judging_next all rest seen after malformed k j e h f = absurd (omega arith)
judging_next all rest seen after (in_three x) k (earlier, s, d) e h f =
    ((x ∷ earlier, now, d ∙ first_good earlier x rest z), count, few)
  where
    z : item_refusal earlier x ≡ 0
    z = sym (seen_judges earlier x) ∙ ap (λ (c : List ℕ). refusal_by c x) (sym s) ∙ sym e ∙ h

    now : after ≡ seen_of (x ∷ earlier)
    now = f ∙ after_good seen x (sym e ∙ h) ∙ ap (λ (c : List ℕ). seen_with c x) s ∙ seen_with_lem earlier x (item_passed earlier x z).0

    count : get_or after 0 0 ≡ get_or seen 0 0 + 1
    count = rw (now, s, count_cell, count_cell, add-one)

    few : get_or seen 0 0 < 128
    few = rw (s, count_cell) (item_passed earlier x z).2

-- a bad one
pub judging_bad : (all rest : List Record) (seen : List ℕ) (r : Record) (k : ℕ) → Judging seen all (r ∷ rest) → k ≡ record_refusal_by seen r → (k ≡ 0 → ⊥)
    → first_bad [] all ≡ at_record (get_or seen 0 0 + 2) k
unfolding first_bad
judging_bad all rest seen malformed k (earlier, s, d) e h = rw (s, count_cell, e) d
judging_bad all rest seen (in_three x) k (earlier, s, d) e h =
    let q : k ≡ item_refusal earlier x = e ∙ ap (λ (c : List ℕ). refusal_by c x) s ∙ seen_judges earlier x in
    rw (s, count_cell, q) (d ∙ first_bad_lem earlier x rest (λ z. h (q ∙ z)))

-- no record more
pub judging_end : (all : List Record) (seen : List ℕ) → Judging seen all [] → first_bad [] all ≡ at_record (get_or seen 0 0 + 1) 0
unfolding first_bad
judging_end all seen (earlier, s, d) = rw (s, count_cell) d

-- which is not kept
pub bad_seen : (seen : List ℕ) (r : Record) (k : ℕ) → k ≡ record_refusal_by seen r → (k ≡ 0 → ⊥) → record_seen seen r ≡ seen
unfolding seen_after
bad_seen seen r k e h = grind (arith, nat_tests)
