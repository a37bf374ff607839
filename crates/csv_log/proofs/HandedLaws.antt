-- A log that is handed in as numbers, record by record: Writing.antt. Assumes nothing.
use mathlib.Core.Path.{◌≡◌, refl, sym, ap}
use mathlib.Core.List.{List, [], ◌∷◌}
use Prim.Native.Nat.{ℕ, ◌-◌, ◌<◌, ◌≤◌}
use native.Mathlib.Omega.{arith}
use lib.ListN.{length, get_or, take, drop}
use lib.Seq.{take_all}
use Rattle.text.specs.Writing.{Out, wrote}
use Rattle.text.proofs.Laws.{wrote_append}
use Rattle.csv_log.specs.declared.LogItem.{LogItem}
use Rattle.csv_log.specs.Log.{log_item, in_three, malformed, log_in, first_bad}
use Rattle.csv_log.specs.Text.{in_turn}
use Rattle.csv_log.specs.Writing.{records_in}
use Rattle.csv_log.specs.Seen.{refusal_by, seen_after}
use Rattle.csv_log.proofs.Judging.{Judging, judging_next, judging_bad, judging_end}

-- ---- three numbers more, one or two, none

abbrev pub first_item : List ℕ → LogItem
first_item left = log_item (get_or left 0 0) (get_or left 1 0) (get_or left 2 0)

abbrev pub behind : List ℕ → List ℕ
behind left = take (length left - 3) (drop 3 left)

three_more : (left : List ℕ) → 3 ≤ length left → records_in left ≡ in_three (first_item left) ∷ records_in (behind left)
unfolding records_in
three_more [] h = absurd (omega arith)
three_more (a ∷ []) h = absurd (omega arith)
three_more (a ∷ b ∷ []) h = absurd (omega arith)
three_more (a ∷ b ∷ c ∷ left) h = ap (λ (l : List ℕ). in_three (log_item a b c) ∷ records_in l) (sym (take_all (length (a ∷ b ∷ c ∷ left) - 3) left (omega arith)))

few_left : (left : List ℕ) → 0 < length left → length left < 3 → records_in left ≡ malformed ∷ []
unfolding records_in
few_left [] l h = absurd (omega arith)
few_left (a ∷ []) l h = refl
few_left (a ∷ b ∷ []) l h = refl
few_left (a ∷ b ∷ c ∷ left) l h = absurd (omega arith)

none_left : (left : List ℕ) → length left ≡ 0 → records_in left ≡ []
unfolding records_in
none_left [] h = refl
none_left (a ∷ left) h = absurd (omega arith)

no_order : (left : List ℕ) → length left < 3 → log_in (records_in left) ≡ []
unfolding records_in log_in
no_order [] h = refl
no_order (a ∷ []) h = refl
no_order (a ∷ b ∷ []) h = refl
no_order (a ∷ b ∷ c ∷ left) h = absurd (omega arith)

-- ---- judged: the records before those that are left are not bad

abbrev pub Handed : List ℕ → List ℕ → List ℕ → Type 0
Handed numbers seen left = Judging seen (records_in numbers) (records_in left)

pub handed_next : (numbers seen after left : List ℕ) → 3 ≤ length left → Handed numbers seen left
    → 0 ≡ refusal_by seen (first_item left) → after ≡ seen_after seen (first_item left) → Handed numbers after (behind left)
handed_next numbers seen after left l j e p =
    (judging_next (records_in numbers) (records_in (behind left)) seen after (in_three (first_item left)) 0 (rw (three_more left l) at j) e refl p).0

pub handed_bad : (numbers seen left : List ℕ) (k : ℕ) → 3 ≤ length left → Handed numbers seen left → k ≡ refusal_by seen (first_item left) → (k ≡ 0 → ⊥)
    → k ≡ (first_bad [] (records_in numbers)).number
handed_bad numbers seen left k l j e z =
    sym (ap (λ b. b.number) (judging_bad (records_in numbers) (records_in (behind left)) seen (in_three (first_item left)) k (rw (three_more left l) at j) e z))

pub handed_cut : (numbers seen left : List ℕ) → 0 < length left → length left < 3 → Handed numbers seen left → 31 ≡ (first_bad [] (records_in numbers)).number
handed_cut numbers seen left l h j =
    sym (ap (λ b. b.number) (judging_bad (records_in numbers) [] seen malformed 31 (rw (few_left left l h) at j) refl (λ z. omega arith)))

pub handed_end : (numbers seen left : List ℕ) → length left ≡ 0 → Handed numbers seen left → 0 ≡ (first_bad [] (records_in numbers)).number
handed_end numbers seen left h j = sym (ap (λ b. b.number) (judging_end (records_in numbers) seen (rw (none_left left h) at j)))

-- ---- written: what is written so far, with the orders that are left, each as a text, is all of them

abbrev pub Putting : (LogItem → List ℕ) → Out → List ℕ → Out → List ℕ → Type 0
Putting text o numbers p left = wrote p (in_turn text (log_in (records_in left))) ≡ wrote o (in_turn text (log_in (records_in numbers)))

pub putting_next : (text : LogItem → List ℕ) (o p q : Out) (numbers left : List ℕ) → 3 ≤ length left → Putting text o numbers p left
    → q ≡ wrote p (text (first_item left)) → Putting text o numbers q (behind left)
unfolding in_turn log_in
putting_next text o p q numbers left l j e = rw (e, wrote_append) (rw (three_more left l) at j)

pub putting_end : (text : LogItem → List ℕ) (o p : Out) (numbers left : List ℕ) → Putting text o numbers p left → length left < 3
    → p ≡ wrote o (in_turn text (log_in (records_in numbers)))
unfolding in_turn wrote
putting_end text o p numbers left j h = rw (no_order left h) at j
