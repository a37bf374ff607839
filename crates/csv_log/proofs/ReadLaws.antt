-- Laws of a field and of a record as they are read: Reading.antt. Assumes nothing.
use mathlib.Core.Path.{◌≡◌, refl, sym, ap, ◌∙◌}
use mathlib.Core.Bool.{Bool, true, false, cond, not}
use mathlib.Core.List.{List}
use Prim.Native.Nat.{ℕ, zero, suc, ◌+◌, ◌<◌, ◌≤◌}
use native.Mathlib.Omega.{arith}
use lib.Dec.{ltb}
use lib.ListN.{length}
use native.Mathlib.Numerals.{add-one}
use Rattle.scan.specs.declared.Scan.{Scan}
use Rattle.scan.specs.Scan.{start_at, read_text, read_number}
use Rattle.scan.proofs.Laws.{never}
use Rattle.scan.proofs.TextLaws.{not_no}
use Rattle.scan.proofs.Decimal.{at_least_1}
use Rattle.scan.proofs.Number.{Read, number_sound}
use Rattle.scan.proofs.Reading.{text_sound}
use Rattle.fields.specs.Fields.{comma, read_field, read_end, read_stamp, read_rest}
use Rattle.csv_log.specs.Log.{in_three, log_item}
use Rattle.csv_log.specs.Reading.{rest_at, record_at, after_record}
use Rattle.csv_log.specs.Seen.{record_refusal_by, record_seen, record_found}
use Rattle.csv_log.proofs.Laws.{not_off}

-- ---- what a good scan has passed

text_on : (s t : List ℕ) (c : Scan) → (read_text s t c).ok ≡ true → (c.ok ≡ true) × (c.at ≤ (read_text s t c).at)
text_on s t c h = let r = text_sound s t c h in (r.0, rw r.2 (omega arith))

number_on : (s : List ℕ) (c : Scan) → (read_number s c).ok ≡ true → (c.ok ≡ true) × (c.at < (read_number s c).at)
unfolding Read
number_on s c h = let r = number_sound s c h in (r.0, rw r.1.1 (omega (arith, at_least_1 r.1.0)))

field_on : (s : List ℕ) (c : Scan) → (read_field s c).ok ≡ true → (c.ok ≡ true) × (c.at < (read_field s c).at)
unfolding read_field
field_on s c h = grind (arith, text_on, number_on)

end_on : (s : List ℕ) (c : Scan) → (read_end s c).ok ≡ true → (c.ok ≡ true) × (c.at ≤ (read_end s c).at)
unfolding read_end
end_on s c h = grind (arith, text_on)

text_latest : (s t : List ℕ) (c : Scan) → (read_text s t c).ok ≡ true → (read_text s t c).latest ≡ c.latest
text_latest s t c h = ap (λ (x : Scan). x.latest) (text_sound s t c h).2

text_earlier : (s t : List ℕ) (c : Scan) → (read_text s t c).ok ≡ true → (read_text s t c).earlier ≡ c.earlier
text_earlier s t c h = ap (λ (x : Scan). x.earlier) (text_sound s t c h).2

number_earlier : (s : List ℕ) (c : Scan) → (read_number s c).ok ≡ true → (read_number s c).earlier ≡ c.latest
unfolding Read
number_earlier s c h = ap (λ (x : Scan). x.earlier) (number_sound s c h).1.1

-- the latest number becomes the earlier one
field_earlier : (s : List ℕ) (c : Scan) → (read_field s c).ok ≡ true → (read_field s c).earlier ≡ c.latest
unfolding read_field
field_earlier s c h = grind (arith, text_on, number_on, text_earlier, text_latest, number_earlier)

-- ---- the fields of a record

-- the scan of field k of a record, the comma before it being read
unfoldable pub at_field : List ℕ → ℕ → Scan → Scan
at_field s k c = cond (ltb 0 k) (read_text s comma c) c

-- the scan after the first k fields of the record that begins at a place
unfoldable pub fields_read : List ℕ → ℕ → ℕ → Scan
fields_read s at zero = start_at at
fields_read s at (suc k) = read_field s (at_field s k (fields_read s at k))

fields_rest : (s : List ℕ) (at : ℕ) → read_end s (fields_read s at 3) ≡ rest_at s at
unfolding fields_read at_field read_rest read_stamp
fields_rest s at = refl

-- a good record's scans are good at every field
fields_good : (s : List ℕ) (at : ℕ) → (rest_at s at).ok ≡ true
    → ((at_field s 1 (fields_read s at 1)).ok ≡ true) × ((fields_read s at 2).ok ≡ true) × ((at_field s 2 (fields_read s at 2)).ok ≡ true)
unfolding fields_read at_field read_rest read_stamp
fields_good s at h =
    let a = read_text s comma (read_stamp s at) in
    let d = read_text s comma (read_field s a) in
    let e = end_on s (read_field s d) h in
    let f = field_on s d e.0 in
    let g = text_on s comma (read_field s a) f.0 in
    ((field_on s a g.0).0, g.0, f.0)

good_at : (s : List ℕ) (at k : ℕ) → k < 3 → (rest_at s at).ok ≡ true → (at_field s k (fields_read s at k)).ok ≡ true
unfolding fields_read at_field
good_at s at zero l h = refl
good_at s at (suc zero) l h = (fields_good s at h).0
good_at s at (suc (suc zero)) l h = (fields_good s at h).2
good_at s at (suc (suc (suc k))) l h = absurd (omega arith)

-- what the loop over the fields keeps: the scan, and the number before its two
unfoldable pub Fields : List ℕ → ℕ → Scan → ℕ → ℕ → Type 0
Fields s at c stamp k = (k ≤ 3) × (c ≡ fields_read s at k) × ((j : ℕ) → k ≡ suc j → stamp ≡ (fields_read s at j).earlier)

pub fields_start : (s : List ℕ) (at : ℕ) (c : Scan) → c ≡ start_at at → Fields s at c 0 0
unfolding Fields fields_read
fields_start s at c e = (omega arith, e, λ j q. absurd (omega arith))

pub fields_next : (s : List ℕ) (at stamp k : ℕ) (c d r : Scan) → Fields s at c stamp k → k < 3 → d ≡ at_field s k c → r ≡ read_field s d
    → Fields s at r c.earlier (k + 1)
unfolding Fields fields_read
fields_next s at stamp k c d r i l e f =
    (omega arith, rw add-one (f ∙ ap (read_field s) (e ∙ ap (at_field s k) i.1)), λ j q. let z : j ≡ k = omega arith in rw (z, i.1))

pub fields_off : (s : List ℕ) (at stamp k : ℕ) (c d : Scan) → Fields s at c stamp k → k < 3 → d ≡ at_field s k c → not d.ok ≡ true
    → (rest_at s at).ok ≡ false
unfolding Fields
fields_off s at stamp k c d i l e h = go (rest_at s at).ok refl
  where
    go : (b : Bool) → (rest_at s at).ok ≡ b → b ≡ false
    go true q = never (sym (not_off d.ok h) ∙ ap (λ (x : Scan). x.ok) (e ∙ ap (at_field s k) i.1) ∙ good_at s at k l q)
    go false q = refl

fields_end : (s : List ℕ) (at stamp k : ℕ) (c r : Scan) → Fields s at c stamp k → 3 ≤ k → r ≡ read_end s c → r ≡ rest_at s at
unfolding Fields
fields_end s at stamp k c r i l e =
    let z : k ≡ 3 = omega (arith, i.0) in
    e ∙ ap (read_end s) (i.1 ∙ ap (fields_read s at) z) ∙ fields_rest s at

fields_stamp : (s : List ℕ) (at stamp k : ℕ) (c : Scan) → Fields s at c stamp k → 3 ≤ k → (rest_at s at).ok ≡ true → stamp ≡ (read_stamp s at).latest
unfolding Fields fields_read at_field read_stamp
fields_stamp s at stamp k c i l h =
    let g = fields_good s at h in
    i.2 2 (omega (arith, i.0)) ∙ field_earlier s (read_text s comma (read_stamp s at)) g.1 ∙ text_latest s comma (read_stamp s at) g.0

-- ---- `take_record`, each way

pub take_no : (s seen found : List ℕ) (at : ℕ) → (rest_at s at).ok ≡ false
    → (31 ≡ record_refusal_by seen (record_at s at)) × (seen ≡ record_seen seen (record_at s at)) × (found ≡ record_found seen found (record_at s at))
unfolding record_at
take_no s seen found at o = rw o (refl, refl, refl)

pub end_off : (s : List ℕ) (at stamp k : ℕ) (c r : Scan) → Fields s at c stamp k → 3 ≤ k → r ≡ read_end s c → not r.ok ≡ true → (rest_at s at).ok ≡ false
end_off s at stamp k c r i l e h = ap (λ (x : Scan). x.ok) (sym (fields_end s at stamp k c r i l e)) ∙ not_off r.ok h

-- the record read, and where the next one begins
pub take_yes : (s : List ℕ) (at stamp k : ℕ) (c r : Scan) → Fields s at c stamp k → 3 ≤ k → r ≡ read_end s c → not r.ok ≡ false
    → (record_at s at ≡ in_three (log_item stamp r.earlier r.latest)) × (r.at ≡ after_record s at)
unfolding record_at after_record
take_yes s at stamp k c r i l e h =
    let q = fields_end s at stamp k c r i l e in
    let o : (rest_at s at).ok ≡ true = ap (λ (x : Scan). x.ok) (sym q) ∙ not_no r.ok h in
    let t = fields_stamp s at stamp k c i l o in
    rw (o, ← q, ← t) (refl, refl)

-- ---- the next record begins further on

rest_on : (s : List ℕ) (c : Scan) → (read_rest s c).ok ≡ true → (c.ok ≡ true) × (c.at < (read_rest s c).at)
unfolding read_rest
rest_on s c h = grind (arith, text_on, field_on, end_on)

pub after_above : (s : List ℕ) (at : ℕ) → at < length s → at < after_record s at
unfolding after_record read_stamp
after_above s at l = grind (arith, rest_on, field_on)
