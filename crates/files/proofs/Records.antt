-- A header and a record are read, with their ends, exactly where they are written. Assumes nothing.
use mathlib.Core.Path.{◌≡◌, refl, sym, ap, ap₂, ◌∙◌}
use mathlib.Core.Bool.{Bool, true, false, cond}
use mathlib.Core.List.{List, [], ◌∷◌, ◌++◌}
use Prim.Native.Nat.{ℕ, ◌+◌, ◌<◌}
use native.Mathlib.Omega.{arith}
use lib.Dec.{eqb}
use lib.ListN.{length, length-append}
use borrow.Author.Tests.{eqb-true, eq-eqb, ne_eqb}
use Rattle.text.specs.Bytes.{bytes}
use Rattle.text.specs.Decimal.{decimal}
use Rattle.scan.specs.declared.Scan.{Scan}
use Rattle.scan.specs.Scan.{digit_at, read_text}
use Rattle.fields.specs.Fields.{comma, crlf, read_field, read_name, read_end, read_header, read_stamp, read_rest}
use Rattle.csv_log.specs.declared.LogItem.{LogItem}
use Rattle.csv_log.specs.Log.{in_three, log_item}
use Rattle.csv_log.specs.Reading.{rest_at, record_at, after_record}
use Rattle.files.specs.Files.{Quotes, field, three_fields, header_fields, record_fields}
use Rattle.scan.proofs.Laws.{never, digit_past}
use Rattle.scan.proofs.Here.{Here, here_split, here_join}
use Rattle.scan.proofs.Number.{done}
use Rattle.scan.proofs.Reading.{text_sound, text_complete, no_digit, text_step, text_back}
use Rattle.files.proofs.Fields.{Reads, FieldRead, NameRead, field_complete, name_complete, field_sound, name_sound}

-- ---- the end of a record

-- CR LF, or nothing
abbrev pub closing : Bool → List ℕ
closing more = cond more crlf []

-- what stands after the fields of a record: nothing at the end of the text alone
unfoldable pub Closes : List ℕ → ℕ → Bool → Type 0
Closes s at more = Here s at (closing more) × (more ≡ false → at ≡ length s)

-- no digit stands there
closes_digit : (s : List ℕ) (at : ℕ) (more : Bool) → Closes s at more → digit_at s at ≡ 10
unfolding Closes
closes_digit s at true h = no_digit s (10 ∷ []) at 13 (omega arith) h.0
closes_digit s at false h = digit_past s at (omega (arith, h.1 refl))

pub end_complete : (s : List ℕ) (at a b : ℕ) (more : Bool) → Closes s at more → read_end s (done at a b) ≡ done (at + length (closing more)) a b
unfolding read_end Closes Here
end_complete s at a b true h = rw (ne_eqb at (length s) (λ e. omega (arith, h.0.0))) (text_complete s crlf at a b h.0)
end_complete s at a b false h =
    let z : at ≡ at + 0 = omega arith in
    rw (eq-eqb at (length s) (h.1 refl)) (ap (λ (p : ℕ). done p a b) z)

-- a scan that has not failed has read up to its place
done_at : (c : Scan) (at : ℕ) → c.ok ≡ true → c.at ≡ at → c ≡ done at c.earlier c.latest
done_at c at k e = ap₂ {C = Scan} (λ (ok : Bool) (p : ℕ). record { ok = ok; at = p; earlier = c.earlier; latest = c.latest }) k e

-- the end of a record was read
unfoldable pub EndRead : List ℕ → Scan → Scan → Type 0
EndRead s c r = (more : Bool) × Closes s c.at more × (r ≡ done (c.at + length (closing more)) c.earlier c.latest)

pub end_sound : (s : List ℕ) (c : Scan) → (read_end s c).ok ≡ true → (c.ok ≡ true) × EndRead s c (read_end s c)
unfolding read_end EndRead Closes Here
end_sound s c k = go (eqb c.at (length s)) refl k
  where
    go : (b : Bool) → eqb c.at (length s) ≡ b → (cond b c (read_text s crlf c)).ok ≡ true → (c.ok ≡ true) × EndRead s c (cond b c (read_text s crlf c))
    go true e k =
        let z : c.at ≡ length s = eqb-true _ _ e in
        let y : c.at ≡ c.at + 0 = omega arith in
        (k, (false, ((omega arith, λ i l. absurd (omega arith)), λ _. z), done_at c (c.at + 0) k y))
    go false e k = let r = text_sound s crlf c k in (r.0, (true, (r.1, λ z. never (sym z)), r.2))

-- ---- three fields with commas between them

-- the text t is read, and u is written next
reads_step : (s t u : List ℕ) (read : Scan → Scan) (at a b c d : ℕ) → Reads s read u a b c d → Here s (at + length t) u
    → digit_at s (at + length (t ++ u)) ≡ 10 → read (done (at + length t) a b) ≡ done (at + length (t ++ u)) c d
reads_step s t u read at a b c d r h z =
    let v = length-append t u in
    let q : at + length t + length u ≡ at + length (t ++ u) = omega arith in
    r (at + length t) h (rw q z) ∙ ap (λ (p : ℕ). done p c d) q

-- readers one after another, each over its own text, read the three
three_complete : (s t u v : List ℕ) (first second third : Scan → Scan) (at a b c d e f g h : ℕ)
    → Reads s first t a b c d → Reads s second u c d e f → Reads s third v e f g h
    → Here s at (t ++ comma ++ u ++ comma ++ v) → digit_at s (at + length (t ++ comma ++ u ++ comma ++ v)) ≡ 10
    → third (read_text s comma (second (read_text s comma (first (done at a b))))) ≡ done (at + length (t ++ comma ++ u ++ comma ++ v)) g h
three_complete s t u v first second third at a b c d e f g h r1 r2 r3 w z =
    let w4 = here_split s (t ++ comma ++ u ++ comma) v at w in
    let w3 = here_split s (t ++ comma ++ u) comma at w4.0 in
    let w2 = here_split s (t ++ comma) u at w3.0 in
    let w1 = here_split s t comma at w2.0 in
    rw (
      r1 at w1.0 (no_digit s [] _ 44 (omega arith) w1.1),
      text_step s t comma at c d w1.1,
      reads_step s (t ++ comma) u second at c d e f r2 w2.1 (no_digit s [] _ 44 (omega arith) w3.1),
      text_step s (t ++ comma ++ u) comma at e f w3.1,
      reads_step s (t ++ comma ++ u ++ comma) v third at e f g h r3 w4.1 z,
    )

-- ---- what is written is read

-- a record that was read: its numbers, and where the next one begins
record_done : (s : List ℕ) (at next stamp lane word : ℕ) → (read_stamp s at).latest ≡ stamp → rest_at s at ≡ done next lane word
    → (record_at s at ≡ in_three (log_item stamp lane word)) × (after_record s at ≡ next)
unfolding record_at after_record
record_done s at next stamp lane word e r = (rw (r, e), rw r)

pub header_complete : (s : List ℕ) (q : Quotes) (more : Bool) → Here s 0 (header_fields q) → Closes s (0 + length (header_fields q)) more
    → read_header s ≡ done (0 + length (header_fields q) + length (closing more)) 0 0
unfolding read_header three_fields
header_complete s q more h z =
    let r = three_complete s (field q.first (bytes "stamp")) (field q.second (bytes "lane")) (field q.third (bytes "word"))
    (read_name s (bytes "stamp")) (read_name s (bytes "lane")) (read_name s (bytes "word")) 0 0 0 0 0 0 0 0 0
    (name_complete s (bytes "stamp") 0 0 q.first (omega arith, λ e. omega arith))
    (name_complete s (bytes "lane") 0 0 q.second (omega arith, λ e. omega arith))
    (name_complete s (bytes "word") 0 0 q.third (omega arith, λ e. omega arith))
    h (closes_digit s _ more z) in
    rw r (end_complete s _ 0 0 more z)

-- numbers that a numeral of five digits can say
unfoldable pub Short : LogItem → Type 0
Short x = (x.stamp < 100000) × (x.lane < 100000) × (x.word < 100000)

abbrev pub after_fields : ℕ → Quotes → LogItem → ℕ
after_fields at q x = at + length (record_fields q x)

pub record_complete : (s : List ℕ) (at : ℕ) (q : Quotes) (x : LogItem) (more : Bool) → Short x → Here s at (record_fields q x)
    → Closes s (after_fields at q x) more
    → (record_at s at ≡ in_three x) × (after_record s at ≡ after_fields at q x + length (closing more))
unfolding read_stamp read_rest three_fields Short
record_complete s at q x more l h z =
    let t = field q.first (decimal x.stamp) in
    let u = field q.second (decimal x.lane) in
    let v = field q.third (decimal x.word) in
    let r1 = field_complete s 0 0 q.first x.stamp l.0 in
    let r2 = field_complete s 0 x.stamp q.second x.lane l.1 in
    let r3 = field_complete s x.stamp x.lane q.third x.word l.2 in
    let w = here_split s t comma at (here_split s (t ++ comma) u at (here_split s (t ++ comma ++ u) comma at (here_split s (t ++ comma ++ u ++ comma) v at h).0).0).0 in
    let stamp : read_field s (done at 0 0) ≡ done (at + length t) 0 x.stamp = r1 at w.0 (no_digit s [] _ 44 (omega arith) w.1) in
    let three = three_complete s t u v (read_field s) (read_field s) (read_field s) at 0 0 0 x.stamp x.stamp x.lane x.lane x.word
    r1 r2 r3 h (closes_digit s _ more z) in
    record_done s at (after_fields at q x + length (closing more)) x.stamp x.lane x.word
    (ap (λ (c : Scan). c.latest) stamp) (rw three (end_complete s (after_fields at q x) x.lane x.word more z))

-- ---- what is read is written there

-- the text t was read: a field is read next
field_back : (s t : List ℕ) (at a b : ℕ) (c : Scan) → c ≡ done (at + length t) a b → Here s at t → (read_field s c).ok ≡ true
    → (q : Bool) × (n : ℕ) × Here s at (t ++ field q (decimal n)) × (read_field s c ≡ done (at + length (t ++ field q (decimal n))) b n)
unfolding FieldRead
field_back s t at a b c e h k =
    let r = (field_sound s (done (at + length t) a b) (rw e at k)).1 in
    let u = field r.0 (decimal r.1) in
    let v = length-append t u in
    let q : at + length t + length u ≡ at + length (t ++ u) = omega arith in
    (r.0, r.1, here_join s t u at h r.3, rw e (r.4 ∙ ap (λ (p : ℕ). done p b r.1) q))

name_back : (s name t : List ℕ) (at a b : ℕ) (c : Scan) → c ≡ done (at + length t) a b → Here s at t → (read_name s name c).ok ≡ true
    → (q : Bool) × Here s at (t ++ field q name) × (read_name s name c ≡ done (at + length (t ++ field q name)) a b)
unfolding NameRead
name_back s name t at a b c e h k =
    let r = (name_sound s name (done (at + length t) a b) (rw e at k)).1 in
    let u = field r.0 name in
    let v = length-append t u in
    let q : at + length t + length u ≡ at + length (t ++ u) = omega arith in
    (r.0, here_join s t u at h r.1, rw e (r.2 ∙ ap (λ (p : ℕ). done p a b) q))

end_back : (s : List ℕ) (at a b : ℕ) (c : Scan) → c ≡ done at a b → (read_end s c).ok ≡ true
    → (more : Bool) × Closes s at more × (read_end s c ≡ done (at + length (closing more)) a b)
unfolding EndRead
end_back s at a b c e k = rw e (end_sound s (done at a b) (rw e at k)).1

pub header_sound : (s : List ℕ) → (read_header s).ok ≡ true
    → (q : Quotes) × (more : Bool) × Here s 0 (header_fields q) × Closes s (0 + length (header_fields q)) more
    × (read_header s ≡ done (0 + length (header_fields q) + length (closing more)) 0 0)
unfolding read_header three_fields NameRead
header_sound s k =
    let c1 = read_name s (bytes "stamp") (done 0 0 0) in
    let c2 = read_text s comma c1 in
    let c3 = read_name s (bytes "lane") c2 in
    let c4 = read_text s comma c3 in
    let c5 = read_name s (bytes "word") c4 in
    let k5 = (end_sound s c5 k).0 in
    let k4 = (name_sound s (bytes "word") c4 k5).0 in
    let k3 = (text_sound s comma c3 k4).0 in
    let k2 = (name_sound s (bytes "lane") c2 k3).0 in
    let k1 = (text_sound s comma c1 k2).0 in
    let r1 = (name_sound s (bytes "stamp") (done 0 0 0) k1).1 in
    let t1 = field r1.0 (bytes "stamp") in
    let r2 = text_back s t1 comma 0 0 0 c1 r1.2 r1.1 k2 in
    let r3 = name_back s (bytes "lane") (t1 ++ comma) 0 0 0 c2 r2.1 r2.0 k3 in
    let t3 = t1 ++ comma ++ field r3.0 (bytes "lane") in
    let r4 = text_back s t3 comma 0 0 0 c3 r3.2 r3.1 k4 in
    let r5 = name_back s (bytes "word") (t3 ++ comma) 0 0 0 c4 r4.1 r4.0 k5 in
    let r6 = end_back s (0 + length (t3 ++ comma ++ field r5.0 (bytes "word"))) 0 0 c5 r5.2 k in
    (record { first = r1.0; second = r3.0; third = r5.0 }, r6.0, r5.1, r6.1, r6.2)

pub record_sound : (s : List ℕ) (at : ℕ) → (rest_at s at).ok ≡ true
    → (q : Quotes) × (x : LogItem) × (more : Bool) × Here s at (record_fields q x) × Closes s (after_fields at q x) more
    × (record_at s at ≡ in_three x) × (after_record s at ≡ after_fields at q x + length (closing more))
unfolding read_stamp read_rest three_fields FieldRead
record_sound s at k =
    let c1 = read_field s (done at 0 0) in
    let c2 = read_text s comma c1 in
    let c3 = read_field s c2 in
    let c4 = read_text s comma c3 in
    let c5 = read_field s c4 in
    let k5 = (end_sound s c5 k).0 in
    let k4 = (field_sound s c4 k5).0 in
    let k3 = (text_sound s comma c3 k4).0 in
    let k2 = (field_sound s c2 k3).0 in
    let k1 = (text_sound s comma c1 k2).0 in
    let r1 = (field_sound s (done at 0 0) k1).1 in
    let t1 = field r1.0 (decimal r1.1) in
    let r2 = text_back s t1 comma at 0 r1.1 c1 r1.4 r1.3 k2 in
    let r3 = field_back s (t1 ++ comma) at 0 r1.1 c2 r2.1 r2.0 k3 in
    let t3 = t1 ++ comma ++ field r3.0 (decimal r3.1) in
    let r4 = text_back s t3 comma at r1.1 r3.1 c3 r3.3 r3.2 k4 in
    let r5 = field_back s (t3 ++ comma) at r1.1 r3.1 c4 r4.1 r4.0 k5 in
    let r6 = end_back s (at + length (t3 ++ comma ++ field r5.0 (decimal r5.1))) r3.1 r5.1 c5 r5.3 k in
    let d = record_done s at (at + length (t3 ++ comma ++ field r5.0 (decimal r5.1)) + length (closing r6.0)) r1.1 r3.1 r5.1
    (ap (λ (c : Scan). c.latest) r1.4) r6.2 in
    (record { first = r1.0; second = r3.0; third = r5.0 }, log_item r1.1 r3.1 r5.1, r6.0, r5.2, r6.1, d.0, d.1)
