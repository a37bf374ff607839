-- The letter after a line's `(` leaves one form, and a role's first letter one role. Assumes nothing.
use mathlib.Core.Path.{◌≡◌, refl}
use mathlib.Core.Bool.{Bool, false, cond}
use mathlib.Core.List.{List, [], ◌∷◌}
use Prim.Native.Nat.{ℕ, zero, suc, ◌+◌, ◌<◌}
use native.Mathlib.Omega.{arith}
use lib.ListN.{length, get_or}
use Rattle.text.specs.Bytes.{bytes}
use Rattle.scan.specs.Scan.{stands, start_at, failed, read_text, first_digit, next_digit, read_number}
use Rattle.lines.specs.Forms.{Item, text, number, order_form, hear_form, beacon_form, roll_form, read_items, read_form, or_role, read_role, posts_read, no_posts, read_yard}
use Rattle.lines.specs.Lines.{order_line, hear_line, beacon_line, roll_line, yard_or, roll_or, beacon_or, hear_or, line_at}
use Rattle.scan.specs.declared.Scan.{Scan}
use Rattle.lines.specs.declared.YardScan.{YardScan}
use Rattle.lines.specs.Line.{Line, Refused}
use Rattle.scan.proofs.TextLaws.{and_no, stands_not, text_off}

-- ---- a form whose first text does not stand is not read

first_off : (s : List ℕ) (c : Scan) → c.ok ≡ false → (first_digit s c).ok ≡ false
unfolding first_digit
first_off s c h = rw h

next_off : (s : List ℕ) (c : Scan) → c.ok ≡ false → (next_digit s c).ok ≡ false
unfolding next_digit
next_off s c h = rw h

number_off : (s : List ℕ) (c : Scan) → c.ok ≡ false → (read_number s c).ok ≡ false
unfolding read_number
number_off s c h = next_off s _ (next_off s _ (next_off s _ (next_off s _ (first_off s c h))))

items_off : (s : List ℕ) (is : List Item) (c : Scan) → c.ok ≡ false → (read_items s is c).ok ≡ false
items_off s [] c h = h
items_off s (text t ∷ is) c h = items_off s is _ (text_off s t c (rw h))
items_off s (number ∷ is) c h = items_off s is _ (number_off s c h)

-- the letter after `(`
abbrev letter : List ℕ → ℕ → ℕ
letter s at = get_or s (at + 1) 0

-- the text that a form begins with
abbrev opening : List Item → List ℕ
opening [] = []
opening (text t ∷ is) = t
opening (number ∷ is) = []

form_off : (s : List ℕ) (form : List Item) (at : ℕ) → 1 < length (opening form) → (letter s at ≡ get_or (opening form) 1 0 → ⊥)
    → (read_form s form at).ok ≡ false
form_off s [] at l n = absurd (omega arith)
form_off s (text t ∷ is) at l n = items_off s is _ (text_off s t (start_at at) (stands_not s t at 1 (at + 1) refl l n))
form_off s (number ∷ is) at l n = absurd (omega arith)

posts_off : (s : List ℕ) (y : YardScan) (n : ℕ) → y.ok ≡ false → (posts_read s y n).ok ≡ false
unfolding posts_read
posts_off s y zero h = h
posts_off s y (suc n) h = rw h

yard_off : (s : List ℕ) (at : ℕ) → (letter s at ≡ 121 → ⊥) → (read_yard s at).ok ≡ false
unfolding read_yard
yard_off s at n =
    let e = text_off s (bytes "(yard") (start_at at) (stands_not s (bytes "(yard") at 1 (at + 1) refl (omega arith) n) in
    text_off s (bytes ")\n") _ (rw (posts_off s (no_posts (read_text s (bytes "(yard") (start_at at))) (length s) e))

-- ---- the line with each letter

skip : (t : Bool) (a b r : Line) → t ≡ false → r ≡ b → r ≡ cond t a b
skip t a b r h q = rw h q

module _ (s : List ℕ) (at : ℕ) where
  no_yard : (letter s at ≡ 121 → ⊥) → Refused 2 ≡ yard_or s at
  unfolding yard_or
  no_yard y = skip _ _ _ _ (yard_off s at y) refl

  no_roll : (letter s at ≡ 114 → ⊥) → (letter s at ≡ 121 → ⊥) → Refused 2 ≡ roll_or s at
  unfolding roll_or
  no_roll r y = skip _ _ _ _ (form_off s roll_form at (omega arith) r) (no_yard y)

  no_beacon : (letter s at ≡ 98 → ⊥) → (letter s at ≡ 114 → ⊥) → (letter s at ≡ 121 → ⊥) → Refused 2 ≡ beacon_or s at
  unfolding beacon_or
  no_beacon b r y = skip _ _ _ _ (form_off s beacon_form at (omega arith) b) (no_roll r y)

  no_hear : (letter s at ≡ 104 → ⊥) → (letter s at ≡ 98 → ⊥) → (letter s at ≡ 114 → ⊥) → (letter s at ≡ 121 → ⊥) → Refused 2 ≡ hear_or s at
  unfolding hear_or
  no_hear h b r y = skip _ _ _ _ (form_off s hear_form at (omega arith) h) (no_beacon b r y)

  -- with one letter, one form or refusal 2
  pub line_order : (r : Line) → letter s at ≡ 111 → r ≡ cond (read_form s order_form at).ok (order_line at (read_form s order_form at)) (Refused 2)
      → r ≡ line_at s at
  unfolding line_at
  line_order r e q = rw (← no_hear (λ z. omega arith) (λ z. omega arith) (λ z. omega arith) (λ z. omega arith)) q

  pub line_hear : (r : Line) → letter s at ≡ 104 → r ≡ cond (read_form s hear_form at).ok (hear_line at (read_form s hear_form at)) (Refused 2)
      → r ≡ line_at s at
  unfolding line_at hear_or
  line_hear r e q =
      skip _ _ _ _ (form_off s order_form at (omega arith) (λ z. omega arith))
      (rw (← no_beacon (λ z. omega arith) (λ z. omega arith) (λ z. omega arith)) q)

  pub line_beacon : (r : Line) → letter s at ≡ 98 → r ≡ cond (read_form s beacon_form at).ok (beacon_line at (read_form s beacon_form at)) (Refused 2)
      → r ≡ line_at s at
  unfolding line_at hear_or beacon_or
  line_beacon r e q =
      skip _ _ _ _ (form_off s order_form at (omega arith) (λ z. omega arith))
      (skip _ _ _ _ (form_off s hear_form at (omega arith) (λ z. omega arith))
      (rw (← no_roll (λ z. omega arith) (λ z. omega arith)) q))

  pub line_roll : (r : Line) → letter s at ≡ 114 → r ≡ cond (read_form s roll_form at).ok (roll_line at (read_form s roll_form at)) (Refused 2)
      → r ≡ line_at s at
  unfolding line_at hear_or beacon_or roll_or
  line_roll r e q =
      skip _ _ _ _ (form_off s order_form at (omega arith) (λ z. omega arith))
      (skip _ _ _ _ (form_off s hear_form at (omega arith) (λ z. omega arith))
      (skip _ _ _ _ (form_off s beacon_form at (omega arith) (λ z. omega arith))
      (rw (← no_yard (λ z. omega arith)) q)))

  pub line_yard : (r : Line) → letter s at ≡ 121 → r ≡ yard_or s at → r ≡ line_at s at
  unfolding line_at hear_or beacon_or roll_or
  line_yard r e q =
      skip _ _ _ _ (form_off s order_form at (omega arith) (λ z. omega arith))
      (skip _ _ _ _ (form_off s hear_form at (omega arith) (λ z. omega arith))
      (skip _ _ _ _ (form_off s beacon_form at (omega arith) (λ z. omega arith))
      (skip _ _ _ _ (form_off s roll_form at (omega arith) (λ z. omega arith)) q)))

  pub line_none : (letter s at ≡ 111 → ⊥) → (letter s at ≡ 104 → ⊥) → (letter s at ≡ 98 → ⊥) → (letter s at ≡ 114 → ⊥) → (letter s at ≡ 121 → ⊥)
      → Refused 2 ≡ line_at s at
  unfolding line_at
  line_none o h b r y = skip _ _ _ _ (form_off s order_form at (omega arith) o) (no_hear h b r y)

-- ---- a role's first letter

role_off : (s name : List ℕ) (role : ℕ) (c other : Scan) → 0 < length name → (get_or s c.at 0 ≡ get_or name 0 0 → ⊥)
    → or_role s name role c other ≡ other
unfolding or_role
role_off s name role c other l n =
    let t : stands s c.at name ≡ false = stands_not s name c.at 0 c.at (omega arith) l n in
    rw (text_off s name c (rw t (and_no c.ok)))

module _ (s : List ℕ) (c : Scan) where
  abbrev first : ℕ
  first = get_or s c.at 0

  relay_off : (first ≡ 114 → ⊥) → or_role s (bytes "relay") 0 c (failed c) ≡ failed c
  relay_off n = role_off s (bytes "relay") 0 c _ (omega arith) n

  both_off : (first ≡ 98 → ⊥) → (other : Scan) → or_role s (bytes "both") 3 c other ≡ other
  both_off n other = role_off s (bytes "both") 3 c other (omega arith) n

  dest_off : (first ≡ 100 → ⊥) → (other : Scan) → or_role s (bytes "dest") 2 c other ≡ other
  dest_off n other = role_off s (bytes "dest") 2 c other (omega arith) n

  source_off : (first ≡ 115 → ⊥) → (other : Scan) → or_role s (bytes "source") 1 c other ≡ other
  source_off n other = role_off s (bytes "source") 1 c other (omega arith) n

  pub role_source : (r : Scan) → first ≡ 115 → r ≡ or_role s (bytes "source") 1 c (failed c) → r ≡ read_role s c
  unfolding read_role
  role_source r e q = rw (dest_off (λ z. omega arith), both_off (λ z. omega arith), relay_off (λ z. omega arith)) q

  pub role_dest : (r : Scan) → first ≡ 100 → r ≡ or_role s (bytes "dest") 2 c (failed c) → r ≡ read_role s c
  unfolding read_role
  role_dest r e q = rw (source_off (λ z. omega arith), both_off (λ z. omega arith), relay_off (λ z. omega arith)) q

  pub role_both : (r : Scan) → first ≡ 98 → r ≡ or_role s (bytes "both") 3 c (failed c) → r ≡ read_role s c
  unfolding read_role
  role_both r e q = rw (source_off (λ z. omega arith), dest_off (λ z. omega arith), relay_off (λ z. omega arith)) q

  pub role_relay : (r : Scan) → first ≡ 114 → r ≡ or_role s (bytes "relay") 0 c (failed c) → r ≡ read_role s c
  unfolding read_role
  role_relay r e q = rw (source_off (λ z. omega arith), dest_off (λ z. omega arith), both_off (λ z. omega arith)) q

  pub role_none : (r : Scan) → (first ≡ 115 → ⊥) → (first ≡ 100 → ⊥) → (first ≡ 98 → ⊥) → (first ≡ 114 → ⊥) → r ≡ failed c → r ≡ read_role s c
  unfolding read_role
  role_none r so de bo re q = rw (source_off so, dest_off de, both_off bo, relay_off re) q
