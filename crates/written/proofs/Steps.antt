-- Each step that is written is read as that step. Assumes nothing.
use mathlib.Core.Path.{◌≡◌, refl, sym, ◌∙◌}
use mathlib.Core.Bool.{Bool, true, false}
use mathlib.Core.List.{List, [], ◌∷◌}
use Prim.Native.Nat.{ℕ, ◌+◌, ◌<◌}
use native.Mathlib.Omega.{arith}
use lib.Dec.{eqb}
use lib.ListN.{length, get_or}
use borrow.Author.Tests.{eq-eqb, ne_eqb, le-ltb}
use Rattle.text.specs.Bytes.{bytes}
use Rattle.scan.specs.declared.Scan.{Scan}
use Rattle.lines.specs.Line.{Order, Hear, Beacon, Roll}
use Rattle.scan.specs.Scan.{read_text, read_number, start_at}
use Rattle.lines.specs.Forms.{Item, text, number, read_items, read_form, order_form, hear_form, beacon_form, roll_form}
use Rattle.lines.specs.Lines.{line_at, hear_or, beacon_or, roll_or, yard_or, order_line, hear_line, beacon_line, roll_line, step_line_refusal}
use Rattle.scan.proofs.Here.{Here, here_at}
use Rattle.scan.proofs.Number.{done, number_sound}
use Rattle.scan.proofs.Reading.{text_sound, text_complete}
use Rattle.written.proofs.Forms.{text1, text2, one_complete, two_complete}

-- ---- a line has one form

-- a scan that failed stays so
all_ok : (s : List ℕ) (is : List Item) (c : Scan) → (read_items s is c).ok ≡ true → c.ok ≡ true
all_ok s [] c h = h
all_ok s (text t ∷ is) c h = (text_sound s t c (all_ok s is (read_text s t c) h)).0
all_ok s (number ∷ is) c h = (number_sound s c (all_ok s is (read_number s c) h)).0

-- a line with another second byte has another form
other : (s u : List ℕ) (is : List Item) (at x y b : ℕ) → eqb x y ≡ false → get_or s (at + 1) 0 ≡ x → (read_form s (text (b ∷ y ∷ u) ∷ is) at).ok ≡ false
other s u is at x y b n p = go (read_form s (text (b ∷ y ∷ u) ∷ is) at).ok refl
  where
    go : (k : Bool) → (read_form s (text (b ∷ y ∷ u) ∷ is) at).ok ≡ k → k ≡ false
    go false e = refl
    go true e =
        let r = (text_sound s (b ∷ y ∷ u) (start_at at) (all_ok s is (read_text s (b ∷ y ∷ u) (start_at at)) e)).1 in
        let q : get_or s (at + 1) 0 ≡ y = here_at s (b ∷ y ∷ u) at 1 r (omega arith) in
        sym (eq-eqb x y (sym p ∙ q)) ∙ n

rest2 : List Item
rest2 = number ∷ text (bytes " ") ∷ number ∷ text (bytes ")\n") ∷ []

not_order : (s : List ℕ) (at x : ℕ) → eqb x 111 ≡ false → get_or s (at + 1) 0 ≡ x → (read_form s order_form at).ok ≡ false
unfolding rest2
not_order s at x n p = other s (bytes "rder ") rest2 at x 111 40 n p

not_hear : (s : List ℕ) (at x : ℕ) → eqb x 104 ≡ false → get_or s (at + 1) 0 ≡ x → (read_form s hear_form at).ok ≡ false
unfolding rest2
not_hear s at x n p = other s (bytes "ear ") rest2 at x 104 40 n p

not_beacon : (s : List ℕ) (at x : ℕ) → eqb x 98 ≡ false → get_or s (at + 1) 0 ≡ x → (read_form s beacon_form at).ok ≡ false
not_beacon s at x n p = other s (bytes "eacon ") (number ∷ text (bytes ")\n") ∷ []) at x 98 40 n p

not_roll : (s : List ℕ) (at x : ℕ) → eqb x 114 ≡ false → get_or s (at + 1) 0 ≡ x → (read_form s roll_form at).ok ≡ false
not_roll s at x n p = other s (bytes "oll)\n") [] at x 114 40 n p

-- ---- each step

pub order_complete : (s : List ℕ) (at lane word : ℕ) → 0 < at → lane < 8 → word < 65536 → Here s at (text2 (bytes "(order ") lane word)
    → line_at s at ≡ Order lane word (at + length (text2 (bytes "(order ") lane word))
unfolding line_at order_line step_line_refusal
order_complete s at lane word p l k h =
    let r : read_form s order_form at ≡ done (at + length (text2 (bytes "(order ") lane word)) lane word =
    two_complete s (bytes "(order ") at lane word (omega arith) (omega arith) h in
    rw (r, ne_eqb at 0 (λ q. omega arith), le-ltb 7 lane (omega arith), le-ltb 65535 word (omega arith))

pub hear_complete : (s : List ℕ) (at lane frame : ℕ) → 0 < at → lane < 8 → frame < 100000 → Here s at (text2 (bytes "(hear ") lane frame)
    → line_at s at ≡ Hear lane frame (at + length (text2 (bytes "(hear ") lane frame))
unfolding line_at hear_or hear_line step_line_refusal
hear_complete s at lane frame p l k h =
    let x : get_or s (at + 1) 0 ≡ 104 = here_at s (text2 (bytes "(hear ") lane frame) at 1 h (omega arith) in
    let r : read_form s hear_form at ≡ done (at + length (text2 (bytes "(hear ") lane frame)) lane frame =
    two_complete s (bytes "(hear ") at lane frame (omega arith) k h in
    rw (not_order s at 104 refl x, r, ne_eqb at 0 (λ q. omega arith), le-ltb 7 lane (omega arith))

pub beacon_complete : (s : List ℕ) (at lane : ℕ) → 0 < at → lane < 8 → Here s at (text1 (bytes "(beacon ") lane)
    → line_at s at ≡ Beacon lane (at + length (text1 (bytes "(beacon ") lane))
unfolding line_at hear_or beacon_or beacon_line step_line_refusal
beacon_complete s at lane p l h =
    let x : get_or s (at + 1) 0 ≡ 98 = here_at s (text1 (bytes "(beacon ") lane) at 1 h (omega arith) in
    let r : read_form s beacon_form at ≡ done (at + length (text1 (bytes "(beacon ") lane)) 0 lane =
    one_complete s (bytes "(beacon ") at lane (omega arith) h in
    rw (not_order s at 98 refl x, not_hear s at 98 refl x, r, ne_eqb at 0 (λ q. omega arith), le-ltb 7 lane (omega arith))

pub roll_complete : (s : List ℕ) (at : ℕ) → 0 < at → Here s at (bytes "(roll)\n") → line_at s at ≡ Roll (at + length (bytes "(roll)\n"))
unfolding line_at hear_or beacon_or roll_or roll_line step_line_refusal
roll_complete s at p h =
    let x : get_or s (at + 1) 0 ≡ 114 = here_at s (bytes "(roll)\n") at 1 h (omega arith) in
    let r : read_form s roll_form at ≡ done (at + length (bytes "(roll)\n")) 0 0 = text_complete s (bytes "(roll)\n") at 0 0 h in
    rw (not_order s at 114 refl x, not_hear s at 114 refl x, not_beacon s at 114 refl x, r, ne_eqb at 0 (λ q. omega arith))

-- a line whose second byte is that of `(yard` is no step
pub yard_only : (s : List ℕ) (at : ℕ) → get_or s (at + 1) 0 ≡ 121 → line_at s at ≡ yard_or s at
unfolding line_at hear_or beacon_or roll_or
yard_only s at x = rw (not_order s at 121 refl x, not_hear s at 121 refl x, not_beacon s at 121 refl x, not_roll s at 121 refl x)
