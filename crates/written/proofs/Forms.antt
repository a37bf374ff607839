-- The reader of a form accepts exactly the texts that are written in that form. Assumes nothing.
use mathlib.Core.Path.{◌≡◌}
use mathlib.Core.Bool.{true}
use mathlib.Core.List.{List, [], ◌∷◌, ◌++◌}
use Prim.Native.Nat.{ℕ, ◌+◌, ◌<◌}
use native.Mathlib.Omega.{arith}
use lib.ListN.{length}
use Rattle.text.specs.Bytes.{bytes}
use Rattle.text.specs.Decimal.{decimal}
use Rattle.scan.specs.Scan.{read_text, read_number}
use Rattle.lines.specs.Forms.{Item, text, number, read_form}
use Rattle.scan.proofs.Here.{Here, here_split}
use Rattle.scan.proofs.Number.{done, number_sound}
use Rattle.scan.proofs.Reading.{text_sound, text_complete, no_digit, text_step, number_step, text_back, number_back}

-- a word and two numbers
abbrev pub form2 : List ℕ → List Item
form2 w = text w ∷ number ∷ text (bytes " ") ∷ number ∷ text (bytes ")\n") ∷ []

abbrev pub text2 : List ℕ → ℕ → ℕ → List ℕ
text2 w a b = w ++ decimal a ++ bytes " " ++ decimal b ++ bytes ")\n"

pub two_complete : (s w : List ℕ) (at a b : ℕ) → a < 100000 → b < 100000 → Here s at (text2 w a b) → read_form s (form2 w) at ≡ done (at + length (text2 w a b)) a b
two_complete s w at a b la lb h =
    let h5 = here_split s (w ++ decimal a ++ bytes " " ++ decimal b) (bytes ")\n") at h in
    let h4 = here_split s (w ++ decimal a ++ bytes " ") (decimal b) at h5.0 in
    let h3 = here_split s (w ++ decimal a) (bytes " ") at h4.0 in
    let h2 = here_split s w (decimal a) at h3.0 in
    rw (
      text_complete s w at 0 0 h2.0,
      number_step s w at 0 0 a la h2.1 (no_digit s _ _ 32 (omega arith) h3.1),
      text_step s (w ++ decimal a) (bytes " ") at 0 a h3.1,
      number_step s (w ++ decimal a ++ bytes " ") at 0 a b lb h4.1 (no_digit s _ _ 41 (omega arith) h5.1),
      text_step s (w ++ decimal a ++ bytes " " ++ decimal b) (bytes ")\n") at a b h5.1,
    )

pub two_sound : (s w : List ℕ) (at : ℕ) → (read_form s (form2 w) at).ok ≡ true
    → (a : ℕ) × (b : ℕ) × (a < 100000) × (b < 100000) × Here s at (text2 w a b) × (read_form s (form2 w) at ≡ done (at + length (text2 w a b)) a b)
two_sound s w at k =
    let c1 = read_text s w (done at 0 0) in
    let c2 = read_number s c1 in
    let c3 = read_text s (bytes " ") c2 in
    let c4 = read_number s c3 in
    let k4 = (text_sound s (bytes ")\n") c4 k).0 in
    let k3 = (number_sound s c3 k4).0 in
    let k2 = (text_sound s (bytes " ") c2 k3).0 in
    let k1 = (number_sound s c1 k2).0 in
    let r1 = text_sound s w (done at 0 0) k1 in
    let r2 = number_back s w at 0 0 c1 r1.2 r1.1 k2 in
    let r3 = text_back s (w ++ decimal r2.0) (bytes " ") at 0 r2.0 c2 r2.3 r2.2 k3 in
    let r4 = number_back s (w ++ decimal r2.0 ++ bytes " ") at 0 r2.0 c3 r3.1 r3.0 k4 in
    let r5 = text_back s (w ++ decimal r2.0 ++ bytes " " ++ decimal r4.0) (bytes ")\n") at r2.0 r4.0 c4 r4.3 r4.2 k in
    (r2.0, r4.0, r2.1, r4.1, r5.0, r5.1)

-- a word and a number
abbrev pub form1 : List ℕ → List Item
form1 w = text w ∷ number ∷ text (bytes ")\n") ∷ []

abbrev pub text1 : List ℕ → ℕ → List ℕ
text1 w a = w ++ decimal a ++ bytes ")\n"

pub one_complete : (s w : List ℕ) (at a : ℕ) → a < 100000 → Here s at (text1 w a) → read_form s (form1 w) at ≡ done (at + length (text1 w a)) 0 a
one_complete s w at a la h =
    let h3 = here_split s (w ++ decimal a) (bytes ")\n") at h in
    let h2 = here_split s w (decimal a) at h3.0 in
    rw (
      text_complete s w at 0 0 h2.0,
      number_step s w at 0 0 a la h2.1 (no_digit s _ _ 41 (omega arith) h3.1),
      text_step s (w ++ decimal a) (bytes ")\n") at 0 a h3.1,
    )

pub one_sound : (s w : List ℕ) (at : ℕ) → (read_form s (form1 w) at).ok ≡ true
    → (a : ℕ) × (a < 100000) × Here s at (text1 w a) × (read_form s (form1 w) at ≡ done (at + length (text1 w a)) 0 a)
one_sound s w at k =
    let c1 = read_text s w (done at 0 0) in
    let c2 = read_number s c1 in
    let k2 = (text_sound s (bytes ")\n") c2 k).0 in
    let k1 = (number_sound s c1 k2).0 in
    let r1 = text_sound s w (done at 0 0) k1 in
    let r2 = number_back s w at 0 0 c1 r1.2 r1.1 k2 in
    let r3 = text_back s (w ++ decimal r2.0) (bytes ")\n") at 0 r2.0 c2 r2.3 r2.2 k in
    (r2.0, r2.1, r3.0, r3.1)
