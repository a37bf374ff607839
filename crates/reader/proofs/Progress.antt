-- A line that is read ends further on, and not past the end of the text. Assumes nothing.
use mathlib.Core.Path.{◌≡◌}
use mathlib.Core.Bool.{true, ◌&&◌}
use mathlib.Core.List.{List}
use Prim.Native.Nat.{ℕ, zero, suc, ◌+◌, ◌<◌, ◌≤◌}
use native.Mathlib.Omega.{arith}
use lib.ListN.{length}
use lib.Dec.{ltb, eqb}
use Rattle.text.specs.Bytes.{bytes}
use Rattle.scan.specs.Scan.{stands, digit_at, start_at, read_text, first_digit, next_digit, read_number}
use Rattle.lines.specs.Forms.{order_form, hear_form, beacon_form, roll_form, read_form, as_role, or_role, read_role, read_post, post_added, posts_read, read_yard}
use Rattle.lines.specs.Lines.{yard_line_refusal, yard_line, step_line_refusal, order_line, hear_line, beacon_line, roll_line, yard_or, roll_or, beacon_or, hear_or, line_at, next_of}
use Rattle.scan.specs.declared.Scan.{Scan}
use Rattle.lines.specs.declared.YardScan.{YardScan}
use Rattle.lines.specs.Line.{Line}
use Rattle.scan.proofs.Laws.{both, never}
use Rattle.scan.proofs.TextLaws.{ways, stands_in}

-- ---- nothing read moves back

abbrev From : ℕ → Scan → Type 0
From n c = n ≤ c.at

text_on : (s t : List ℕ) (n : ℕ) (c : Scan) → From n c → From n (read_text s t c)
unfolding read_text
text_on s t n c h = ways (From n) (c.ok && stands s c.at t) _ _ (λ e. omega arith) h

first_on : (s : List ℕ) (n : ℕ) (c : Scan) → From n c → From n (first_digit s c)
unfolding first_digit
first_on s n c h = ways (From n) (c.ok && ltb (digit_at s c.at) 10) _ _ (λ e. omega arith) h

next_on : (s : List ℕ) (n : ℕ) (c : Scan) → From n c → From n (next_digit s c)
unfolding next_digit
next_on s n c h = ways (From n) (c.ok && ltb (digit_at s c.at) 10 && ltb 0 c.latest && ltb c.latest 10000) _ _ (λ e. omega arith) h

number_on : (s : List ℕ) (n : ℕ) (c : Scan) → From n c → From n (read_number s c)
unfolding read_number
number_on s n c h = next_on s n _ (next_on s n _ (next_on s n _ (next_on s n _ (first_on s n c h))))

role_on : (s name : List ℕ) (role n : ℕ) (c other : Scan) → From n c → From n other → From n (or_role s name role c other)
unfolding or_role
role_on s name role n c other h k = ways (From n) (read_text s name c).ok (as_role c role (read_text s name c)) other (λ e. text_on s name n c h) k

roles_on : (s : List ℕ) (n : ℕ) (c : Scan) → From n c → From n (read_role s c)
unfolding read_role
roles_on s n c h = role_on s _ _ n c _ h (role_on s _ _ n c _ h (role_on s _ _ n c _ h (role_on s _ _ n c _ h h)))

post_on : (s : List ℕ) (at n : ℕ) → From n (read_text s (bytes " (") (start_at at)) → From n (read_post s at)
unfolding read_post
post_on s at n h = text_on s _ n _ (roles_on s n _ (text_on s _ n _ (number_on s n _ h)))

-- where a post begins, it ends further on
pub post_above : (s : List ℕ) (at : ℕ) → stands s at (bytes " (") ≡ true → at + 2 ≤ (read_post s at).at
unfolding read_text
post_above s at e = post_on s at (at + 2) (rw e (omega arith))

posts_on : (s : List ℕ) (n m : ℕ) (y : YardScan) → m ≤ y.at → m ≤ (posts_read s y n).at
unfolding posts_read post_added
posts_on s zero m y h = h
posts_on s (suc n) m y h =
    ways (λ (z : YardScan). m ≤ z.at) (y.ok && stands s y.at (bytes " (")) _ _ (λ e. posts_on s n m _ (post_on s y.at m (text_on s _ m _ h))) h

-- ---- each form ends with a text, and so further on

abbrev Above : List ℕ → ℕ → ℕ → Type 0
Above s at next = (at < next) × (next ≤ length s)

text_end : (s t : List ℕ) (at : ℕ) (c : Scan) → 0 < length t → at ≤ c.at → (read_text s t c).ok ≡ true
    → Above s at (read_text s t c).at
unfolding read_text
text_end s t at c l h = ways (λ (r : Scan). r.ok ≡ true → Above s at r.at) (c.ok && stands s c.at t) _ _
    (λ e d. (omega arith, stands_in s t c.at (both c.ok _ e).1))
    (λ d. never d)

order_end : (s : List ℕ) (at : ℕ) → (read_form s order_form at).ok ≡ true → Above s at (read_form s order_form at).at
order_end s at = text_end s _ at _ (omega arith)
    (number_on s at _ (text_on s _ at _ (number_on s at _ (text_on s _ at (start_at at) (omega arith)))))

hear_end : (s : List ℕ) (at : ℕ) → (read_form s hear_form at).ok ≡ true → Above s at (read_form s hear_form at).at
hear_end s at = text_end s _ at _ (omega arith)
    (number_on s at _ (text_on s _ at _ (number_on s at _ (text_on s _ at (start_at at) (omega arith)))))

beacon_end : (s : List ℕ) (at : ℕ) → (read_form s beacon_form at).ok ≡ true → Above s at (read_form s beacon_form at).at
beacon_end s at = text_end s _ at _ (omega arith) (number_on s at _ (text_on s _ at (start_at at) (omega arith)))

roll_end : (s : List ℕ) (at : ℕ) → (read_form s roll_form at).ok ≡ true → Above s at (read_form s roll_form at).at
roll_end s at = text_end s _ at (start_at at) (omega arith) (omega arith)

yard_end : (s : List ℕ) (at : ℕ) → (read_yard s at).ok ≡ true → Above s at (read_yard s at).at
unfolding read_yard
yard_end s at = text_end s _ at _ (omega arith) (posts_on s (length s) at _ (text_on s _ at (start_at at) (omega arith)))

-- ---- lines

abbrev After : List ℕ → ℕ → Line → Type 0
After s at l = Above s at (next_of s l)

yard_after : (s : List ℕ) (at : ℕ) (y : YardScan) → at < length s → Above s at y.at → After s at (yard_line at y)
unfolding yard_line
yard_after s at y h k = ways (After s at) (eqb (yard_line_refusal at y) 0) _ _ (λ e. k) (h, omega arith)

order_after : (s : List ℕ) (at : ℕ) (c : Scan) → at < length s → Above s at c.at → After s at (order_line at c)
unfolding order_line
order_after s at c h k = ways (After s at) (eqb (step_line_refusal at c.earlier c.latest) 0) _ _ (λ e. k) (h, omega arith)

hear_after : (s : List ℕ) (at : ℕ) (c : Scan) → at < length s → Above s at c.at → After s at (hear_line at c)
unfolding hear_line
hear_after s at c h k = ways (After s at) (eqb (step_line_refusal at c.earlier 0) 0) _ _ (λ e. k) (h, omega arith)

beacon_after : (s : List ℕ) (at : ℕ) (c : Scan) → at < length s → Above s at c.at → After s at (beacon_line at c)
unfolding beacon_line
beacon_after s at c h k = ways (After s at) (eqb (step_line_refusal at c.latest 0) 0) _ _ (λ e. k) (h, omega arith)

roll_after : (s : List ℕ) (at : ℕ) (c : Scan) → at < length s → Above s at c.at → After s at (roll_line at c)
unfolding roll_line
roll_after s at c h k = ways (After s at) (eqb (step_line_refusal at 0 0) 0) _ _ (λ e. k) (h, omega arith)

after : (s : List ℕ) (at : ℕ) → at < length s → After s at (line_at s at)
unfolding line_at hear_or beacon_or roll_or yard_or
after s at h =
    ways (After s at) (read_form s order_form at).ok _ _ (λ e. order_after s at _ h (order_end s at e))
    (ways (After s at) (read_form s hear_form at).ok _ _ (λ e. hear_after s at _ h (hear_end s at e))
    (ways (After s at) (read_form s beacon_form at).ok _ _ (λ e. beacon_after s at _ h (beacon_end s at e))
    (ways (After s at) (read_form s roll_form at).ok _ _ (λ e. roll_after s at _ h (roll_end s at e))
    (ways (After s at) (read_yard s at).ok _ _ (λ e. yard_after s at _ h (yard_end s at e))
    (h, omega arith)))))

pub next_above : (s : List ℕ) (at : ℕ) → at < length s → at < next_of s (line_at s at)
next_above s at h = (after s at h).0
