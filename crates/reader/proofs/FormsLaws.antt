-- Laws of the forms: a lane's bit, and the posts of a yard line. Assumes nothing.
use mathlib.Core.Path.{◌≡◌, refl}
use mathlib.Core.Bool.{true, false, ◌&&◌}
use mathlib.Core.List.{List}
use Prim.Native.Nat.{ℕ, zero, suc, ◌+◌, ◌*◌, ◌%◌, ◌^◌, ◌<◌, ◌≤◌}
use native.Mathlib.Omega.{arith}
use lib.ListN.{length}
use Rattle.text.specs.Bytes.{bytes}
use Rattle.scan.specs.Scan.{stands, failed, read_text}
use Rattle.lines.specs.Forms.{as_role, or_role, bit_of, read_post, post_added, posts_read}
use Rattle.scan.specs.declared.Scan.{Scan}
use Rattle.lines.specs.declared.YardScan.{YardScan}
use Rattle.scan.proofs.Laws.{both}
use Rattle.scan.proofs.TextLaws.{stands_in}
use Rattle.reader.proofs.Progress.{post_above}

pub bit_law : (lane : ℕ) → lane < 8 → 1 * 2 ^ lane % 256 ≡ bit_of lane
bit_law zero h = refl
bit_law (suc zero) h = refl
bit_law (suc (suc zero)) h = refl
bit_law (suc (suc (suc zero))) h = refl
bit_law (suc (suc (suc (suc zero)))) h = refl
bit_law (suc (suc (suc (suc (suc zero))))) h = refl
bit_law (suc (suc (suc (suc (suc (suc zero)))))) h = refl
bit_law (suc (suc (suc (suc (suc (suc (suc zero))))))) h = refl
bit_law (suc (suc (suc (suc (suc (suc (suc (suc i)))))))) h = absurd (omega arith)

-- a role's name that was tried
pub role_yes : (s name : List ℕ) (role : ℕ) (c r x : Scan) → r ≡ read_text s name c → r.ok ≡ true → x ≡ as_role c role r
    → x ≡ or_role s name role c (failed c)
unfolding or_role
role_yes s name role c r x e h q = rw (← e, h) q

pub role_no : (s name : List ℕ) (role : ℕ) (c r x : Scan) → r ≡ read_text s name c → r.ok ≡ false → x ≡ failed c
    → x ≡ or_role s name role c (failed c)
unfolding or_role
role_no s name role c r x e h q = rw (← e, h) q

-- What is left to read from z on is what there was from y on.
abbrev pub PostsLeft : List ℕ → YardScan → YardScan → Type 0
PostsLeft s y z = (n : ℕ) × (length s ≤ z.at + n) × (posts_read s z n ≡ posts_read s y (length s))

pub posts_start : (s : List ℕ) (y : YardScan) → PostsLeft s y y
posts_start s y = (length s, omega arith, refl)

-- it ends further on, and not past the end of the text
pub posts_measure : (s : List ℕ) (z w : YardScan) (c : Scan) → (z.ok && stands s z.at (bytes " (")) ≡ true
    → c ≡ read_post s z.at → w ≡ post_added z c → (z.at < length s) × (z.at < w.at)
unfolding post_added
posts_measure s z w c t p q =
    let b = (both z.ok _ t).1 in
    (omega (arith, stands_in s (bytes " (") z.at b), rw (q, p) (omega (arith, post_above s z.at b)))

-- a post more
pub posts_next : (s : List ℕ) (y z w : YardScan) (c : Scan) → PostsLeft s y z → (z.ok && stands s z.at (bytes " (")) ≡ true
    → c ≡ read_post s z.at → w ≡ post_added z c → PostsLeft s y w
unfolding posts_read
posts_next s y z w c (zero, l, e) t p q = absurd (omega (arith, stands_in s (bytes " (") z.at (both z.ok _ t).1))
posts_next s y z w c (suc n, l, e) t p q = (n, omega (arith, posts_measure s z w c t p q), rw (q, p) (rw t at e))

-- no post more
pub posts_end : (s : List ℕ) (y z : YardScan) → PostsLeft s y z → (z.ok && stands s z.at (bytes " (")) ≡ false
    → z ≡ posts_read s y (length s)
unfolding posts_read
posts_end s y z (zero, l, e) t = e
posts_end s y z (suc n, l, e) t = rw t at e
