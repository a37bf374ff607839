-- The reader of the yard line accepts exactly the yard lines that are written. Assumes nothing.
use mathlib.Core.Path.{◌≡◌, refl, ap, ◌∙◌}
use mathlib.Core.Bool.{Bool, true, false, cond, ◌&&◌}
use mathlib.Core.List.{List, ◌++◌}
use Prim.Native.Nat.{ℕ, zero, suc, ◌+◌, ◌<◌}
use native.Mathlib.Omega.{arith}
use lib.Dec.{ltb, eqb}
use lib.ListN.{length, length-append}
use borrow.Author.Tests.{eqb-true, ltb-true, lt-ltb, eq-eqb}
use Rattle.text.specs.Bytes.{bytes}
use Rattle.scan.specs.declared.Scan.{Scan}
use Rattle.lines.specs.declared.YardScan.{YardScan}
use Rattle.lines.specs.Line.{Yard, Refused}
use Rattle.scan.specs.Scan.{stands, start_at, read_text}
use Rattle.lines.specs.Forms.{read_post, post_added, posts_read, no_posts, scan_of, yard_posts, read_yard}
use Rattle.lines.specs.Lines.{line_at, yard_or, yard_line_refusal, yard_line, number_of}
use Rattle.written.specs.Written.{post_texts, line_text, Right}
use Rattle.scan.proofs.Laws.{both}
use Rattle.scan.proofs.Here.{Here, here_at, here_join, here_split}
use Rattle.scan.proofs.Number.{done}
use Rattle.scan.proofs.Reading.{text_sound, text_complete}
use Rattle.written.proofs.Steps.{yard_only}
use Rattle.written.proofs.Sound.{Written, Sound, line_sound}
use Rattle.written.proofs.PostsSound.{Posts, ReadPosts, posts_sound, no_posts_lem}
use Rattle.written.proofs.PostsComplete.{posts_complete}

abbrev yard_text : ℕ → ℕ → ℕ → List ℕ
yard_text posts sources dests = bytes "(yard" ++ post_texts posts sources dests 8 ++ bytes ")\n"

yard_length : (p so d : ℕ) → length (yard_text p so d) ≡ 5 + length (post_texts p so d 8) + 2
yard_length p so d = omega (arith, length-append (bytes "(yard") (post_texts p so d 8), length-append (bytes "(yard" ++ post_texts p so d 8) (bytes ")\n"))

-- ---- what is read is written there

-- a scan that failed stays so
ok_back : (s : List ℕ) (y : YardScan) (n : ℕ) → (posts_read s y n).ok ≡ true → y.ok ≡ true
unfolding posts_read
ok_back s y zero k = k
ok_back s y (suc n) k = go (y.ok && stands s y.at (bytes " (")) refl k
  where
    go : (t : Bool) → (y.ok && stands s y.at (bytes " (")) ≡ t → (cond t (posts_read s (post_added y (read_post s y.at)) n) y).ok ≡ true → y.ok ≡ true
    go true e q = (both y.ok _ e).0
    go false e q = q

-- the yard's line, by the scan of its posts
line_is : (s : List ℕ) (at : ℕ) → (read_yard s at).ok ≡ true → (read_yard s at).rising ≡ true
    → Posts s (at + 5) (read_yard s at).posts (read_yard s at).sources (read_yard s at).dests (yard_posts s at).at
    × Here s at (bytes "(yard") × Here s (yard_posts s at).at (bytes ")\n") × ((read_yard s at).at ≡ (yard_posts s at).at + 2)
unfolding read_yard ReadPosts Here
line_is s at k r =
    let c = read_text s (bytes "(yard") (start_at at) in
    let e = text_sound s (bytes ")\n") (scan_of (yard_posts s at)) k in
    let b = text_sound s (bytes "(yard") (start_at at) (ok_back s (no_posts c) (length s) e.0) in
    let first : ReadPosts s (at + 5) (no_posts c) = λ o q. no_posts_lem s (at + 5) c.at b.1.0 (ap (λ (x : Scan). x.at) b.2) in
    (posts_sound s (at + 5) (no_posts c) (length s) first e.0 r, b.1, e.1, ap (λ (x : Scan). x.at) e.2)

written_yard : (s : List ℕ) (at p so d mid next : ℕ) → at ≡ 0 → 0 < p → Posts s (at + 5) p so d mid → Here s at (bytes "(yard") → Here s mid (bytes ")\n")
    → next ≡ mid + 2 → Written s at (Yard p so d next)
unfolding Written Posts line_text
written_yard s at p so d mid next z l g b e n =
    let w = here_join s (bytes "(yard") (post_texts p so d 8) at b g.5 in
    let t = length-append (bytes "(yard") (post_texts p so d 8) in
    let q : mid ≡ at + length (bytes "(yard" ++ post_texts p so d 8) = omega (arith, g.6) in (
      (z, l, g.0, g.1, g.2, g.3, g.4),
      here_join s (bytes "(yard" ++ post_texts p so d 8) (bytes ")\n") at w (rw q at e),
      omega (arith, g.6, yard_length p so d),
    )

yard_or_sound : (s : List ℕ) (at : ℕ) → Sound s at (yard_or s at)
unfolding yard_or yard_line_refusal yard_line Sound
yard_or_sound s at = go (read_yard s at).ok refl
  where
    y : YardScan
    y = read_yard s at

    line : (t : Bool) → (eqb at 0 && y.rising && ltb 0 y.posts) ≡ t → y.ok ≡ true
        → Sound s at (cond (eqb (cond t 0 3) 0) (Yard y.posts y.sources y.dests y.at) (Refused (cond t 0 3)))
    line true e k n =
        let a = both (eqb at 0 && y.rising) (ltb 0 y.posts) e in
        let b = both (eqb at 0) y.rising a.0 in
        let w = line_is s at k b.1 in
        written_yard s at y.posts y.sources y.dests (yard_posts s at).at y.at (eqb-true at 0 b.0) (ltb-true 0 y.posts a.1) w.0 w.1 w.2 w.3
    line false e k n = absurd (omega (arith, n))

    go : (t : Bool) → y.ok ≡ t → Sound s at (cond t (yard_line at y) (Refused 2))
    go true e n = line _ refl e n
    go false e n = absurd (omega (arith, n))

-- a line that is accepted is written there
pub sound : (s : List ℕ) (at : ℕ) → number_of (line_at s at) ≡ 0 → Written s at (line_at s at)
unfolding Sound
sound s at = line_sound s at (yard_or_sound s at)

-- a yard that was read may stand there
pub yard_sound : (s : List ℕ) (at posts sources dests next : ℕ) → line_at s at ≡ Yard posts sources dests next → Right at (Yard posts sources dests next)
unfolding Written
yard_sound s at posts sources dests next e = let w = sound s at (ap number_of e) in (rw e at w).0

-- ---- what is written is read

pub yard_complete : (s : List ℕ) (at p so d next : ℕ) → Right at (Yard p so d next) → Here s at (yard_text p so d) → line_at s at ≡ Yard p so d (at + length (yard_text p so d))
unfolding yard_or yard_line_refusal yard_line read_yard
yard_complete s at p so d next g h =
    let a = here_split s (bytes "(yard" ++ post_texts p so d 8) (bytes ")\n") at h in
    let b = here_split s (bytes "(yard") (post_texts p so d 8) at a.0 in
    let t = length-append (bytes "(yard") (post_texts p so d 8) in
    let q : at + length (bytes "(yard" ++ post_texts p so d 8) ≡ at + 5 + length (post_texts p so d 8) = omega arith in
    let e = rw q at a.1 in
    let r : read_text s (bytes "(yard") (start_at at) ≡ done (at + 5) 0 0 = text_complete s (bytes "(yard") at 0 0 b.0 in
    let z = posts_complete s (at + 5) p so d g.5 g.6 (length s) g.2 g.3 g.4 b.1 e (omega arith) in
    let f = text_complete s (bytes ")\n") (at + 5 + length (post_texts p so d 8)) 0 0 e in
    let x : at + 5 + length (post_texts p so d 8) + 2 ≡ at + length (yard_text p so d) = omega (arith, yard_length p so d) in
    yard_only s at (here_at s (yard_text p so d) at 1 h (omega (arith, yard_length p so d)))
    ∙ rw (r, z, f, eq-eqb at 0 g.0, lt-ltb 0 p g.1) (ap (Yard p so d) x)
