-- The posts that are read in a yard line are written there. Assumes nothing.
use mathlib.Core.Path.{◌≡◌, refl}
use mathlib.Core.Bool.{Bool, true, false, cond, ◌&&◌}
use mathlib.Core.List.{List}
use Prim.Native.Nat.{ℕ, zero, suc, ◌+◌, ◌^◌, ◌<◌, ◌≤◌}
use native.Mathlib.Omega.{arith}
use lib.Bits.{or_lt}
use lib.Dec.{ltb}
use lib.ListN.{length, length-append}
use borrow.Author.Tests.{ltb-true}
use Rattle.text.specs.Bytes.{bytes}
use Rattle.scan.specs.declared.Scan.{Scan}
use Rattle.lines.specs.declared.YardScan.{YardScan}
use Rattle.scan.specs.Scan.{stands}
use Rattle.lines.specs.Forms.{read_post, bit_of, post_added, posts_read}
use Rattle.written.specs.Written.{post_texts, Roles}
use Rattle.scan.proofs.Laws.{both}
use Rattle.scan.proofs.Here.{Here, here_join}
use Rattle.scan.proofs.Number.{done}
use Rattle.written.proofs.Posts.{role_name, post_text, post_sound}
use Rattle.written.proofs.Sets.{bit_is, bit_lt}
use Rattle.written.proofs.Texts.{with_lane, is_source, is_dest, texts_with, roles_with}

module _ (s : List ℕ) (from : ℕ) where
  -- the posts of these sets are written from the place `from` up to the place `at`
  unfoldable pub Posts : ℕ → ℕ → ℕ → ℕ → Type 0
  Posts posts sources dests at =
      (posts < 256) × (sources < 256) × (dests < 256) × Roles posts sources × Roles posts dests
      × Here s from (post_texts posts sources dests 8) × (at ≡ from + length (post_texts posts sources dests 8))

  -- before the first post
  pub no_posts_lem : (at : ℕ) → from ≤ length s → at ≡ from → Posts 0 0 0 at
  unfolding Posts Here post_texts
  no_posts_lem at h e = (omega arith, omega arith, omega arith, (λ i k. k), (λ i k. k), (omega arith, λ i l. absurd (omega arith)), omega arith)

  with_lt : (set lane : ℕ) (test : Bool) → set < 256 → with_lane set test lane < 256
  with_lt set lane test h = or_lt 8 set (cond test (bit_of lane) 0) h (go test)
    where
      go : (t : Bool) → cond t (bit_of lane) 0 < 256
      go true = bit_lt lane
      go false = omega arith

  -- a lane whose bit is above a number is at most 7
  lane_below_lem : (p lane : ℕ) → p < bit_of lane → lane < 8
  lane_below_lem p lane h = go (ltb lane 8) refl h
    where
      go : (t : Bool) → ltb lane 8 ≡ t → p < cond t (2 ^ lane) 0 → lane < 8
      go true e l = ltb-true lane 8 e
      go false e l = absurd (omega arith)

  more : (p so d at lane role : ℕ) → Posts p so d at → role < 4 → Here s at (post_text lane (role_name role)) → p < bit_of lane
      → Posts (with_lane p true lane) (with_lane so (is_source role) lane) (with_lane d (is_dest role) lane) (at + length (post_text lane (role_name role)))
  unfolding Posts
  more p so d at lane role g l h b =
      let k = lane_below_lem p lane b in
      let u : p < 2 ^ lane = rw (bit_is lane k) at b in
      let t = texts_with p so d lane role k l u g.3 g.4 in
      let n = length-append (post_texts p so d 8) (post_text lane (role_name role)) in
      let w = post_texts p so d 8 in (
        with_lt p lane true g.0,
        with_lt so lane (is_source role) g.1,
        with_lt d lane (is_dest role) g.2,
        roles_with p so lane (is_source role) k g.3,
        roles_with p d lane (is_dest role) k g.4,
        rw t (here_join s w (post_text lane (role_name role)) from g.5 (rw g.6 at h)),
        rw t (omega (arith, g.6)),
      )

  -- read as far as the scan tells, unless it is refused
  unfoldable pub ReadPosts : YardScan → Type 0
  ReadPosts y = y.ok ≡ true → y.rising ≡ true → Posts y.posts y.sources y.dests y.at

  read_more : (y : YardScan) → ReadPosts y → y.ok ≡ true → ReadPosts (post_added y (read_post s y.at))
  unfolding ReadPosts post_added
  read_more y f e k r =
      let c = post_sound s y.at k in
      let b = both y.rising (ltb y.posts (bit_of (read_post s y.at).earlier)) r in
      go c.0 c.1 c.2 c.3 (read_post s y.at) c.4 (f e b.0) (ltb-true _ _ b.1)
    where
      go : (lane role : ℕ) → role < 4 → Here s y.at (post_text lane (role_name role)) → (c : Scan) → c ≡ done (y.at + length (post_text lane (role_name role))) lane role
          → Posts y.posts y.sources y.dests y.at → y.posts < bit_of c.earlier
          → Posts (with_lane y.posts true c.earlier) (with_lane y.sources (is_source c.latest) c.earlier) (with_lane y.dests (is_dest c.latest) c.earlier) c.at
      go lane role l h c q g b = rw q (more y.posts y.sources y.dests y.at lane role g l h (rw q at b))

  pub posts_sound : (y : YardScan) (n : ℕ) → ReadPosts y → ReadPosts (posts_read s y n)
  unfolding posts_read
  posts_sound y zero f = f
  posts_sound y (suc n) f =
      go (y.ok && stands s y.at (bytes " (")) refl (λ e. posts_sound (post_added y (read_post s y.at)) n (read_more y f (both y.ok _ e).0))
    where
      go : (t : Bool) → (y.ok && stands s y.at (bytes " (")) ≡ t → ((y.ok && stands s y.at (bytes " (")) ≡ true → ReadPosts (posts_read s (post_added y (read_post s y.at)) n))
          → ReadPosts (cond t (posts_read s (post_added y (read_post s y.at)) n) y)
      go true e g = g e
      go false e g = f
