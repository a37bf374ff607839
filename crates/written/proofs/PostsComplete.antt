-- The posts that are written in a yard line are read. Assumes nothing.
use mathlib.Core.Path.{◌≡◌, refl, sym, ap, ◌∙◌}
use mathlib.Core.Bool.{Bool, true, false, cond, and-false}
use mathlib.Core.List.{List, ◌++◌}
use Prim.Native.Nat.{ℕ, zero, suc, ◌+◌, ◌%◌, ◌^◌, ◌<◌, ◌≤◌}
use native.Mathlib.Nat.{mod-lt, mod-one}
use native.Mathlib.Omega.{arith}
use lib.Bits.{or_zero_r}
use lib.ListN.{length, length-append}
use lib.Pow.{pow_pos}
use borrow.Author.Tests.{lt-ltb}
use Rattle.text.specs.Bytes.{bytes}
use Rattle.text.specs.Decimal.{decimal}
use Rattle.cells.specs.Sets.{has_lane}
use Rattle.lines.specs.declared.YardScan.{YardScan}
use Rattle.scan.specs.Scan.{stands}
use Rattle.lines.specs.Forms.{read_post, bit_of, post_added, posts_read}
use Rattle.written.specs.Written.{role_text, post_texts, Roles}
use Rattle.scan.proofs.Here.{Here, here_split, here_stands, stands_here, here_head}
use Rattle.written.proofs.Posts.{role_name, post_text, post_complete}
use Rattle.written.proofs.Sets.{bit_is, low_more, low_all}
use Rattle.written.proofs.Texts.{with_lane, is_source, is_dest, no_role, post_yes, post_no}

-- a role's number by its two parts
abbrev role_of : Bool → Bool → ℕ
role_of source dest = cond source (cond dest 3 1) (cond dest 2 0)

role_small : (a b : Bool) → role_of a b < 4
role_small true true = omega arith
role_small true false = omega arith
role_small false true = omega arith
role_small false false = omega arith

role_source : (a b : Bool) → is_source (role_of a b) ≡ a
role_source true true = refl
role_source true false = refl
role_source false true = refl
role_source false false = refl

role_dest : (a b : Bool) → is_dest (role_of a b) ≡ b
role_dest true true = refl
role_dest true false = refl
role_dest false true = refl
role_dest false false = refl

role_text_lem : (s d lane : ℕ) → role_text s d lane ≡ role_name (role_of (has_lane s lane) (has_lane d lane))
unfolding role_text
role_text_lem s d lane = go (has_lane s lane) (has_lane d lane)
  where
    go : (a b : Bool) → cond a (cond b (bytes "both") (bytes "source")) (cond b (bytes "dest") (bytes "relay")) ≡ role_name (role_of a b)
    go true true = refl
    go true false = refl
    go false true = refl
    go false false = refl

-- the lanes of a set up to k
set_is : (a k : ℕ) (test : Bool) → k < 8 → has_lane a k ≡ test → with_lane (a % 2 ^ k) test k ≡ a % 2 ^ suc k
set_is a k test h e = ap (λ (t : Bool). with_lane (a % 2 ^ k) t k) (sym e) ∙ low_more a k h

set_no : (a k : ℕ) → k < 8 → has_lane a k ≡ false → a % 2 ^ suc k ≡ a % 2 ^ k
set_no a k h e = sym (set_is a k false h e) ∙ or_zero_r (a % 2 ^ k)

-- a scan that was not refused
abbrev pub reached : ℕ → ℕ → ℕ → ℕ → Bool → YardScan
reached at p s d r = record { ok = true; at = at; posts = p; sources = s; dests = d; rising = r }

same_scan : (at at' p p' s s' d d' : ℕ) (r r' : Bool) → at ≡ at' → p ≡ p' → s ≡ s' → d ≡ d' → r ≡ r'
    → reached at p s d r ≡ reached at' p' s' d' r'
same_scan at at' p p' s s' d d' r r' ea ep es ed er = rw (ea, ep, es, ed, er)

module _ (s : List ℕ) (from p so d : ℕ) (fs : Roles p so) (fd : Roles p d) where
  -- the scan that has read the posts below lane k
  abbrev pub up_to : ℕ → YardScan
  up_to k = reached (from + length (post_texts p so d k)) (p % 2 ^ k) (so % 2 ^ k) (d % 2 ^ k) true

  -- a lane without a post is passed over
  skip : (k : ℕ) → k < 8 → has_lane p k ≡ false → up_to k ≡ up_to (suc k)
  skip k h e =
      same_scan _ _ _ _ _ _ _ _ true true (ap (λ (t : List ℕ). from + length t) (sym (post_no p so d k e))) (sym (set_no p k h e))
      (sym (set_no so k h (no_role p so k fs e))) (sym (set_no d k h (no_role p d k fd e))) refl

  post_here : (k : ℕ) → has_lane p k ≡ true → Here s from (post_texts p so d (suc k)) → Here s (from + length (post_texts p so d k)) (post_text k (role_text so d k))
  post_here k e w = (here_split s (post_texts p so d k) (post_text k (role_text so d k)) from (rw (post_yes p so d k e) at w)).1

  -- a post is read
  read_on : (k : ℕ) → k < 8 → has_lane p k ≡ true → Here s from (post_texts p so d (suc k)) → post_added (up_to k) (read_post s (up_to k).at) ≡ up_to (suc k)
  unfolding post_added
  read_on k h e w =
      let role = role_of (has_lane so k) (has_lane d k) in
      let t : post_texts p so d (suc k) ≡ post_texts p so d k ++ post_text k (role_name role) =
      post_yes p so d k e ∙ ap (λ (u : List ℕ). post_texts p so d k ++ post_text k u) (role_text_lem so d k) in
      let r = post_complete s (from + length (post_texts p so d k)) k role h (role_small (has_lane so k) (has_lane d k)) (rw (role_text_lem so d k) at (post_here k e w)) in
      let n = length-append (post_texts p so d k) (post_text k (role_name role)) in
      let q : from + length (post_texts p so d k) + length (post_text k (role_name role)) ≡ from + length (post_texts p so d k ++ post_text k (role_name role)) = omega arith in
      let b : p % 2 ^ k < bit_of k = rw (bit_is k h) (mod-lt p (pow_pos k)) in
      rw r (same_scan _ _ _ _ _ _ _ _ _ true (q ∙ ap (λ (u : List ℕ). from + length u) (sym t)) (set_is p k true h e)
      (set_is so k (is_source role) h (sym (role_source (has_lane so k) (has_lane d k)))) (set_is d k (is_dest role) h (sym (role_dest (has_lane so k) (has_lane d k))))
      (lt-ltb (p % 2 ^ k) (bit_of k) b))

  -- where a post is written, reading goes on; n is above the number of bytes left
  step_post : (k n : ℕ) → k < 8 → has_lane p k ≡ true → Here s from (post_texts p so d (suc k)) → length s ≤ n + (up_to k).at
      → (m : ℕ) × (length s ≤ m + (up_to (suc k)).at) × (posts_read s (up_to k) n ≡ posts_read s (up_to (suc k)) m)
  unfolding posts_read Here
  step_post k n h e w l = go n l
    where
      at : ℕ
      at = from + length (post_texts p so d k)

      text : List ℕ
      text = post_text k (role_text so d k)

      longer : length (post_texts p so d (suc k)) ≡ length (post_texts p so d k) + length text
      longer = ap length (post_yes p so d k e) ∙ length-append (post_texts p so d k) text

      begins : stands s at (bytes " (") ≡ true
      begins = here_stands s (bytes " (") at (here_split s (bytes " (") (decimal k ++ bytes " " ++ role_text so d k ++ bytes ")") at (post_here k e w)).0

      go : (n : ℕ) → length s ≤ n + at → (m : ℕ) × (length s ≤ m + (up_to (suc k)).at) × (posts_read s (up_to k) n ≡ posts_read s (up_to (suc k)) m)
      go zero b = absurd (omega (arith, b, (post_here k e w).0))
      go (suc n) b = (n, omega (arith, b, longer), rw begins (ap (λ (y : YardScan). posts_read s y n) (read_on k h e w)))

  -- up to lane k
  up_to_lem : (k : ℕ) → k ≤ 8 → Here s from (post_texts p so d k) → (n : ℕ) → length s ≤ n + from
      → (m : ℕ) × (length s ≤ m + (up_to k).at) × (posts_read s (up_to 0) n ≡ posts_read s (up_to k) m)
  unfolding post_texts
  up_to_lem zero h w n l = (n, omega (arith, l), refl)
  up_to_lem (suc k) h w n l =
      let before = (here_split s (post_texts p so d k) _ from w).0 in
      let b = up_to_lem k (omega arith) before n l in
      go (has_lane p k) refl b
    where
      go : (t : Bool) → has_lane p k ≡ t → (m : ℕ) × (length s ≤ m + (up_to k).at) × (posts_read s (up_to 0) n ≡ posts_read s (up_to k) m)
          → (m : ℕ) × (length s ≤ m + (up_to (suc k)).at) × (posts_read s (up_to 0) n ≡ posts_read s (up_to (suc k)) m)
      go true e b =
          let c = step_post k b.0 (omega arith) e w b.1 in
          (c.0, c.1, b.2 ∙ c.2)
      go false e b =
          let q = skip k (omega arith) e in
          (b.0, omega (arith, b.1, ap (λ (y : YardScan). y.at) q), b.2 ∙ ap (λ (y : YardScan). posts_read s y b.0) q)

  -- where no post begins, reading stops
  stops : (y : YardScan) (n : ℕ) → stands s y.at (bytes " (") ≡ false → posts_read s y n ≡ y
  unfolding posts_read
  stops y zero e = refl
  stops y (suc n) e = rw (e, and-false y.ok)

  ends : (at : ℕ) → Here s at (bytes ")\n") → stands s at (bytes " (") ≡ false
  ends at h = go (stands s at (bytes " (")) refl
    where
      go : (t : Bool) → stands s at (bytes " (") ≡ t → t ≡ false
      go true e = let z = sym (here_head s (bytes "(") at 32 (stands_here s (bytes " (") at e)) ∙ here_head s (bytes "\n") at 41 h in absurd (omega (arith, z))
      go false e = refl

  begin : reached from 0 0 0 true ≡ up_to 0
  unfolding post_texts
  begin = same_scan _ _ _ _ _ _ _ _ true true (omega arith) (sym (mod-one p)) (sym (mod-one so)) (sym (mod-one d)) refl

  -- the posts and what ends the line
  pub posts_complete : (n : ℕ) → p < 256 → so < 256 → d < 256 → Here s from (post_texts p so d 8) → Here s (from + length (post_texts p so d 8)) (bytes ")\n")
      → length s ≤ n + from → posts_read s (reached from 0 0 0 true) n ≡ reached (from + length (post_texts p so d 8)) p so d true
  posts_complete n lp ls ld w v l =
      let b = up_to_lem 8 (omega arith) w n l in
      let e = same_scan _ _ _ _ _ _ _ _ true true refl (low_all p lp) (low_all so ls) (low_all d ld) refl in
      ap (λ (y : YardScan). posts_read s y n) begin ∙ b.2 ∙ stops (up_to 8) b.0 (ends (up_to 8).at v) ∙ e
