-- The reader of a post in the yard line accepts exactly ` (LANE ROLE)`. Assumes nothing.
use mathlib.Core.Path.{◌≡◌, refl, sym, ap, ◌∙◌}
use mathlib.Core.Bool.{Bool, true, false, cond}
use mathlib.Core.List.{List, ◌∷◌, ◌++◌}
use Prim.Native.Nat.{ℕ, zero, suc, ◌+◌, ◌<◌}
use native.Mathlib.Omega.{arith}
use lib.Dec.{eqb}
use lib.ListN.{length, length-append}
use borrow.Author.Tests.{eq-eqb}
use Rattle.text.specs.Bytes.{bytes}
use Rattle.text.specs.Decimal.{decimal}
use Rattle.scan.specs.declared.Scan.{Scan}
use Rattle.scan.specs.Scan.{read_text, read_number, start_at, failed}
use Rattle.lines.specs.Forms.{as_role, or_role, read_role, read_post}
use Rattle.scan.proofs.Laws.{never}
use Rattle.scan.proofs.Here.{Here, here_head, here_join, here_split}
use Rattle.scan.proofs.Number.{done, number_sound}
use Rattle.scan.proofs.Reading.{text_sound, text_complete, no_digit, text_step, number_step, text_back, number_back}

-- ---- a role

-- the name of a role by its number
abbrev pub role_name : ℕ → List ℕ
role_name zero = bytes "relay"
role_name (suc zero) = bytes "source"
role_name (suc (suc zero)) = bytes "dest"
role_name (suc (suc (suc n))) = bytes "both"

-- a text with another first byte stands there
other_first : (s t u : List ℕ) (at a b x y : ℕ) → eqb x y ≡ false → Here s at (x ∷ t) → (read_text s (y ∷ u) (done at a b)).ok ≡ false
other_first s t u at a b x y n h = go (read_text s (y ∷ u) (done at a b)).ok refl
  where
    go : (k : Bool) → (read_text s (y ∷ u) (done at a b)).ok ≡ k → k ≡ false
    go false e = refl
    go true e =
        let r = (text_sound s (y ∷ u) (done at a b) e).1 in
        sym (eq-eqb x y (sym (here_head s t at x h) ∙ here_head s u at y r)) ∙ n

pub role_complete : (s : List ℕ) (at a b role : ℕ) → role < 4 → Here s at (role_name role) → read_role s (done at a b) ≡ done (at + length (role_name role)) b role
unfolding read_role or_role
role_complete s at a b zero l h =
    rw (
      other_first s (bytes "elay") (bytes "ource") at a b 114 115 refl h,
      other_first s (bytes "elay") (bytes "est") at a b 114 100 refl h,
      other_first s (bytes "elay") (bytes "oth") at a b 114 98 refl h,
      text_complete s (bytes "relay") at a b h,
    )
role_complete s at a b (suc zero) l h = rw (text_complete s (bytes "source") at a b h)
role_complete s at a b (suc (suc zero)) l h =
    rw (other_first s (bytes "est") (bytes "ource") at a b 100 115 refl h, text_complete s (bytes "dest") at a b h)
role_complete s at a b (suc (suc (suc zero))) l h =
    rw (
      other_first s (bytes "oth") (bytes "ource") at a b 98 115 refl h,
      other_first s (bytes "oth") (bytes "est") at a b 98 100 refl h,
      text_complete s (bytes "both") at a b h,
    )
role_complete s at a b (suc (suc (suc (suc n)))) l h = absurd (omega arith)

-- a role's name was read
abbrev Named : List ℕ → Scan → Scan → Type 0
Named s c x = x.ok ≡ true → (c.ok ≡ true) × (role : ℕ) × (role < 4) × Here s c.at (role_name role) × (x ≡ done (c.at + length (role_name role)) c.latest role)

or_named : (s : List ℕ) (c other : Scan) (role : ℕ) → role < 4 → Named s c other → Named s c (or_role s (role_name role) role c other)
unfolding or_role
or_named s c other role l f = go (read_text s (role_name role) c).ok refl
  where
    go : (t : Bool) → (read_text s (role_name role) c).ok ≡ t → Named s c (cond t (as_role c role (read_text s (role_name role) c)) other)
    go true e k =
        let r = text_sound s (role_name role) c e in
        (r.0, role, l, r.1, ap (as_role c role) r.2)
    go false e k = f k

pub role_sound : (s : List ℕ) (c : Scan) → (read_role s c).ok ≡ true
    → (c.ok ≡ true) × (role : ℕ) × (role < 4) × Here s c.at (role_name role) × (read_role s c ≡ done (c.at + length (role_name role)) c.latest role)
unfolding read_role
role_sound s c =
    or_named s c _ 1 (omega arith) (or_named s c _ 2 (omega arith) (or_named s c _ 3 (omega arith) (or_named s c (failed c) 0 (omega arith) (λ k. never k))))

-- ---- a post

abbrev pub post_text : ℕ → List ℕ → List ℕ
post_text lane role = bytes " (" ++ decimal lane ++ bytes " " ++ role ++ bytes ")"

pub post_complete : (s : List ℕ) (at lane role : ℕ) → lane < 8 → role < 4 → Here s at (post_text lane (role_name role))
    → read_post s at ≡ done (at + length (post_text lane (role_name role))) lane role
unfolding read_post
post_complete s at lane role ll lr h =
    let w = bytes " (" in
    let n = role_name role in
    let h5 = here_split s (w ++ decimal lane ++ bytes " " ++ n) (bytes ")") at h in
    let h4 = here_split s (w ++ decimal lane ++ bytes " ") n at h5.0 in
    let h3 = here_split s (w ++ decimal lane) (bytes " ") at h4.0 in
    let h2 = here_split s w (decimal lane) at h3.0 in
    let v = length-append (w ++ decimal lane ++ bytes " ") n in
    let q : at + length (w ++ decimal lane ++ bytes " ") + length n ≡ at + length (w ++ decimal lane ++ bytes " " ++ n) = omega arith in
    rw (
      text_complete s w at 0 0 h2.0,
      number_step s w at 0 0 lane (omega arith) h2.1 (no_digit s _ _ 32 (omega arith) h3.1),
      text_step s (w ++ decimal lane) (bytes " ") at 0 lane h3.1,
      role_complete s (at + length (w ++ decimal lane ++ bytes " ")) 0 lane role lr h4.1,
      q,
      text_step s (w ++ decimal lane ++ bytes " " ++ n) (bytes ")") at lane role h5.1,
    )

pub post_sound : (s : List ℕ) (at : ℕ) → (read_post s at).ok ≡ true
    → (lane : ℕ) × (role : ℕ) × (role < 4) × Here s at (post_text lane (role_name role)) × (read_post s at ≡ done (at + length (post_text lane (role_name role))) lane role)
unfolding read_post
post_sound s at k =
    let w = bytes " (" in
    let c1 = read_text s w (start_at at) in
    let c2 = read_number s c1 in
    let c3 = read_text s (bytes " ") c2 in
    let c4 = read_role s c3 in
    let k4 = (text_sound s (bytes ")") c4 k).0 in
    let k3 = (role_sound s c3 k4).0 in
    let k2 = (text_sound s (bytes " ") c2 k3).0 in
    let k1 = (number_sound s c1 k2).0 in
    let r1 = text_sound s w (start_at at) k1 in
    let r2 = number_back s w at 0 0 c1 r1.2 r1.1 k2 in
    let r3 = text_back s (w ++ decimal r2.0) (bytes " ") at 0 r2.0 c2 r2.3 r2.2 k3 in
    let r4 = role_back s (w ++ decimal r2.0 ++ bytes " ") at 0 r2.0 c3 r3.1 r3.0 k4 in
    let r5 = text_back s (w ++ decimal r2.0 ++ bytes " " ++ role_name r4.0) (bytes ")") at r2.0 r4.0 c4 r4.3 r4.2 k in
    (r2.0, r4.0, r4.1, r5.0, r5.1)
  where
    role_back : (s t : List ℕ) (at a b : ℕ) (c : Scan) → c ≡ done (at + length t) a b → Here s at t → (read_role s c).ok ≡ true
        → (role : ℕ) × (role < 4) × Here s at (t ++ role_name role) × (read_role s c ≡ done (at + length (t ++ role_name role)) b role)
    role_back s t at a b c e h k =
        let r = role_sound s (done (at + length t) a b) (rw e at k) in
        let v = length-append t (role_name r.1) in
        let q : at + length t + length (role_name r.1) ≡ at + length (t ++ role_name r.1) = omega arith in
        (r.1, r.2, here_join s t (role_name r.1) at h r.3, rw e (r.4 ∙ ap (λ (p : ℕ). done p b r.1) q))
