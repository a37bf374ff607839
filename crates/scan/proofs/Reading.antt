-- Texts and numbers read one after the other are those that are written there. Assumes nothing.
use mathlib.Core.Path.{◌≡◌, refl, sym, ap, ◌∙◌}
use mathlib.Core.Bool.{Bool, true, false, cond, ◌&&◌}
use mathlib.Core.List.{List, ◌∷◌, ◌++◌}
use Prim.Native.Nat.{ℕ, ◌+◌, ◌<◌}
use native.Mathlib.Omega.{arith}
use lib.ListN.{length, length-append}
use Rattle.text.specs.Decimal.{decimal}
use Rattle.scan.specs.declared.Scan.{Scan}
use Rattle.scan.specs.Scan.{read_text, read_number, stands, digit_at, failed}
use Rattle.scan.proofs.Laws.{never, both, digit_low}
use Rattle.scan.proofs.Here.{Here, stands_here, here_stands, here_head, here_join}
use Rattle.scan.proofs.Number.{done, Read, number_sound, number_complete}

pub text_sound : (s t : List ℕ) (c : Scan) → (read_text s t c).ok ≡ true → (c.ok ≡ true) × Here s c.at t × (read_text s t c ≡ done (c.at + length t) c.earlier c.latest)
unfolding read_text
text_sound s t c h = go (c.ok && stands s c.at t) refl h
  where
    go : (b : Bool) → (c.ok && stands s c.at t) ≡ b → (cond b (done (c.at + length t) c.earlier c.latest) (failed c)).ok ≡ true
        → (c.ok ≡ true) × Here s c.at t × (cond b (done (c.at + length t) c.earlier c.latest) (failed c) ≡ done (c.at + length t) c.earlier c.latest)
    go true e q = let p = both c.ok (stands s c.at t) e in (p.0, stands_here s t c.at p.1, refl)
    go false e q = never q

pub text_complete : (s t : List ℕ) (at a b : ℕ) → Here s at t → read_text s t (done at a b) ≡ done (at + length t) a b
unfolding read_text
text_complete s t at a b h = rw (here_stands s t at h)

-- no digit stands where a byte below 48 stands
pub no_digit : (s t : List ℕ) (at x : ℕ) → x < 48 → Here s at (x ∷ t) → digit_at s at ≡ 10
no_digit s t at x l h = sym (digit_low s at x (sym (here_head s t at x h)) l)

-- the text t is read, and u or a number is written next
pub text_step : (s t u : List ℕ) (at a b : ℕ) → Here s (at + length t) u → read_text s u (done (at + length t) a b) ≡ done (at + length (t ++ u)) a b
text_step s t u at a b h =
    let v = length-append t u in
    let q : at + length t + length u ≡ at + length (t ++ u) = omega arith in
    text_complete s u (at + length t) a b h ∙ ap (λ (p : ℕ). done p a b) q

pub number_step : (s t : List ℕ) (at a b n : ℕ) → n < 100000 → Here s (at + length t) (decimal n) → digit_at s (at + length (t ++ decimal n)) ≡ 10
    → read_number s (done (at + length t) a b) ≡ done (at + length (t ++ decimal n)) b n
number_step s t at a b n l h z =
    let v = length-append t (decimal n) in
    let q : at + length t + length (decimal n) ≡ at + length (t ++ decimal n) = omega arith in
    number_complete s (done (at + length t) a b) n refl l h (rw q z) ∙ ap (λ (p : ℕ). done p b n) q

-- the text t was read: u or a number is read next
pub text_back : (s t u : List ℕ) (at a b : ℕ) (c : Scan) → c ≡ done (at + length t) a b → Here s at t → (read_text s u c).ok ≡ true
    → Here s at (t ++ u) × (read_text s u c ≡ done (at + length (t ++ u)) a b)
text_back s t u at a b c e h k =
    let r = text_sound s u (done (at + length t) a b) (rw e at k) in
    (here_join s t u at h r.1, rw e (text_step s t u at a b r.1))

pub number_back : (s t : List ℕ) (at a b : ℕ) (c : Scan) → c ≡ done (at + length t) a b → Here s at t → (read_number s c).ok ≡ true
    → (n : ℕ) × (n < 100000) × Here s at (t ++ decimal n) × (read_number s c ≡ done (at + length (t ++ decimal n)) b n)
unfolding Read
number_back s t at a b c e h k =
    let r = (number_sound s (done (at + length t) a b) (rw e at k)).1 in
    let v = length-append t (decimal r.0) in
    let q : at + length t + length (decimal r.0) ≡ at + length (t ++ decimal r.0) = omega arith in
    (r.0, r.3, here_join s t (decimal r.0) at h r.2, rw e (r.1 ∙ ap (λ (p : ℕ). done p b r.0) q))
