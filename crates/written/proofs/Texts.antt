-- The posts of a yard line as they are written, one lane after another. Assumes nothing.
use mathlib.Core.Path.{◌≡◌, refl, sym, ap, ap₂, ◌∙◌}
use mathlib.Core.Bool.{Bool, true, false, cond, ◌&&◌, ◌||◌, and-true, and-false, or-true, or-false}
use mathlib.Core.List.{List, [], ◌++◌, append-nil}
use mathlib.Core.Logic.{⊎_elim}
use Prim.Native.Nat.{ℕ, zero, suc, ◌^◌, ◌<◌, ◌≤◌}
use native.Mathlib.Nat.{le_of_suc-le-suc, eq-or-lt_of_le}
use native.Mathlib.Omega.{arith}
use lib.Bits.{bit_or}
use lib.Dec.{eqb}
use borrow.Author.Tests.{eq-eqb, ne_eqb}
use Rattle.text.specs.Bytes.{bytes}
use Rattle.cells.specs.Sets.{has_lane}
use Rattle.lines.specs.Forms.{bit_of}
use Rattle.written.specs.Written.{role_text, post_texts, Roles}
use Rattle.scan.proofs.Laws.{never}
use Rattle.written.proofs.Sets.{has_or, has_bit, has_above, has_none}
use Rattle.written.proofs.Posts.{role_name, post_text}

-- a post's text by whether there is one, and whether it is source and dest
abbrev name_by : Bool → Bool → List ℕ
name_by source dest = cond source (cond dest (bytes "both") (bytes "source")) (cond dest (bytes "dest") (bytes "relay"))

abbrev post_by : ℕ → Bool → Bool → Bool → List ℕ
post_by lane here source dest = cond here (post_text lane (name_by source dest)) []

pub texts_more : (p s d k : ℕ) → post_texts p s d (suc k) ≡ post_texts p s d k ++ post_by k (has_lane p k) (has_lane s k) (has_lane d k)
unfolding post_texts role_text
texts_more p s d k = refl

pub post_yes : (p s d k : ℕ) → has_lane p k ≡ true → post_texts p s d (suc k) ≡ post_texts p s d k ++ post_text k (role_text s d k)
unfolding post_texts
post_yes p s d k e = rw e

pub post_no : (p s d k : ℕ) → has_lane p k ≡ false → post_texts p s d (suc k) ≡ post_texts p s d k
unfolding post_texts
post_no p s d k e = rw e (append-nil (post_texts p s d k))

-- only the lanes below k count
texts_same : (p s d p' s' d' k : ℕ) → ((i : ℕ) → i < k → has_lane p i ≡ has_lane p' i) → ((i : ℕ) → i < k → has_lane s i ≡ has_lane s' i)
    → ((i : ℕ) → i < k → has_lane d i ≡ has_lane d' i) → post_texts p s d k ≡ post_texts p' s' d' k
unfolding post_texts
texts_same p s d p' s' d' zero ep es ed = refl
texts_same p s d p' s' d' (suc k) ep es ed =
    let ih = texts_same p s d p' s' d' k (λ i l. ep i (omega arith)) (λ i l. es i (omega arith)) (λ i l. ed i (omega arith)) in
    texts_more p s d k
    ∙ ap₂ ◌++◌ ih (
    ap (λ (x : Bool). post_by k x (has_lane s k) (has_lane d k)) (ep k (omega arith))
    ∙ ap₂ (λ (x y : Bool). post_by k (has_lane p' k) x y) (es k (omega arith)) (ed k (omega arith))
    )
    ∙ sym (texts_more p' s' d' k)

-- lanes without a post add nothing
texts_stop : (p s d k m : ℕ) → k ≤ m → ((i : ℕ) → k ≤ i → has_lane p i ≡ false) → post_texts p s d m ≡ post_texts p s d k
texts_stop p s d k zero l f = let e : k ≡ 0 = omega arith in rw e refl
texts_stop p s d k (suc m) l f =
    ⊎_elim (λ (e : k ≡ suc m). rw e refl)
    (λ (h : k < suc m). post_no p s d m (f m (le_of_suc-le-suc h)) ∙ texts_stop p s d k m (le_of_suc-le-suc h) f)
    (eq-or-lt_of_le l)

-- ---- a post more

-- a set with a lane more, if a test holds
abbrev pub with_lane : ℕ → Bool → ℕ → ℕ
with_lane set test lane = bit_or set (cond test (bit_of lane) 0)

pub has_with : (set lane i : ℕ) (test : Bool) → lane < 8 → has_lane (with_lane set test lane) i ≡ (has_lane set i || test && eqb lane i)
has_with set lane i test h = has_or set (cond test (bit_of lane) 0) i ∙ ap (λ (x : Bool). has_lane set i || x) (go test)
  where
    go : (t : Bool) → has_lane (cond t (bit_of lane) 0) i ≡ (t && eqb lane i)
    go true = has_bit lane i h
    go false = has_none i

with_other : (set lane i : ℕ) (test : Bool) → lane < 8 → (lane ≡ i → ⊥) → has_lane (with_lane set test lane) i ≡ has_lane set i
with_other set lane i test h n = has_with set lane i test h ∙ rw (ne_eqb lane i n, and-false test) (or-false (has_lane set i))

with_itself : (set lane : ℕ) (test : Bool) → lane < 8 → has_lane set lane ≡ false → has_lane (with_lane set test lane) lane ≡ test
with_itself set lane test h n = has_with set lane lane test h ∙ rw (n, eq-eqb lane lane refl) (and-true test)

pub no_role : (p s lane : ℕ) → Roles p s → has_lane p lane ≡ false → has_lane s lane ≡ false
no_role p s lane f n = go (has_lane s lane) refl
  where
    go : (t : Bool) → has_lane s lane ≡ t → t ≡ false
    go true e = never (sym n ∙ f lane e)
    go false e = refl

abbrev pub is_source : ℕ → Bool
is_source role = eqb role 1 || eqb role 3

abbrev pub is_dest : ℕ → Bool
is_dest role = eqb role 2 || eqb role 3

named : (role : ℕ) → role < 4 → name_by (is_source role) (is_dest role) ≡ role_name role
named zero l = refl
named (suc zero) l = refl
named (suc (suc zero)) l = refl
named (suc (suc (suc zero))) l = refl
named (suc (suc (suc (suc n)))) l = absurd (omega arith)

-- a lane above the others comes last
pub texts_with : (p s d lane role : ℕ) → lane < 8 → role < 4 → p < 2 ^ lane → Roles p s → Roles p d
    → post_texts (with_lane p true lane) (with_lane s (is_source role) lane) (with_lane d (is_dest role) lane) 8 ≡ post_texts p s d 8 ++ post_text lane (role_name role)
texts_with p s d lane role h l k fs fd =
    let p' = with_lane p true lane in
    let s' = with_lane s (is_source role) lane in
    let d' = with_lane d (is_dest role) lane in
    let none : has_lane p lane ≡ false = has_above p lane lane k (omega arith) in
    let others : post_texts p' s' d' lane ≡ post_texts p s d lane =
    texts_same p' s' d' p s d lane (λ i g. with_other p lane i true h (λ e. omega arith)) (λ i g. with_other s lane i (is_source role) h (λ e. omega arith))
    (λ i g. with_other d lane i (is_dest role) h (λ e. omega arith)) in
    let all : post_texts p s d 8 ≡ post_texts p s d lane = texts_stop p s d lane 8 (omega arith) (λ i g. has_above p lane i k g) in
    let source = with_itself s lane (is_source role) h (no_role p s lane fs none) in
    let dest = with_itself d lane (is_dest role) h (no_role p d lane fd none) in
    let last : post_by lane (has_lane p' lane) (has_lane s' lane) (has_lane d' lane) ≡ post_text lane (role_name role) =
    ap (λ (x : Bool). post_by lane x (has_lane s' lane) (has_lane d' lane)) (with_itself p lane true h none)
    ∙ ap₂ (λ (x y : Bool). post_text lane (name_by x y)) source dest ∙ ap (post_text lane) (named role l) in
    texts_stop p' s' d' (suc lane) 8 h (λ i g. with_other p lane i true h (λ e. omega arith) ∙ has_above p lane i k (omega arith))
    ∙ texts_more p' s' d' lane ∙ ap₂ ◌++◌ (others ∙ sym all) last

-- no role at a lane without a post, still
pub roles_with : (p s lane : ℕ) (test : Bool) → lane < 8 → Roles p s → Roles (with_lane p true lane) (with_lane s test lane)
roles_with p s lane test h f i e = go (eqb lane i) refl (has_lane s i) refl
  where
    go : (t : Bool) → eqb lane i ≡ t → (b : Bool) → has_lane s i ≡ b → has_lane (with_lane p true lane) i ≡ true
    go true q b r = has_with p lane i true h ∙ rw q (or-true (has_lane p i))
    go false q true r = has_with p lane i true h ∙ rw (q, f i r) refl
    go false q false r = never (sym (has_with s lane i test h ∙ rw (r, q) (and-false test)) ∙ e)
