-- The ways through the judgement; what it makes known is so. Assumes nothing.
use mathlib.Core.Path.{◌≡◌, refl, sym, ◌∙◌}
use mathlib.Core.Bool.{Bool, true, false, ◌||◌}
use mathlib.Core.List.{List}
use Rattle.std.proofs.Common.{Bor}
use Rattle.std.specs.Prelude.{Result, Ok}
use Rattle.std.specs.Result.{MatchResult}
use Rattle.std.specs.Array.{IsWholeChunk}
use Rattle.std.proofs.lemmas.Result.{MatchResult-at_ok}
use Rattle.row.specs.declared.Numbers.{Numbers}
use Prim.Native.Nat.{ℕ, ◌+◌, ◌-◌, ◌<◌, ◌≤◌, min}
use native.Mathlib.Omega.{arith}
use borrow.Author.Tests.{le-leb, lt-leb}
use lib.Dec.{leb}
use lib.ListN.{length, get_or, take, drop, replicate}
use Rattle.frame.specs.Lanes.{any_below}
use Rattle.post.specs.declared.Post.{Post}
use Rattle.row.specs.Rows.{part, post_in, numbers_of, known_in, past_in}
use Rattle.deliver.specs.Known.{Known, known_below}
use Rattle.deliver.proofs.KnownLaws.{known_none, below_known}
use Rattle.judge.specs.Judgement.{bad_orders, bad_log, bad_record}
use Rattle.judge.specs.Parts.{bad_numbers, bad_numbers_in, bad_order_in, bad_used_in, bad_unused_in}
use Rattle.judge.specs.OnRows.{row_refusal, known_by_log, judged_known}
use Rattle.judge.proofs.Laws.{log_parts}

-- ---- the numbers

pub numbers_are : (l : List ℕ) → bad_numbers_in (numbers_of (post_in l)) (take 8 (drop 6 l)) ≡ bad_numbers (post_in l)
unfolding post_in part
numbers_are l = refl

-- ---- all of it

-- what `judge` promises
abbrev pub Judged : List ℕ → ℕ → List ℕ → Type 0
Judged l r m = (r ≡ row_refusal l) × ((post_in m ≡ post_in l) × ((known_in m ≡ judged_known l) × (past_in m ≡ past_in l)))

pub cut_short : (l : List ℕ) → length l < 543 → Judged l 12 l
unfolding row_refusal judged_known
cut_short l h = let e : leb 543 (length l) ≡ false = lt-leb 543 (length l) h in (rw e, (refl, (rw e, refl)))

row_bad : (l : List ℕ) → 543 ≤ length l → bad_record (post_in l) ≡ true → Judged l 12 l
unfolding row_refusal judged_known
row_bad l h b = let e : leb 543 (length l) ≡ true = le-leb 543 (length l) h in (rw (e, b), (refl, (rw (e, b), refl)))

-- what the tests but that of the log's orders said of a row
pub record Tested (l : List ℕ) (n : ℕ) (a b v : Bool) : Type 0 where
  pub whole : 543 ≤ length l
  pub some : n ≡ min (post_in l).logged 128
  pub numbers : a ≡ bad_numbers (post_in l)
  pub orders : b ≡ any_below (bad_order_in (take 8 (drop 6 l)) (take 128 (drop 158 l)) (take 128 (drop 286 l))) 128
  pub unused : v ≡ any_below (λ (k : ℕ). bad_unused_in (take 128 (drop 414 l)) (n + k)) (128 - n)

pub tested : (l last stamps words log : List ℕ) (numbers : Numbers) (n : ℕ) (bad orders unused : Bool) → 543 ≤ length l
    → last ≡ take 8 (drop 6 l) → stamps ≡ take 128 (drop 158 l) → words ≡ take 128 (drop 286 l) → log ≡ take 128 (drop 414 l)
    → numbers ≡ numbers_of (post_in l) → n ≡ min numbers.logged 128
    → bad ≡ bad_numbers_in numbers last → orders ≡ any_below (bad_order_in last stamps words) 128
    → unused ≡ any_below (λ (k : ℕ). bad_unused_in log (n + k)) (128 - n)
    → Tested l n bad orders unused
tested l last stamps words log numbers n bad orders unused h la st wo lo nu en enu eo eu =
    record { whole = h; some = rw nu at en; numbers = (rw (la, nu) at enu) ∙ numbers_are l; orders = rw (la, st, wo) at eo; unused = rw lo at eu }

-- a part that was lent as an array
pub lent_part : {E : Type 0} (r : Result (Bor (List ℕ)) E) (part : List ℕ) (n : ℕ) (y : Bor (List ℕ)) (Q : E → Type 0)
    → MatchResult r (λ y. IsWholeChunk part y.now n) Q → r ≡ Ok y → y.now ≡ part
lent_part r part n y Q h e = (MatchResult-at_ok (λ (y : Bor (List ℕ)). IsWholeChunk part y.now n) Q y e h).same

bad_parts : (l : List ℕ) (n : ℕ) (numbers orders unused used : Bool) → Tested l n numbers orders unused
    → used ≡ any_below (bad_used_in (take 8 (drop 6 l)) (take 128 (drop 414 l))) n
    → ((numbers || orders) || (used || unused)) ≡ bad_record (post_in l)
unfolding bad_record bad_orders bad_log post_in part
bad_parts l n numbers orders unused used t e =
    let g = log_parts (take 8 (drop 6 l)) (take 128 (drop 414 l)) (get_or l 5 0) n used unused t.some e t.unused in
    rw (g, t.numbers, t.orders)

pub tests_bad : (l : List ℕ) (n : ℕ) (numbers orders unused : Bool) → Tested l n numbers orders unused → ((numbers || orders) || unused) ≡ true → Judged l 12 l
tests_bad l n numbers orders unused t b =
    let used : Bool = any_below (bad_used_in (take 8 (drop 6 l)) (take 128 (drop 414 l))) n in
    row_bad l t.whole (sym (bad_parts l n numbers orders unused used t refl) ∙ go (numbers || orders) used unused b)
  where
    go : (a u v : Bool) → (a || v) ≡ true → (a || (u || v)) ≡ true
    go true u v e = refl
    go false true v e = refl
    go false false v e = e

pub used_bad : (l : List ℕ) (n : ℕ) (numbers orders unused used : Bool) → Tested l n numbers orders unused
    → used ≡ any_below (bad_used_in (take 8 (drop 6 l)) (take 128 (drop 414 l))) n → used ≡ true → Judged l 12 l
used_bad l n numbers orders unused used t e b =
    row_bad l t.whole (sym (bad_parts l n numbers orders unused used t e) ∙ rw b (go (numbers || orders)))
  where
    go : (a : Bool) → (a || true) ≡ true
    go true = refl
    go false = refl

pub all_good : (l m known : List ℕ) (n : ℕ) (numbers orders unused used : Bool) → Tested l n numbers orders unused → ((numbers || orders) || unused) ≡ false
    → used ≡ any_below (bad_used_in (take 8 (drop 6 l)) (take 128 (drop 414 l))) n → used ≡ false
    → known ≡ known_below (replicate 8 0) (take 128 (drop 414 l)) 0 n → post_in m ≡ post_in l → known_in m ≡ known → past_in m ≡ past_in l
    → Judged l 0 m
unfolding row_refusal judged_known known_by_log post_in part
all_good l m known n numbers orders unused used t b e u ek em km pm =
    let g : bad_record (post_in l) ≡ false = sym (bad_parts l n numbers orders unused used t e) ∙ rw u b in
    let w : leb 543 (length l) ≡ true = le-leb 543 (length l) t.whole in
    (rw (w, g), (em, (rw (km, ek, w, g, t.some), pm)))

-- ---- what the log makes known is so

pub log_known : (p : Post) → Known (known_by_log p) p
unfolding known_by_log
log_known p = below_known (replicate 8 0) p 0 (min p.logged 128) (omega arith) (known_none p)
