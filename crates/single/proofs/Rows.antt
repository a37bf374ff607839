-- The row that a record is put into: judged there, it knows what its log makes known, and after a step it has the record that
-- the step leaves. Assumes nothing.
use mathlib.Core.Path.{◌≡◌, refl, ap, ◌∙◌}
use mathlib.Core.Bool.{false}
use mathlib.Core.List.{List}
use Prim.Native.Nat.{ℕ, ◌<◌}
use native.Mathlib.Omega.{arith}
use native.Mathlib.Decide.{dec_lt}
use borrow.Author.Rules.{elem_Fits}
use borrow.Author.Tests.{le-leb}
use mir.Syntax.{w16}
use mir.Val.{Val}
use denote.Shadow.{shadow}
use lib.ListN.{length, get_or, get_or-eq_default}
use Rattle.frame.specs.declared.Frame.{Frame}
use Rattle.post.specs.declared.Post.{Post}
use Rattle.post.specs.contracts.Post.{the_row}
use Rattle.row.specs.Rows.{post_in, known_in}
use Rattle.post_row.specs.Records.{record_in, Fits}
use Rattle.post_row.proofs.Storing.{stored_whole}
use Rattle.judge.specs.Judgement.{bad_record, record_refusal}
use Rattle.judge.specs.OnRows.{row_refusal, known_by_log, judged_known}
use Rattle.judge.proofs.Ways.{log_known}
use Rattle.steps.specs.Steps.{order_step, hear_step}
use Rattle.steps.specs.Steps as after
use Rattle.steps.specs.Knowing.{Stepped, stepped, orders_by, hears_by}
use Rattle.steps.specs.OrderAnswer.{OrderAnswer}
use Rattle.steps.specs.HearAnswer.{HearAnswer}
use Rattle.steps.proofs.KnownSteps.{orders_known, hears_known}
use Rattle.laws.specs.Records.{Shaped, Valid}
use Rattle.laws.proofs.Valid.{judged_valid}
use Rattle.single.specs.Judged.{Judged}
use Rattle.single.proofs.Judged.{record_good}

-- ---- what the type `Post` says of a record

pub of_type : (p : Post) (us : List Val) → shadow (the_row.own_val p us) → Shaped p
of_type p us h =
    let a = h.1.1.1.1.1.1.1.1.1 in
    record {
      last = a.0.1.0.1;
      table = a.1.0.1.0.1;
      stamps = a.1.1.0.1.0.1;
      words = a.1.1.1.0.1.0.1;
      log = a.1.1.1.1.0.1.0.1;
      table_values = λ i. (elem_Fits w16 w16 p.table _ i a.1.0.1.1 tt).fits;
      stamp_values = λ i. (elem_Fits w16 w16 p.stamps _ i a.1.1.0.1.1 tt).fits;
      word_values = λ i. (elem_Fits w16 w16 p.words _ i a.1.1.1.0.1.1 tt).fits;
      clock = omega arith;
      posts = omega arith;
      sources = omega arith;
      dests = omega arith;
    }

-- ---- the record in its row

pub row_judged : (p : Post) (l : List ℕ) (n : ℕ) → length l ≡ 543 → post_in l ≡ p → n ≡ row_refusal l → n ≡ record_refusal p
unfolding row_refusal
row_judged p l n w h e = rw (le-leb 543 (length l) (omega arith), h) at e

-- a good row knows what is so
pub judged : (p : Post) (l m : List ℕ) → Shaped p → length l ≡ 543 → post_in l ≡ p → 0 ≡ row_refusal l → length m ≡ 543 → post_in m ≡ post_in l
    → known_in m ≡ judged_known l → Judged p m
unfolding judged_known
judged p l m s w h z wm em km =
    let k : known_in m ≡ known_by_log p = km ∙ rw (← z, h) in
    record { whole = wm; post = em ∙ h; known = rw k (log_known p); shaped = s; good = record_good p 0 (row_judged p l 0 w h z) refl }

-- ---- the record that a step leaves

-- the numbers of a good record fit their bytes
good_fits : (p : Post) → Shaped p → bad_record p ≡ false → Fits p
good_fits p s b = record {
  lane = omega (arith, v.lane);
  posts = s.posts;
  sources = s.sources;
  dests = s.dests;
  serial = omega (arith, v.serial);
  logged = omega (arith, v.logged);
  last = λ i. last i (dec_lt i 8);
  log = λ i. log i (dec_lt i p.logged) (dec_lt i 128);
}
  where
    v : Valid p
    v = judged_valid p b

    last : (i : ℕ) → Dec (i < 8) → get_or p.last i 0 < 256
    last i (yes h) = omega (arith, v.last i h)
    last i (no h) = rw (get_or-eq_default p.last 0 {n = i} (omega (arith, s.last))) (omega arith)

    log : (i : ℕ) → Dec (i < p.logged) → Dec (i < 128) → get_or p.log i 0 < 256
    log i (yes h) d = omega (arith, v.places i h)
    log i (no h) (yes d) = rw (v.rest i (omega arith) d) (omega arith)
    log i (no h) (no d) = rw (get_or-eq_default p.log 0 {n = i} (omega (arith, s.log))) (omega arith)

pub stored : (m : List ℕ) (q r : Post) → length m ≡ 543 → post_in m ≡ q → Shaped q × (bad_record q ≡ false) → r ≡ record_in m → r ≡ q
stored m q r h e g er =
    let f : Fits (post_in m) = rw e (good_fits q g.0 g.1) in
    er ∙ stored_whole m (omega arith) f ∙ e

-- what the steps answer, leave and broadcast on such a row
pub order_runs : (p : Post) (word : ℕ) (l m : List ℕ) (a : OrderAnswer) (f : Frame) → Judged p l → stepped a m f ≡ orders_by (known_in l) (post_in l) word
    → ◌≡◌ {A = after.Ordered} (record { answer = a; post = post_in m; frame = f }) (order_step p word)
order_runs p word l m a f j e =
    ap (λ (y : Stepped OrderAnswer). record { answer = y.answer; post = y.post; frame = y.frame }) ((rw j.post at e) ∙ (orders_known (known_in l) p word j.known).0)

pub hear_runs : (p : Post) (g : Frame) (l m : List ℕ) (a : HearAnswer) (f : Frame) → Judged p l → stepped a m f ≡ hears_by (known_in l) (post_in l) g
    → ◌≡◌ {A = after.Heard} (record { answer = a; post = post_in m; frame = f }) (hear_step p g)
hear_runs p g l m a f j e =
    ap (λ (y : Stepped HearAnswer). record { answer = y.answer; post = y.post; frame = y.frame }) ((rw j.post at e) ∙ (hears_known (known_in l) p g j.known).0)
