-- The ways through a hearing on a row. Assumes nothing.
use mathlib.Core.Path.{◌≡◌, refl, sym, ap, ◌∙◌}
use mathlib.Core.Bool.{Bool, true, false, cond, not, ◌&&◌}
use mathlib.Core.List.{List, ◌++◌}
use Rattle.std.specs.Prelude.{Result, Ok, Err, Some, None}
use Rattle.std.specs.List.{list_any, enumerate_from}
use Rattle.std.proofs.lemmas.List.FromFn.{length-enumerate_from, get_or-enumerate_from}
use Rattle.refusal.specs.declared.Refusal.{Refusal}
use Rattle.refusal.specs.Numbers.{refusal_number}
use Prim.Native.Nat.{ℕ, ◌+◌, ◌<◌, ◌≤◌, max}
use native.Mathlib.Omega.{arith}
use borrow.Author.Tests.{leb-false, not-false}
use lib.Dec.{leb}
use lib.ListN.{length, get_or, take, drop, length-take, length-drop}
use Rattle.frame.specs.declared.Entry.{Entry}
use Rattle.frame.specs.declared.Frame.{Frame}
use Rattle.frame.specs.Layout.{entry_of, no_entry}
use Rattle.cells.specs.Sets.{has_lane}
use Rattle.post.specs.declared.Post.{Post}
use Rattle.post.specs.Record.{last_of, is_source}
use Rattle.post.specs.Newest.{raised_below, newest_entries, order_frame}
use Rattle.post.specs.Taking.{kept, ticked, raised_post, taken}
use Rattle.row.specs.Rows.{part, post_in, known_in, past_in, with_table}
use Rattle.row.proofs.LentRows.{table_lent}
use Rattle.deliver.specs.Known.{KnownDelivery, delivered_from}
use Rattle.deliver.specs.OnRows.{delivered_row}
use Rattle.deliver.proofs.RowWays.{delivered_whole}
use Rattle.frame.specs.Lanes.{any_below}
use Rattle.frame.proofs.Lanes.{any_listed, any_same}
use Rattle.steps.specs.HearAnswer as hearings
use Rattle.steps.specs.HearAnswer.{hear_answer}
use Rattle.steps.specs.declared.Hearing as heard
use Rattle.steps.specs.declared.RowHeard.{RowHeard}
use Rattle.steps.specs.Outcomes.{row_hear_answer, heard_frame}
use Rattle.steps.specs.Values.{hear_count}
use Rattle.steps.specs.Refusals.{has_stamp, strange_entries, is_next, hear_refusal}
use Rattle.steps.specs.Steps.{hear_taken, other_answer, hear_other, hear_step}
use Rattle.steps.specs.Knowing.{Stepped, stepped, hear_took, passed_answer, hears_by, hear_count_by}
use Rattle.steps.specs.Loops.{taken_raised}
use Rattle.steps.proofs.AnswerLaws.{hear_answers}
use Rattle.refusal.proofs.Refused.{refusal_some}
use Rattle.steps.proofs.Passed.{hear_passed}
use Rattle.steps.proofs.Ways.{has_lane_lem, whole}

-- ---- part 1

-- the table that was lent is the row's
pub raised_row : (l m t : List ℕ) (entries : List Entry) → 543 ≤ length l → length t ≡ length (part l 22 136) → m ≡ take 22 l ++ (t ++ drop 136 (drop 22 l))
    → t ≡ raised_below (part l 22 136) entries 8
    → (post_in m ≡ with_table (post_in l) (raised_below (part l 22 136) entries 8)) × ((known_in m ≡ known_in l) × (past_in m ≡ past_in l))
unfolding part
raised_row l m t entries h k e er =
    let long : length t ≡ 136 = k ∙ simp (length-take, length-drop) (omega arith) in
    let w = table_lent l m t h long e in
    (w.0 ∙ ap (with_table (post_in l)) er, (w.1, w.2))

-- ---- part 3

-- on a row that part 1 has raised
pub takes_after : (p : Post) (f : Frame) → taken p f ≡ taken_raised (with_table p (raised_below p.table f.entries 8)) f
unfolding taken taken_raised raised_post
takes_after p f = refl

own_lane : (p : Post) (f : Frame) → (taken_raised p f).lane ≡ p.lane
unfolding taken_raised ticked kept
own_lane p f = go (is_source p p.lane)
  where
    go : (b : Bool) → (cond b (ticked (kept p f.lane f.serial.0 f.stamp.0 f.word) p.serial.0 (max p.clock.0 f.stamp.0 + 1)) (kept p f.lane f.serial.0 f.stamp.0 f.word)).lane ≡ p.lane
    go true = refl
    go false = refl

pub taken_lane : (p : Post) (f : Frame) → (taken p f).lane ≡ p.lane
taken_lane p f = ap (λ (q : Post). q.lane) (takes_after p f) ∙ own_lane (with_table p (raised_below p.table f.entries 8)) f

pub takes_frame : (p q : Post) (f : Frame) (lane : ℕ) (entries : List Entry) → lane ≡ p.lane → q ≡ taken_raised p f → entries ≡ newest_entries q.table
    → ◌≡◌ {A = Frame}
    (record { kind = 1; sender = lane; lane = f.lane; serial = f.serial; stamp = f.stamp; word = f.word; entries = entries })
    (order_frame (taken_raised p f) f.lane f.serial.0 f.stamp.0 f.word)
takes_frame p q f lane entries el eq en =
    let l : (taken_raised p f).lane ≡ p.lane = own_lane p f in
    rw (en, eq, l, el)

-- ---- 28: a test at each entry with its lane

pub strange_of : (f : Frame) (sources : ℕ) → length f.entries ≡ 8
    → list_any (λ (p : ℕ × Entry). has_stamp p.1 && not (has_lane sources p.0)) (enumerate_from 0 f.entries) ≡ strange_entries sources f
unfolding strange_entries
strange_of f sources eight =
    let test = λ (p : ℕ × Entry). has_stamp p.1 && not (has_lane sources p.0) in
    let numbered : List (ℕ × Entry) = enumerate_from 0 f.entries in
    let d : ℕ × Entry = (0, no_entry) in
    let long : length numbered ≡ 8 = length-enumerate_from 0 f.entries ∙ eight in
    any_listed test d numbered ∙ ap (any_below _) long
    ∙ any_same (λ i. test (get_or numbered i d)) (λ i. has_stamp (entry_of f i) && not (has_lane sources i)) 8
    (λ i l. ap test (get_or-enumerate_from 0 f.entries i d (rw eight l) ∙ ap (λ (lane : ℕ). (lane, entry_of f i)) (omega arith)))

-- a row that nothing refuses is whole, and what is to be taken can be
abbrev pub CanTake : List ℕ → Frame → Type 0
CanTake l f =
    (543 ≤ length l) × ((post_in l).lane < 8) × (has_lane (post_in l).sources (post_in l).lane ≡ true → max (post_in l).clock.0 f.stamp.0 < 65535)

pub whole_row : (l : List ℕ) (f : Frame) → hear_refusal (post_in l) f ≡ 0 → (543 ≤ length l) × ((post_in l).lane < 8)
unfolding post_in
whole_row l f r =
    let p = post_in l in
    let y : has_lane p.posts p.lane ≡ true = not-false (has_lane p.posts p.lane) (hear_passed p f r).0 in
    (whole l p.lane y, has_lane_lem p.posts p.lane y)

-- what is not refused by 24 can rise
can_pass : (p : Post) (f : Frame) → hear_refusal p f ≡ 0 → is_next f (last_of p f.lane) ≡ true → is_source p p.lane ≡ true
    → max p.clock.0 f.stamp.0 < 65535
can_pass p f r x q =
    let t : (is_next f (last_of p f.lane) && is_source p p.lane && leb 65535 (max p.clock.0 f.stamp.0)) ≡ false = (hear_passed p f r).1 in
    leb-false 65535 (max p.clock.0 f.stamp.0) (rw (x, q) at t)

-- on a row that part 1 has raised
pub can_take : (l m : List ℕ) (f : Frame) (last : ℕ) (t : Bool) → 0 ≡ hear_refusal (post_in l) f → last ≡ last_of (post_in l) f.lane
    → t ≡ is_next f last → t ≡ true → post_in m ≡ with_table (post_in l) (raised_below (post_in l).table f.entries 8) → 543 ≤ length m
    → CanTake m f
can_take l m f last t en el et s em h =
    let r : hear_refusal (post_in l) f ≡ 0 = sym en in
    let x : is_next f (last_of (post_in l) f.lane) ≡ true = rw el at (sym et ∙ s) in
    let w = whole_row l f r in
    (h, rw em w.1, rw em (can_pass (post_in l) f r x))

-- ---- hear

-- what a hearing promises of the cells before and after it
abbrev pub HearDone : List ℕ → List ℕ → Frame → Result RowHeard Refusal → Type 0
HearDone l m f r =
    (stepped (row_hear_answer r) m (heard_frame r) ≡ hears_by (known_in l) (post_in l) f)
    × (hear_count (row_hear_answer r) ≡ hear_count_by (known_in l) (post_in l) f)

hear_done : (l m : List ℕ) (f : Frame) (r : Result RowHeard Refusal) → stepped (row_hear_answer r) m (heard_frame r) ≡ hears_by (known_in l) (post_in l) f
    → HearDone l m f r
hear_done l m f r e =
    let h : row_hear_answer r ≡ (hears_by (known_in l) (post_in l) f).answer = ap (λ (s : Stepped hearings.HearAnswer). s.answer) e in
    (e, rw h (hear_answers (known_in l) (post_in l) f).1)

-- the order is taken, the entries alone raise the table, and refused
hears : (l m n : List ℕ) (f : Frame) (count : ℕ) (r : Result RowHeard Refusal) → 0 ≡ hear_refusal (post_in l) f
    → heard_frame r ≡ (hear_step (post_in l) f).frame → post_in m ≡ hear_took (post_in l) f → known_in m ≡ known_in l → 543 ≤ length m
    → ◌≡◌ {A = KnownDelivery} (record { post = post_in n; known = known_in n; count = count }) (delivered_row m)
    → row_hear_answer r ≡ passed_answer f (last_of (post_in l) f.lane) count
    → HearDone l n f r
unfolding hears_by
hears l m n f count r en eg em ek h ed ea =
    let d : ◌≡◌ {A = KnownDelivery} (record { post = post_in n; known = known_in n; count = count }) (delivered_from (known_in l) (hear_took (post_in l) f))
    = ed ∙ delivered_whole m h ∙ rw (em, ek)
    in
    hear_done l n f r (rw (sym en, ← d, ea, eg))

pub hear_takes : (l k m n : List ℕ) (f g : Frame) (last count : ℕ) (t : Bool) → 0 ≡ hear_refusal (post_in l) f
    → last ≡ last_of (post_in l) f.lane → t ≡ is_next f last → t ≡ true
    → post_in k ≡ with_table (post_in l) (raised_below (post_in l).table f.entries 8) → known_in k ≡ known_in l
    → g ≡ order_frame (taken_raised (post_in k) f) f.lane f.serial.0 f.stamp.0 f.word → post_in m ≡ taken_raised (post_in k) f
    → known_in m ≡ known_in k → 543 ≤ length m
    → ◌≡◌ {A = KnownDelivery} (record { post = post_in n; known = known_in n; count = count }) (delivered_row m)
    → HearDone l n f (Ok (record { hearing = heard.TheVariants.Taken count; frame = Some g }))
unfolding hear_step hear_taken hear_took
hear_takes l k m n f g last count t en el et s ek kk eg em km h ed =
    let r : hear_refusal (post_in l) f ≡ 0 = sym en in
    let x : is_next f (last_of (post_in l) f.lane) ≡ true = rw el at (sym et ∙ s) in
    let a : taken_raised (post_in k) f ≡ taken (post_in l) f = ap (λ (p : Post). taken_raised p f) ek ∙ sym (takes_after (post_in l) f) in
    hears l m n f count (Ok (record { hearing = heard.TheVariants.Taken count; frame = Some g })) en (rw (r, x, eg, a)) (rw x (em ∙ a)) (km ∙ kk) h ed (rw x)

pub hear_raises : (l m n : List ℕ) (f : Frame) (last count : ℕ) (t : Bool) (a : heard.Hearing) → 0 ≡ hear_refusal (post_in l) f
    → last ≡ last_of (post_in l) f.lane → t ≡ is_next f last → t ≡ false
    → post_in m ≡ with_table (post_in l) (raised_below (post_in l).table f.entries 8) → known_in m ≡ known_in l → 543 ≤ length m
    → ◌≡◌ {A = KnownDelivery} (record { post = post_in n; known = known_in n; count = count }) (delivered_row m)
    → hear_answer (Ok a) ≡ other_answer f last count
    → HearDone l n f (Ok (record { hearing = a; frame = None }))
unfolding hear_step hear_other hear_took raised_post
hear_raises l m n f last count t a en el et s em ek h ed ea =
    let r : hear_refusal (post_in l) f ≡ 0 = sym en in
    let x : is_next f (last_of (post_in l) f.lane) ≡ false = rw el at (sym et ∙ s) in
    hears l m n f count (Ok (record { hearing = a; frame = None })) en (rw (r, x)) (rw x em) ek h ed (rw (x, ← el) ea)

pub hear_stays : (l : List ℕ) (f : Frame) (r : Result RowHeard Refusal) (e : Refusal) → r ≡ Err e → refusal_number e ≡ hear_refusal (post_in l) f
    → HearDone l l f r
unfolding hears_by hear_step
hear_stays l f r e er en = rw er (hear_done l l f (Err e) (rw (sym en, refusal_some e)))

pub is_source_lem : (p : Post) (t : Bool) (lane sources : ℕ) → lane ≡ p.lane → sources ≡ p.sources → t ≡ has_lane sources lane → t ≡ has_lane p.sources p.lane
is_source_lem p t lane sources el es et = rw (el, es) at et
