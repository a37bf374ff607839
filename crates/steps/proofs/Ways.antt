-- The ways through order and beacon on a row, and what a row is that is not refused. Assumes nothing.
use mathlib.Core.Path.{◌≡◌, refl, sym, ap, ◌∙◌}
use mathlib.Core.Bool.{Bool, true, false, ◌&&◌}
use mathlib.Core.List.{List}
use Rattle.std.specs.Prelude.{Result, Ok, Err}
use Rattle.refusal.specs.declared.Refusal.{Refusal}
use Rattle.refusal.specs.Numbers.{refusal_number}
use Rattle.newest.specs.OnRows.{entries_in}
use Rattle.newest.proofs.RowWays.{entries_whole}
use Prim.Native.Nat.{ℕ, ◌+◌, ◌/◌, ◌%◌, ◌^◌, ◌<◌, ◌≤◌}
use native.Mathlib.Nat.{zero-div}
use native.Mathlib.Omega.{arith}
use borrow.Author.Tests.{ltb-true, ltb-false, leb-false, not-false}
use lib.Dec.{ltb, eqb}
use lib.ListN.{length, get_or, get_or-eq_default}
use Rattle.frame.specs.declared.Entry.{Entry}
use Rattle.frame.specs.declared.Frame.{Frame}
use Rattle.cells.specs.Sets.{has_lane}
use Rattle.post.specs.declared.Post.{Post}
use Rattle.post.specs.Newest.{newest_entries}
use Rattle.post.specs.Taking.{kept, ticked, own_taken}
use Rattle.row.specs.Rows.{post_in, known_in}
use Rattle.deliver.specs.Known.{KnownDelivery, delivered_from}
use Rattle.deliver.specs.OnRows.{delivered_row}
use Rattle.deliver.proofs.RowWays.{delivered_whole}
use Rattle.steps.specs.OrderAnswer as orders
use Rattle.steps.specs.Refusals.{order_refusal}
use Rattle.steps.specs.Steps.{order_sent, order_step}
use Rattle.steps.specs.Outcomes.{row_order_answer, ordered_frame}
use Rattle.steps.specs.declared.RowOrdered.{RowOrdered}
use Rattle.steps.specs.Knowing.{Stepped, stepped, orders_by}
use Rattle.steps.proofs.AnswerLaws.{OrderAnswers, order_answers}
use Rattle.refusal.proofs.Refused.{refusal_some}
use Rattle.steps.proofs.Passed.{order_passed}

-- ---- what a row is that is not refused: whole, and of a lane

has_no : (lane : ℕ) → has_lane 0 lane ≡ false
has_no lane = rw zero-div (go (ltb lane 8))
  where
    go : (t : Bool) → (t && eqb (0 % 2) 1) ≡ false
    go true = refl
    go false = refl

pub has_lane_lem : (lanes lane : ℕ) → has_lane lanes lane ≡ true → lane < 8
has_lane_lem lanes lane e = go (ltb lane 8) refl e
  where
    go : (t : Bool) → ltb lane 8 ≡ t → (ltb lane 8 && eqb (lanes / 2 ^ lane % 2) 1) ≡ true → lane < 8
    go true s e = ltb-true lane 8 s
    go false s e = absurd (let z : true ≡ false = sym e ∙ rw s in let w : ◌≡◌ {A = ℕ} 0 1 = cc in omega arith)

pub whole : (l : List ℕ) (lane : ℕ) → has_lane (get_or l 542 0) lane ≡ true → 543 ≤ length l
whole l lane e = go (ltb 542 (length l)) refl
  where
    go : (t : Bool) → ltb 542 (length l) ≡ t → 543 ≤ length l
    go true s = omega (arith, ltb-true 542 (length l) s)
    go false s =
        let z : get_or l 542 0 ≡ 0 = get_or-eq_default l 0 {n = 542} (ltb-false 542 (length l) s) in
        let y : has_lane 0 lane ≡ true = rw z at e in
        absurd (let w : ◌≡◌ {A = ℕ} 0 1 = cc (has_no lane) in omega arith)

-- ---- order

-- what an order promises of the cells before and after it
abbrev pub OrderDone : List ℕ → List ℕ → ℕ → Result RowOrdered Refusal → Type 0
OrderDone l m word r =
    (stepped (row_order_answer r) m (ordered_frame r) ≡ orders_by (known_in l) (post_in l) word)
    × OrderAnswers (known_in l) (post_in l) word (row_order_answer r)

order_done : (l m : List ℕ) (word : ℕ) (r : Result RowOrdered Refusal) → stepped (row_order_answer r) m (ordered_frame r) ≡ orders_by (known_in l) (post_in l) word
    → OrderDone l m word r
order_done l m word r e =
    let h : row_order_answer r ≡ (orders_by (known_in l) (post_in l) word).answer = ap (λ (s : Stepped orders.OrderAnswer). s.answer) e in
    (e, rw h (order_answers (known_in l) (post_in l) word))

-- what is not refused by 23 and 24 can rise
pub can_rise : (p : Post) → order_refusal p ≡ 0 → (p.clock.0 < 65535) × (p.serial.0 < 16)
can_rise p z =
    let a = order_passed p z in
    (leb-false 65535 p.clock.0 a.3, leb-false 16 p.serial.0 a.2)

-- a row that nothing refuses is whole, and of a lane
pub can_send : (l : List ℕ) → 0 ≡ order_refusal (post_in l)
    → (543 ≤ length l) × ((post_in l).lane < 8) × ((post_in l).clock.0 < 65535) × ((post_in l).serial.0 < 16)
unfolding post_in
can_send l z =
    let p = post_in l in
    let r = can_rise p (sym z) in
    let y : has_lane p.posts p.lane ≡ true = not-false (has_lane p.posts p.lane) (order_passed p (sym z)).0 in
    (whole l p.lane y, has_lane_lem p.posts p.lane y, r.0, r.1)

pub sends : (p a q : Post) (word lane serial clock : ℕ) (entries : List Entry) → lane ≡ p.lane → serial ≡ p.serial.0 → clock ≡ p.clock.0
    → a ≡ ticked p (serial + 1) (clock + 1) → q ≡ kept a lane (serial + 1) (clock + 1) word → entries ≡ newest_entries q.table
    → (◌≡◌ {A = Frame} (record { kind = 1; sender = lane; lane = lane; serial = record { 0 = serial + 1 }; stamp = record { 0 = clock + 1 }; word = word; entries = entries }) (order_sent p word).frame)
    × (q ≡ own_taken p word)
unfolding order_sent own_taken kept ticked
sends p a q word lane serial clock entries el es ec ea eq en = (rw (en, eq, ea, el, es, ec), rw (eq, ea, el, es, ec))

-- the whole step: not refused, and refused
pub orders_are : (l m n : List ℕ) (word count : ℕ) (g : Frame) → 0 ≡ order_refusal (post_in l)
    → g ≡ (order_sent (post_in l) word).frame → post_in m ≡ own_taken (post_in l) word → known_in m ≡ known_in l → 543 ≤ length m
    → ◌≡◌ {A = KnownDelivery} (record { post = post_in n; known = known_in n; count = count }) (delivered_row m)
    → OrderDone l n word (Ok (record { sent = record { serial = g.serial; stamp = g.stamp; count = count }; frame = g }))
unfolding orders_by order_step order_sent
orders_are l m n word count g en eg em ek h ed =
    let d : ◌≡◌ {A = KnownDelivery} (record { post = post_in n; known = known_in n; count = count }) (delivered_from (known_in l) (own_taken (post_in l) word))
    = ed ∙ delivered_whole m h ∙ rw (em, ek)
    in
    order_done l n word (Ok (record { sent = record { serial = g.serial; stamp = g.stamp; count = count }; frame = g })) (rw (sym en, ← d, eg))

pub order_stays : (l : List ℕ) (word : ℕ) (r : Result RowOrdered Refusal) (e : Refusal) → r ≡ Err e → refusal_number e ≡ order_refusal (post_in l)
    → OrderDone l l word r
unfolding orders_by order_step
order_stays l word r e er en = rw er (order_done l l word (Err e) (rw (sym en, refusal_some e)))

-- ---- beacon

-- a row in whose set of posts a lane is, is whole, and has entries
pub entries_sent : (l : List ℕ) (lane : ℕ) → has_lane (post_in l).posts lane ≡ true → entries_in l ≡ newest_entries (post_in l).table
unfolding post_in
entries_sent l lane y = entries_whole l (whole l lane y)

-- a row in whose set of posts its lane is, is whole, and of a lane
pub in_yard_lem : (l : List ℕ) (lane posts : ℕ) (t : Bool) → lane ≡ (post_in l).lane → posts ≡ (post_in l).posts → t ≡ has_lane posts lane → t ≡ true
    → (543 ≤ length l) × (lane < 8)
unfolding post_in
in_yard_lem l lane posts t el ep et s =
    let y : has_lane (post_in l).posts lane ≡ true = rw ep at (sym et ∙ s) in
    (whole l lane y, has_lane_lem (post_in l).posts lane y)
