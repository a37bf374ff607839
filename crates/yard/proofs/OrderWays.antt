-- The ways through an order on a state. Assumes nothing.
use mathlib.Core.Path.{◌≡◌, refl, sym, ◌∙◌}
use mathlib.Core.Bool.{Bool, true, false, cond}
use mathlib.Core.List.{List, []}
use Prim.Native.Nat.{ℕ, ◌+◌, ◌*◌, ◌<◌, ◌≤◌}
use native.Mathlib.Omega.{arith}
use lib.Dec.{ltb, eqb}
use lib.ListN.{length, get_or, set, length-set}
use borrow.Author.Tests.{eq-eqb, ne_eqb, lt-ltb, le-ltb}
use Rattle.frame.specs.Layout.{no_frame}
use Rattle.frame.specs.declared.Frame.{Frame}
use Rattle.air.specs.Air.{place_refusal, frames_with}
use Rattle.air.proofs.Laws.{has_place}
use Rattle.cells.specs.Tables.{order_place}
use Rattle.post.specs.declared.Post.{Post}
use Rattle.post.specs.Taking.{kept, ticked, own_taken}
use Rattle.row.specs.Rows.{put_in, post_in, known_in}
use Rattle.deliver.specs.Known.{delivered_from}
use Rattle.steps.specs.Refusals.{order_refusal}
use Rattle.steps.specs.Steps.{order_sent, order_step}
use Rattle.steps.specs.Knowing.{Stepped, stepped, orders_by}
use Rattle.steps.specs.OrderAnswer as orders
use Rattle.state.specs.Yards.{Yard, post_at}
use Rattle.state.specs.Changed.{with_post}
use Rattle.yard.specs.Singles.{frames_after}
use Rattle.state.specs.States.{Held, whole, other, row_of, yard_in, knowns_in, held_in}
use Rattle.yard.specs.InState.{After, after, with_order, orders_in}
use Rattle.row.proofs.LentParts.{put_part}
use Rattle.state.proofs.StateLaws.{held_whole, held_other, at_yard, at_knowns, frames_in_lem, front_cell, row_long, row_yard, row_knowns, lent_row, row_back, lent_is, back_is, lent_length, frames_yard, frames_knowns, with_first, first_held}
use Rattle.yard.proofs.PartWays.{Sends, Noted, no_kind, none_sent_lem, first_kept}

-- refused: 4, 5, 12, 13
over_7 : (h : Held) (air : List ℕ) (lane word : ℕ) → 8 ≤ lane
    → ◌≡◌ {A = After orders.OrderAnswer} (record { answer = orders.Refused 4; held = h; air = air }) (orders_in h air lane word)
unfolding orders_in
over_7 (whole y knowns) air lane word l = rw (lt-ltb 7 lane l)
over_7 (other cells) air lane word l = rw (lt-ltb 7 lane l)

pub order_over_7 : (s air : List ℕ) (lane word : ℕ) → 8 ≤ lane → after (orders.Refused 4) s air ≡ orders_in (held_in s) air lane word
order_over_7 s air lane word l = over_7 (held_in s) air lane word l

large : (h : Held) (air : List ℕ) (lane word : ℕ) → lane < 8 → 65535 < word
    → ◌≡◌ {A = After orders.OrderAnswer} (record { answer = orders.Refused 5; held = h; air = air }) (orders_in h air lane word)
unfolding orders_in
large (whole y knowns) air lane word l w = rw (le-ltb 7 lane (omega arith), lt-ltb 65535 word w)
large (other cells) air lane word l w = rw (le-ltb 7 lane (omega arith), lt-ltb 65535 word w)

pub order_large : (s air : List ℕ) (lane word : ℕ) → lane < 8 → 65535 < word → after (orders.Refused 5) s air ≡ orders_in (held_in s) air lane word
order_large s air lane word l w = large (held_in s) air lane word l w

pub order_short : (s air : List ℕ) (lane word : ℕ) → lane < 8 → word ≤ 65535 → (length s ≡ 4483 → ⊥)
    → after (orders.Refused 12) s air ≡ orders_in (held_in s) air lane word
unfolding orders_in
order_short s air lane word l w h = rw (held_other s h, le-ltb 7 lane (omega arith), le-ltb 65535 word w)

pub order_no_air : (s air : List ℕ) (lane word : ℕ) → lane < 8 → word ≤ 65535 → length s ≡ 4483 → (length air ≡ 65536 → ⊥)
    → after (orders.Refused 13) s air ≡ orders_in (held_in s) air lane word
unfolding orders_in
order_no_air s air lane word l w h a = rw (held_whole s h, le-ltb 7 lane (omega arith), le-ltb 65535 word w, ne_eqb (length air) 65536 a)

-- over a whole yard
runs : (y : Yard) (ks : List (List ℕ)) (air exit : List ℕ) (lane word frames : ℕ) (d : Stepped orders.OrderAnswer) → lane < 8 → word ≤ 65535 → length air ≡ 65536
    → d ≡ orders_by (get_or ks lane []) (post_at y lane) word → frames ≡ frames_after air y.frames d.frame → exit ≡ frames_with air y.frames d.frame
    → ◌≡◌ {A = After orders.OrderAnswer} (record { answer = d.answer; held = whole (with_order y lane d.post frames) (set ks lane d.known); air = exit })
    (orders_in (whole y ks) air lane word)
unfolding orders_in
runs y ks air exit lane word frames d l w a ed ef ex = rw (le-ltb 7 lane (omega arith), le-ltb 65535 word w, eq-eqb (length air) 65536 a, ef, ex, ed)

-- ---- the first frame

-- a broadcast has the serial of the post that it leaves, or is none
same_serial : (known : List ℕ) (p : Post) (word : ℕ) (b : Bool) → eqb (order_refusal p) 0 ≡ b
    → cond b ((orders_by known p word).frame.serial.0 ≡ (orders_by known p word).post.serial.0) ((orders_by known p word).frame.kind ≡ 0)
unfolding orders_by order_step order_sent delivered_from own_taken kept ticked
same_serial known p word true e = rw e
same_serial known p word false e = rw e

-- none is not counted
none_counted : (air : List ℕ) (frames : ℕ) (f : Frame) → f.kind ≡ 0 → ltb frames (frames_after air frames f) ≡ false
unfolding frames_after
none_counted air frames f z =
    let h : place_refusal air frames f ≡ 0 → ⊥ = λ e. absurd (omega (arith, no_kind f z, (has_place air frames f e).1)) in
    rw (ne_eqb (place_refusal air frames f) 0 h) (le-ltb frames frames (omega arith))

-- so its first frame is noted at the place of the order
abbrev noted : List ℕ → ℕ → ℕ → ℕ → ℕ → List ℕ
noted first lane serial before after = cond (ltb before after) (set first (order_place lane serial) before) first

same_noted : (known first air : List ℕ) (p : Post) (word lane frames : ℕ) (d : Stepped orders.OrderAnswer) → d ≡ orders_by known p word
    → noted first lane d.frame.serial.0 frames (frames_after air frames d.frame) ≡ noted first lane d.post.serial.0 frames (frames_after air frames d.frame)
same_noted known first air p word lane frames d e = go (eqb (order_refusal p) 0) refl
  where
    go : (b : Bool) → eqb (order_refusal p) 0 ≡ b
        → noted first lane d.frame.serial.0 frames (frames_after air frames d.frame) ≡ noted first lane d.post.serial.0 frames (frames_after air frames d.frame)
    go true q = let s : d.frame.serial.0 ≡ d.post.serial.0 = rw e (same_serial known p word true q) in rw s
    go false q = let z : d.frame.kind ≡ 0 = rw e (same_serial known p word false q) in rw (none_counted air frames d.frame z)

-- on a state
noted_held : (s t : List ℕ) (lane serial before : ℕ) → length s ≡ 4483 → Noted s t lane serial before
    → held_in t ≡ whole (with_first (yard_in s) (noted (yard_in s).first lane serial before (yard_in s).frames)) (knowns_in s)
unfolding yard_in
noted_held s t lane serial before h e = go (ltb before (get_or s 2 0)) refl
  where
    go : (b : Bool) → ltb before (get_or s 2 0) ≡ b
        → held_in t ≡ whole (with_first (yard_in s) (noted (yard_in s).first lane serial before (yard_in s).frames)) (knowns_in s)
    go true q = let w : t ≡ put_in s 11 128 (order_place lane serial) before = rw q at e in rw (frames_in_lem s, q, w) (first_held s (order_place lane serial) before h)
    go false q = let w : t ≡ s = rw q at e in rw (frames_in_lem s, q, w) (held_whole s h)

order_row : (s row t m air exit : List ℕ) (lane word frames : ℕ) (g : Frame) (a : orders.OrderAnswer) → lane < 8 → word ≤ 65535 → length s ≡ 4483
    → length air ≡ 65536 → length row ≡ 543 → frames ≡ (yard_in s).frames → stepped a row g ≡ orders_by (known_in (row_of s lane)) (post_in (row_of s lane)) word
    → Sends (put_part s (139 + 543 * lane) 543 row) t air exit g → Noted t m lane g.serial.0 frames
    → after a m exit ≡ orders_in (held_in s) air lane word
order_row s row t m air exit lane word frames g a small w long la size ef ed es em =
    let s' : List ℕ = put_part s (139 + 543 * lane) 543 row in
    let y : Yard = yard_in s in
    let at = at_yard s lane small in
    let ka = at_knowns s lane small in
    let after : ℕ = frames_after air (yard_in s).frames g in
    let ls : length s' ≡ 4483 = row_long s lane row long small size in
    let fr : get_or s' 2 0 ≡ (yard_in s).frames = front_cell s lane row long small size 2 (omega arith) ∙ sym (frames_in_lem s) in
    let et : t ≡ set s' 2 after = rw fr at es.0 in
    let lt : length t ≡ 4483 = rw et (length-set s' 2 after ∙ ls) in
    let yt : yard_in t ≡ with_post (yard_in s) lane (post_in row) after = rw (et, frames_yard s' after ls, row_yard s lane row long small size) in
    let kt : knowns_in t ≡ set (knowns_in s) lane (known_in row) = rw (et, frames_knowns s' after ls, row_knowns s lane row long small size) in
    let n = same_noted (known_in (row_of s lane)) (yard_in s).first air (post_in (row_of s lane)) word lane (yard_in s).frames (stepped a row g) ed in
    let h : held_in m ≡ whole (with_order (yard_in s) lane (post_in row) after) (set (knowns_in s) lane (known_in row))
    = noted_held t m lane g.serial.0 frames lt em ∙ rw (yt, kt, ef, n)
    in
    rw (h, held_whole s long) (runs (yard_in s) (knowns_in s) air exit lane word after (stepped a row g) small w la (rw (ka, at) ed) refl (rw (← fr) es.1))

-- whose row is lent
pub order_runs : (s row t m air exit : List ℕ) (lane word frames : ℕ) (g : Frame) (a : orders.OrderAnswer) → lane < 8 → word ≤ 65535 → length s ≡ 4483
    → length air ≡ 65536 → length row ≡ length (lent_row s lane) → frames ≡ get_or s 2 0
    → stepped a row g ≡ orders_by (known_in (lent_row s lane)) (post_in (lent_row s lane)) word
    → Sends (row_back s lane row) t air exit g → Noted t m lane g.serial.0 frames
    → after a m exit ≡ orders_in (held_in s) air lane word
order_runs s row t m air exit lane word frames g a small w long la lr ef ed es em =
    order_row s row t m air exit lane word frames g a small w long la (lr ∙ lent_length s lane long small) (ef ∙ sym (frames_in_lem s)) (rw (lent_is s lane) at ed) (rw (back_is s lane row) at es) em

-- where the step refuses nothing is broadcast or noted
pub order_stops : (s row air : List ℕ) (lane word : ℕ) (a : orders.OrderAnswer) → lane < 8 → word ≤ 65535 → length s ≡ 4483 → length air ≡ 65536
    → length row ≡ length (lent_row s lane) → stepped a row no_frame ≡ orders_by (known_in (lent_row s lane)) (post_in (lent_row s lane)) word
    → after a (row_back s lane row) air ≡ orders_in (held_in s) air lane word
order_stops s row air lane word a small w long la lr ed =
    let t : List ℕ = row_back s lane row in
    let same : get_or t 2 0 ≡ get_or s 2 0 = rw (back_is s lane row) (front_cell s lane row long small (lr ∙ lent_length s lane long small) 2 (omega arith)) in
    order_runs s row t t air air lane word (get_or s 2 0) no_frame a small w long la lr refl ed (none_sent_lem t air no_frame refl) (first_kept t lane 0 (get_or s 2 0) (get_or s 2 0) (sym same) (omega arith))
