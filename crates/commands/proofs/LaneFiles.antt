-- The file of a lane's log after a script: it is written, never refused. Assumes nothing.
use mathlib.Core.Path.{◌≡◌, refl, sym, ap, ◌∙◌}
use mathlib.Core.Bool.{Bool, true, false, cond, not}
use mathlib.Core.List.{List, ◌++◌, map}
use Prim.Native.Nat.{ℕ, ◌<◌, ◌≤◌}
use native.Mathlib.Omega.{arith}
use lib.Dec.{eqb}
use lib.ListN.{length, get_or, take, drop}
use lib.Seq.{sets}
use borrow.Author.Tests.{lt-ltb, le-ltb, eq-eqb, ne_eqb, not-false}
use Rattle.cells.specs.Sets.{has_lane}
use Rattle.post.specs.declared.Post.{Post}
use Rattle.row.specs.Rows.{post_in}
use Rattle.lines.specs.Judged.{Judged}
use Rattle.lines.specs.Line.{Yard}
use Rattle.lines.specs.Lines.{judged}
use Rattle.state.specs.Yards as yards
use Rattle.state.specs.States.{whole, held_in, row_of, yard_in}
use Rattle.state.proofs.StateLaws.{at_yard}
use Rattle.roll.specs.Logs.{orders_logged}
use Rattle.meaning.specs.Script.{script_world}
use Rattle.fits.proofs.Printed.{printed}
use Rattle.fits.proofs.LineLengths.{accepted}
use Rattle.script.specs.State.{state_held}
use Rattle.script.specs.OnState.{script_knowns}
use Rattle.script.proofs.ScriptWays.{yard_of_lem}
use Rattle.csv_log.specs.Log.{item_numbers, log_in}
use Rattle.csv_log.specs.Text.{log_text}
use Rattle.csv_log.specs.Writing.{handed_text, csv_write_refusal, buffer_after}
use Rattle.csv_log.proofs.Logs.{said_back}
use Rattle.csv_log.proofs.Numbers.{numbers_records}
use Rattle.csv_log.proofs.Entries.{front}
use Rattle.csv_log.proofs.Laws.{not_off}
use Rattle.desk.specs.Desk.{item_of, desk_log, desk_file}
use Rattle.desk.proofs.Theorem.{desk}
use Rattle.std.specs.Prelude.{Result, Ok, Err, IsErrAnd}
use Rattle.refusal.specs.declared.Refusal.{Refusal}
use Rattle.refusal.specs.Numbers.{refusal_number}
use Rattle.lines.specs.declared.BadLine.{BadLine}
use Rattle.commands.specs.declared.NotMade.{NotMade}
use Rattle.commands.specs.Csv.{CsvMade, made_answer, own_air, command_world, lane_file, not_made, csv_made, csv_buffer}
use Rattle.commands.specs.Making.{lane_answer, lane_numbers, lane_made, lane_buffer}

-- ---- the state that a script leaves

pub state_yard : (s air state state' : List ℕ) → length state ≡ 4483 → length state' ≡ length state → (judged s).number ≡ 0 → held_in state' ≡ state_held s air state
    → yard_in state' ≡ (script_world s air).yard
unfolding state_held
state_yard s air state state' h k z e =
    let q : held_in state' ≡ whole (script_world s air).yard (script_knowns s air) = e ∙ rw (eq-eqb (length state) 4483 h, z) in
    yard_of_lem state' (script_world s air).yard (script_knowns s air) (k ∙ h) q

-- ---- a lane of a state

present_of : (state : List ℕ) → (yard_in state).present ≡ get_or state 0 0
unfolding yard_in
present_of state = refl

pub lane_none : (state buffer : List ℕ) (lane present : ℕ) (b : Bool) → present ≡ get_or state 0 0 → b ≡ has_lane present lane → not b ≡ true
    → (not_made 0 21 ≡ lane_made (yard_in state) lane buffer) × (buffer ≡ lane_buffer (yard_in state) lane buffer)
unfolding lane_made lane_buffer
lane_none state buffer lane present b e f h =
    let q : has_lane (yard_in state).present lane ≡ false = ap (λ (p : ℕ). has_lane p lane) (present_of state ∙ sym e) ∙ sym f ∙ not_off b h in
    rw q (refl, refl)

-- the numbers written are those of the lane's log
at_lane : (state : List ℕ) (lane present : ℕ) (b : Bool) → present ≡ get_or state 0 0 → b ≡ has_lane present lane → not b ≡ false → has_lane (yard_in state).present lane ≡ true
at_lane state lane present b e f h = ap (λ (p : ℕ). has_lane p lane) (present_of state ∙ sym e) ∙ sym f ∙ not-false b h

lane_taken : (state row zeros numbers : List ℕ) (lane n : ℕ) → lane < 8 → length zeros ≡ 384 → n ≤ 384 → row ≡ row_of state lane
    → (n ≡ length (item_numbers (map item_of (orders_logged (post_in row))))) × (numbers ≡ sets zeros 0 (item_numbers (map item_of (orders_logged (post_in row)))))
    → take n numbers ≡ lane_numbers (yard_in state) lane
lane_taken state row zeros numbers lane n l z m r d =
    let t = item_numbers (map item_of (orders_logged (post_in row))) in
    ap (take n) d.1 ∙ front t zeros n (sym d.0) (omega arith)
    ∙ ap (λ (x : List ℕ). item_numbers (map item_of (orders_logged (post_in x)))) r ∙ ap (λ (x : Post). item_numbers (map item_of (orders_logged x))) (sym (at_yard state lane l))

pub lane_made_lem : (state row zeros numbers buffer after : List ℕ) (lane present n m : ℕ) (b : Bool) → lane < 8 → length zeros ≡ 384 → n ≤ 384
    → present ≡ get_or state 0 0 → b ≡ has_lane present lane → not b ≡ false → row ≡ row_of state lane
    → (n ≡ length (item_numbers (map item_of (orders_logged (post_in row))))) × (numbers ≡ sets zeros 0 (item_numbers (map item_of (orders_logged (post_in row)))))
    → (0 ≡ csv_write_refusal (take n numbers) buffer) × (m ≡ length (handed_text (take n numbers))) × (after ≡ buffer_after (take n numbers) buffer)
    → (◌≡◌ {A = CsvMade} (record { number = 0; line = 0; length = m }) (lane_made (yard_in state) lane buffer)) × (after ≡ lane_buffer (yard_in state) lane buffer)
unfolding lane_made lane_buffer
lane_made_lem state row zeros numbers buffer after lane present n m b l z k e f h r d w =
    let q = at_lane state lane present b e f h in
    let i = lane_taken state row zeros numbers lane n l z k r d in
    rw (q, ← i) (rw (← w.0) (ap (λ (x : ℕ). record { number = 0; line = 0; length = x }) w.1), w.2)

pub lane_refused : (state row zeros numbers buffer after : List ℕ) (lane present n r : ℕ) (b : Bool) → lane < 8 → length zeros ≡ 384 → n ≤ 384
    → present ≡ get_or state 0 0 → b ≡ has_lane present lane → not b ≡ false → row ≡ row_of state lane
    → (n ≡ length (item_numbers (map item_of (orders_logged (post_in row))))) × (numbers ≡ sets zeros 0 (item_numbers (map item_of (orders_logged (post_in row)))))
    → (r ≡ csv_write_refusal (take n numbers) buffer) × (r ≡ 0 → ⊥) × (after ≡ buffer_after (take n numbers) buffer)
    → (not_made 0 r ≡ lane_made (yard_in state) lane buffer) × (after ≡ lane_buffer (yard_in state) lane buffer)
unfolding lane_made lane_buffer
lane_refused state row zeros numbers buffer after lane present n r b l z k e f h s d w =
    let q = at_lane state lane present b e f h in
    let i = lane_taken state row zeros numbers lane n l z k s d in
    rw (q, ← i) (rw (← w.0, ne_eqb r 0 w.1) refl, w.2)

-- ---- a lane of a script

-- the text of a log's numbers is the log's
text_same : (w : _) (lane : ℕ) → handed_text (item_numbers (desk_log w lane)) ≡ desk_file w lane
text_same w lane = ap log_text (ap log_in (numbers_records (desk_log w lane)) ∙ said_back (desk_log w lane))

-- writing it is not refused
never_refused : (s buffer : List ℕ) (lane : ℕ) → (judged s).number ≡ 0 → length buffer ≡ 2048 → csv_write_refusal (lane_numbers (command_world s).yard lane) buffer ≡ 0
never_refused s buffer lane z h =
    let p = printed s own_air z in
    let r = (accepted s 0 (Yard p.0 p.1 p.2 p.3) p.4 refl).0 in
    let d = desk p.0 p.1 p.2 own_air r.2 r.3 r.4 p.5 in
    rw p.6 (d.written _ lane buffer h)

-- so its length is told
made_whole : (s buffer : List ℕ) (lane : ℕ) → (judged s).number ≡ 0 → length buffer ≡ 2048
    → (csv_write_refusal (lane_numbers (command_world s).yard lane) buffer ≡ 0)
    × (handed_text (lane_numbers (command_world s).yard lane) ≡ lane_file s lane)
    × (buffer_after (lane_numbers (command_world s).yard lane) buffer ≡ lane_file s lane ++ drop (length (lane_file s lane)) buffer)
unfolding buffer_after
made_whole s buffer lane z h = rw (never_refused s buffer lane z h, text_same (command_world s) lane) (refl, refl, refl)

abbrev Made : List ℕ → ℕ → List ℕ → CsvMade → List ℕ → Type 0
Made s lane buffer r after = (r ≡ csv_made s lane buffer) × (after ≡ csv_buffer s lane buffer)

pub made_bad : (s buffer : List ℕ) (lane : ℕ) (v : Judged) → v ≡ judged s → (v.number ≡ 0 → ⊥) → Made s lane buffer (not_made v.line v.number) buffer
unfolding csv_made csv_buffer
made_bad s buffer lane v e h = rw (← e, ne_eqb v.number 0 h) (refl, rw (ne_eqb v.number 0 h))

good_script : (s : List ℕ) (v : Judged) → v ≡ judged s → v.number ≡ 0 → (judged s).number ≡ 0
good_script s v e z = ap (λ (j : Judged). j.number) (sym e) ∙ z

pub made_4 : (s buffer : List ℕ) (lane : ℕ) (v : Judged) → v ≡ judged s → v.number ≡ 0 → 7 < lane → Made s lane buffer (not_made 0 4) buffer
unfolding csv_made csv_buffer
made_4 s buffer lane v e z l = rw (good_script s v e z, lt-ltb 7 lane l) (refl, refl)

pub made_6 : (s buffer : List ℕ) (lane : ℕ) (v : Judged) → v ≡ judged s → v.number ≡ 0 → lane ≤ 7 → (length buffer ≡ 2048 → ⊥) → Made s lane buffer (not_made 0 6) buffer
unfolding csv_made csv_buffer
made_6 s buffer lane v e z l h = rw (good_script s v e z, le-ltb 7 lane l, ne_eqb (length buffer) 2048 h) (refl, refl)

both_ways : (b : Bool) (n : ℕ) (file buffer : List ℕ)
    → cond b file buffer ≡ cond (eqb (cond b (record { number = 0; line = 0; length = n }) (not_made 0 21)).number 0) file buffer
both_ways true n file buffer = refl
both_ways false n file buffer = refl

lane_is : (s buffer : List ℕ) (lane : ℕ) → (judged s).number ≡ 0 → lane ≤ 7 → length buffer ≡ 2048
    → (lane_made (command_world s).yard lane buffer ≡ csv_made s lane buffer) × (lane_buffer (command_world s).yard lane buffer ≡ csv_buffer s lane buffer)
unfolding csv_made csv_buffer lane_made lane_buffer
lane_is s buffer lane z l h =
    let w = made_whole s buffer lane z h in
    rw (z, le-ltb 7 lane l, eq-eqb (length buffer) 2048 h, w.0, w.1, w.2)
    (refl, both_ways (has_lane (command_world s).yard.present lane) (length (lane_file s lane)) (lane_file s lane ++ drop (length (lane_file s lane)) buffer) buffer)

pub made_lane : (s buffer after : List ℕ) (lane : ℕ) (y : yards.Yard) (r : CsvMade) (v : Judged) → v ≡ judged s → v.number ≡ 0 → lane ≤ 7 → length buffer ≡ 2048
    → y ≡ (command_world s).yard → (r ≡ lane_made y lane buffer) × (after ≡ lane_buffer y lane buffer) → Made s lane buffer r after
made_lane s buffer after lane y r v j z l h e d =
    let i = lane_is s buffer lane (good_script s v j z) l h in
    (rw e at d.0 ∙ i.0, rw e at d.1 ∙ i.1)

-- what a `?` hands on, of the script's judge and of the lane's file
pub handed_line : (o : Result ℕ NotMade) (bad : BadLine) → IsErrAnd o (λ e. e ≡ record { line = bad.line; refusal = bad.refusal })
    → made_answer o ≡ not_made bad.line (refusal_number bad.refusal)
handed_line (Ok x) bad h = absurd h
handed_line (Err e) bad h = ap (λ (k : NotMade). not_made k.line (refusal_number k.refusal)) h

pub handed_lane : (o : Result ℕ NotMade) (r : Refusal) → IsErrAnd o (λ e. e ≡ record { line = 0; refusal = r }) → made_answer o ≡ not_made 0 (refusal_number r)
handed_lane (Ok x) r h = absurd h
handed_lane (Err e) r h = ap (λ (k : NotMade). not_made k.line (refusal_number k.refusal)) h

pub handed_refusal : (o : Result ℕ Refusal) (r : Refusal) → IsErrAnd o (λ e. e ≡ r) → lane_answer o ≡ not_made 0 (refusal_number r)
handed_refusal (Ok x) r h = absurd h
handed_refusal (Err e) r h = ap (λ (k : Refusal). not_made 0 (refusal_number k)) h
