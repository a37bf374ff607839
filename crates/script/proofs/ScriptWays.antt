-- The ways through the functions that run a script. Assumes nothing.
use mathlib.Core.Path.{◌≡◌, refl, sym, ap, ◌∙◌}
use mathlib.Core.Bool.{Bool, true, false, cond}
use mathlib.Core.List.{List, ◌++◌}
use Prim.Native.Nat.{ℕ, ◌+◌, ◌<◌, ◌≤◌}
use native.Mathlib.Omega.{arith}
use lib.Dec.{ltb, eqb}
use lib.ListN.{length, drop}
use borrow.Author.Tests.{ltb-false, eqb-false, eq-eqb, ne_eqb}
use Rattle.text.specs.Writing.{Out, out, wrote}
use Rattle.text.proofs.Laws.{wrote_fits, next}
use Rattle.lines.specs.Line.{Line}
use Rattle.std.specs.Prelude.{Result, Ok}
use Rattle.lines.specs.declared.BadLine.{BadLine}
use Rattle.lines.specs.Judged.{Judged, judged_answer}
use Rattle.lines.specs.Line.{Yard, Order, Hear, Beacon, Roll, Refused}
use Rattle.lines.specs.Lines.{line_at, number_of, next_of, lines_of, judged_lines, judged}
use Rattle.reader.proofs.LinesLaws.{line_above}
use Rattle.state.specs.Yards.{fresh_yard, yard_refusal}
use Rattle.state.specs.States.{whole, held_in, yard_in, knowns_in}
use Rattle.state.specs.Fresh.{Made, fresh_in, nothing_known}
use Rattle.yard.specs.InState.{Here, here_in}
use Rattle.yard.specs.Sound.{Holds}
use Rattle.state.proofs.StateLaws.{held_whole}
use Rattle.yard.proofs.Theorem.{state_sound}
use Rattle.meaning.specs.Texts.{bad_text, posts_text}
use Rattle.meaning.specs.Script.{yard_of, script_start, step_lines, script_world, script_text, printout, air_after}
use Rattle.fits.proofs.Theorem.{fits}
use Rattle.fits.proofs.LineLengths.{accepted}
use Rattle.fits.proofs.FirstLine.{yard_accepted, yard_made_lem, accepted_first}
use Rattle.script.specs.declared.Sets.{Sets}
use Rattle.script.specs.Run.{bytes_printed, output_after, air_left}
use Rattle.script.specs.Told.{no_step, bad_script, bad_state}
use Rattle.script.specs.State.{state_told, state_held, state_air}
use Rattle.script.specs.OnState.{here_after, refused_in, last_in, script_here, script_knowns, sets_of}
use Rattle.script.proofs.LineLaws.{Done}
use Rattle.script.proofs.Sound.{lines_hold, refused_same, last_same, held_is}

-- a script that is not refused has 1 to 48,000 bytes
judged_fits : (s : List ℕ) → (judged s).number ≡ 0 → (0 < length s) × (length s ≤ 48000)
unfolding judged
judged_fits s h = go (ltb 48000 (length s)) refl (eqb (length s) 0) refl h
  where
    go : (b : Bool) → ltb 48000 (length s) ≡ b → (t : Bool) → eqb (length s) 0 ≡ t
        → ◌≡◌ {A = ℕ} (cond b (record { line = 0; number = 1 }) (cond t (record { line = 1; number = 3 }) (judged_lines 0 (lines_of s)))).number 0
        → (0 < length s) × (length s ≤ 48000)
    go true e t f q = absurd (omega arith)
    go false e true f q = absurd (omega arith)
    go false e false f q = (omega (arith, eqb-false (length s) 0 f), ltb-false 48000 (length s) e)

-- a script that the judge lets pass
pub passed : (r : Result ℕ BadLine) (n : ℕ) → r ≡ Ok n → (judged_answer r).number ≡ 0
passed r n e = rw e

pub passed_good : (s : List ℕ) (r : Result ℕ BadLine) (n : ℕ) → judged_answer r ≡ judged s → r ≡ Ok n → (judged s).number ≡ 0
passed_good s r n e h = rw (← e) (passed r n h)

-- so its line 2 is not at the start
pub second_line : (s : List ℕ) (l : Line) (from : ℕ) → (judged s).number ≡ 0 → l ≡ line_at s 0 → from ≡ next_of s l
    → (length s ≤ 48000) × (1 ≤ from)
second_line s l from h el ef =
    let fit = judged_fits s h in
    (fit.1, line_above s 0 l from fit.0 el ef)

-- line 1 of a script that is not refused makes the fresh yard of its sets, which is not refused
abbrev Begins : Sets → Line → Type 0
Begins st k = (yard_of k ≡ fresh_yard st.present st.sources st.dests) × (yard_refusal st.present st.sources st.dests ≡ 0)

fresh_first : (s : List ℕ) (st : Sets) (k : Line) → line_at s 0 ≡ k → number_of k ≡ 0 → st ≡ sets_of k → Begins st k
fresh_first s st (Yard posts sources dests next) e z es =
    let r = (accepted s 0 (Yard posts sources dests next) e refl).0 in
    rw es (yard_made_lem posts sources dests r.1 r.5 r.6, yard_accepted posts sources dests r.1 r.5 r.6)
fresh_first s st (Order lane word next) e z es = absurd (omega (arith, (accepted s 0 (Order lane word next) e z).0.0))
fresh_first s st (Hear lane frame next) e z es = absurd (omega (arith, (accepted s 0 (Hear lane frame next) e z).0.0))
fresh_first s st (Beacon lane next) e z es = absurd (omega (arith, (accepted s 0 (Beacon lane next) e z).0.0))
fresh_first s st (Roll next) e z es = absurd (omega (arith, (accepted s 0 (Roll next) e z).0))
fresh_first s st (Refused number) e z es = absurd (accepted s 0 (Refused number) e z).0

begins : (s : List ℕ) (l : Line) (st : Sets) → (judged s).number ≡ 0 → l ≡ line_at s 0 → st ≡ sets_of l → Begins st (line_at s 0)
begins s l st good el es = fresh_first s st (line_at s 0) refl (accepted_first s good) (es ∙ ap sets_of el)

-- it is laid into the state
not_refused : (y : _) (ks : List (List ℕ)) (p s d : ℕ) → yard_refusal p s d ≡ 0 → (fresh_in (whole y ks) p s d).number ≡ 0
unfolding fresh_in
not_refused y ks p s d z = rw z

fresh_held : (state state' : List ℕ) (n p s d : ℕ) → length state ≡ 4483 → yard_refusal p s d ≡ 0
    → ◌≡◌ {A = Made} (record { number = n; held = held_in state' }) (fresh_in (held_in state) p s d)
    → held_in state' ≡ whole (fresh_yard p s d) nothing_known
fresh_held state state' n p s d long z e =
    let w = held_whole state long in
    let k : (fresh_in (held_in state) p s d).number ≡ 0 = rw w (not_refused (yard_in state) (knowns_in state) p s d z) in
    ap (λ (m : Made). m.held) e ∙ state_sound.fresh (held_in state) p s d k

pub first_here : (s air state state' : List ℕ) (l : Line) (st : Sets) (n : ℕ) → (judged s).number ≡ 0 → length state ≡ 4483 → l ≡ line_at s 0 → st ≡ sets_of l
    → ◌≡◌ {A = Made} (record { number = n; held = held_in state' }) (fresh_in (held_in state) st.present st.sources st.dests)
    → here_in state' air ≡ script_here s air
first_here s air state state' l st n good long el es e =
    let b = begins s l st good el es in
    let h : held_in state' ≡ whole (yard_of (line_at s 0)) nothing_known = fresh_held state state' n st.present st.sources st.dests long b.1 e ∙ rw b.0 in
    rw h

-- then its lines are run
pub good_ran : (s : List ℕ) (l : Line) (from : ℕ) (o p : Out) (h h' here : Here) (t : ℕ) → l ≡ line_at s 0 → from ≡ next_of s l → h ≡ here
    → Done s h from o h' p t
    → (h' ≡ here_after here (step_lines s)) × ((p ≡ wrote o (refused_in here 1 (step_lines s))) × (t ≡ last_in here no_step (step_lines s)))
good_ran s l from o p h h' here t el ef eh d = rw (← eh, ← el, ← ef) d

-- ---- a script that is not refused begins with a held yard, so it does what it does in the world

pub start_holds : (s air : List ℕ) → (judged s).number ≡ 0 → Holds (script_here s air) (script_start s air)
start_holds s air good =
    let b = begins s (line_at s 0) (sets_of (line_at s 0)) good refl refl in
    record {
      knowns = nothing_known;
      yard = refl;
      bytes = refl;
      sound = rw b.0 (state_sound.begins (sets_of (line_at s 0)).present (sets_of (line_at s 0)).sources (sets_of (line_at s 0)).dests);
    }

-- what the state and the air hold then
pub good_here : (s air state' air' : List ℕ) → (judged s).number ≡ 0 → here_in state' air' ≡ here_after (script_here s air) (step_lines s)
    → (held_in state' ≡ whole (script_world s air).yard (script_knowns s air)) × (air' ≡ (script_world s air).air)
unfolding script_world script_knowns
good_here s air state' air' good e =
    let h = lines_hold (script_here s air) (script_start s air) (step_lines s) (start_holds s air good) in
    let is = e ∙ held_is _ _ h in
    (ap (λ (x : Here). x.held) is, ap (λ (x : Here). x.air) is)

-- the steps, then the posts
pub yard_of_lem : (state : List ℕ) (y : _) (ks : List (List ℕ)) → length state ≡ 4483 → held_in state ≡ whole y ks → yard_in state ≡ y
yard_of_lem state y ks long e = let z : whole (yard_in state) (knowns_in state) ≡ whole y ks = sym (held_whole state long) ∙ e in cc

pub good_posts : (s air state' air' : List ℕ) (o p q : Out) → (judged s).number ≡ 0 → length state' ≡ 4483
    → here_in state' air' ≡ here_after (script_here s air) (step_lines s)
    → p ≡ wrote o (refused_in (script_here s air) 1 (step_lines s)) → q ≡ wrote p (posts_text (yard_in state') 8)
    → (q ≡ wrote o (script_text s air)) × (air' ≡ (script_world s air).air)
unfolding script_text
good_posts s air state' air' o p q good long e ep eq =
    let h = good_here s air state' air' good e in
    let same = refused_same (script_here s air) (script_start s air) 1 (step_lines s) (start_holds s air good) in
    let y = yard_of_lem state' (script_world s air).yard (script_knowns s air) long h.0 in
    (next o _ _ (rw same at ep) (rw y at eq), h.1)

-- ---- the printout and the air of a script that is not refused, and of one that is

printout_good : (s air : List ℕ) → (judged s).number ≡ 0 → printout s air ≡ script_text s air
unfolding printout
printout_good s air h = rw (eq-eqb (judged s).number 0 h)

air_good : (s air : List ℕ) → (judged s).number ≡ 0 → air_after s air ≡ (script_world s air).air
unfolding air_after
air_good s air h = rw (eq-eqb (judged s).number 0 h)

printout_bad : (s air : List ℕ) → ((judged s).number ≡ 0 → ⊥) → printout s air ≡ bad_text (judged s).line (judged s).number
unfolding printout
printout_bad s air h = rw (ne_eqb (judged s).number 0 h)

air_bad : (s air : List ℕ) → ((judged s).number ≡ 0 → ⊥) → air_after s air ≡ air
unfolding air_after
air_bad s air h = rw (ne_eqb (judged s).number 0 h)

-- every printout fits, and is written whole
printed_whole : (s air output : List ℕ) → length output ≡ 131072
    → wrote (out output 0) (printout s air) ≡ out (printout s air ++ drop (length (printout s air)) output) (length (printout s air))
printed_whole s air output e =
    let n : 0 + length (printout s air) ≡ length (printout s air) = omega arith in
    rw n at (wrote_fits (printout s air) output 0 (omega (arith, fits s air)))

-- what every way ends with: the answer, the output and the air after
abbrev Ended : List ℕ → List ℕ → List ℕ → ℕ → List ℕ → List ℕ → Type 0
Ended s air output r output' air' =
    (r ≡ bytes_printed s air output) × ((output' ≡ output_after s air output) × (air' ≡ air_left s air output))

-- an output of another length is refused
pub other_length : (s air output : List ℕ) → (length output ≡ 131072 → ⊥) → Ended s air output 0 output air
unfolding bytes_printed output_after air_left
other_length s air output h = rw (ne_eqb (length output) 131072 h) (refl, (refl, refl))

-- otherwise the printout is printed
printed : (s air output : List ℕ) (r : ℕ) (output' air' : List ℕ) → length output ≡ 131072
    → out output' r ≡ wrote (out output 0) (printout s air) → air' ≡ air_after s air → Ended s air output r output' air'
unfolding bytes_printed output_after air_left
printed s air output r output' air' e eo ea =
    let all = eo ∙ printed_whole s air output e in
    rw (eq-eqb (length output) 131072 e) (ap (λ (o : Out). o.at) all, (ap (λ (o : Out). o.buffer) all, ea))

pub good_printed : (s air output : List ℕ) (v : Judged) (r : ℕ) (output' air' : List ℕ) → length output ≡ 131072
    → v ≡ judged s → v.number ≡ 0 → out output' r ≡ wrote (out output 0) (script_text s air) → air' ≡ (script_world s air).air
    → Ended s air output r output' air'
good_printed s air output v r output' air' e ev h eo ea =
    let good : (judged s).number ≡ 0 = rw (← ev) h in
    printed s air output r output' air' e (rw (printout_good s air good) eo) (rw (air_good s air good) ea)

pub bad_printed : (s air output : List ℕ) (v : Judged) (r : ℕ) (output' : List ℕ) → length output ≡ 131072
    → v ≡ judged s → (v.number ≡ 0 → ⊥) → out output' r ≡ wrote (out output 0) (bad_text v.line v.number)
    → Ended s air output r output' air
bad_printed s air output v r output' e ev h eo =
    let bad : ((judged s).number ≡ 0 → ⊥) = rw (← ev) h in
    printed s air output r output' air e (rw (printout_bad s air bad, ← ev) eo) (rw (air_bad s air bad) refl)

-- ---- the state lent

abbrev Told : List ℕ → List ℕ → List ℕ → ℕ → List ℕ → List ℕ → Type 0
Told s air state r state' air' = (r ≡ state_told s air state) × ((held_in state' ≡ state_held s air state) × (air' ≡ state_air s air state))

pub other_state : (s air state : List ℕ) (r : ℕ) → (length state ≡ 4483 → ⊥) → r ≡ bad_state → Told s air state r state air
unfolding state_told state_held state_air
other_state s air state r h er = rw (ne_eqb (length state) 4483 h) (er, (refl, refl))

pub bad_told : (s air state : List ℕ) (v : Judged) (r : ℕ) → length state ≡ 4483 → v ≡ judged s → (v.number ≡ 0 → ⊥) → r ≡ bad_script v.line v.number
    → Told s air state r state air
unfolding state_told state_held state_air
bad_told s air state v r e ev h er =
    let bad : ((judged s).number ≡ 0 → ⊥) = rw (← ev) h in
    rw (eq-eqb (length state) 4483 e, ne_eqb (judged s).number 0 bad) (rw ev at er, (refl, refl))

pub good_told : (s air state state' air' : List ℕ) (v : Judged) (r : ℕ) → length state ≡ 4483 → v ≡ judged s → v.number ≡ 0
    → here_in state' air' ≡ here_after (script_here s air) (step_lines s) → r ≡ last_in (script_here s air) no_step (step_lines s)
    → Told s air state r state' air'
unfolding state_told state_held state_air
good_told s air state state' air' v r e ev z eh er =
    let good : (judged s).number ≡ 0 = rw (← ev) z in
    let h = good_here s air state' air' good eh in
    let last = last_same (script_here s air) (script_start s air) no_step (step_lines s) (start_holds s air good) in
    rw (eq-eqb (length state) 4483 e, eq-eqb (judged s).number 0 good) (er ∙ last, h)
