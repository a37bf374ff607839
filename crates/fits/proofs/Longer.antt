-- A longer script runs, refuses and logs first what its beginning does, proved: `longer_scripts`. Assumes nothing.
use Prim.Native.Nat.{ℕ, ◌+◌, ◌<◌}
use mathlib.Core.Path.{◌≡◌, refl, sym, ap, ◌∙◌}
use mathlib.Core.List.{List, [], ◌∷◌, ◌++◌, append_assoc}
use mathlib.Core.Bool.{not}
use mathlib.Core.Logic.{◌⊎◌, inl, inr, ◌≢◌}
use native.Mathlib.Omega.{arith}
use lib.Dec.{eqb}
use lib.ListN.{length, length-append}
use Rattle.text.specs.Decimal.{given}
use Rattle.laws.specs.Lists.{Begins}
use Rattle.laws.proofs.ListLaws.{begins_itself}
use Rattle.laws.proofs.TestLaws.{same_or_not}
use Rattle.lines.specs.Line.{Line, Yard}
use Rattle.lines.specs.Lines.{line_at, judged}
use Rattle.state.specs.Yards.{yard_refusal}
use Rattle.yard.specs.Worlds.{World}
use Rattle.roll.specs.Runs.{Step, run}
use Rattle.roll.specs.Logs.{log_at}
use Rattle.model.proofs.Model as model
use Rattle.model.proofs.Moves.{moves, moves_append, moves_log}
use Rattle.agreement.specs.Demand3 as demand
use Rattle.agreement.proofs.Views.{roles_of, yard_view}
use Rattle.agreement.proofs.WrongAir.{never_runs}
use Rattle.agreement.proofs.Theorem.{ro, reached, good}
use Rattle.written.proofs.LineLists.{lines_more}
use Rattle.written.proofs.WholeScripts.{judged_passed, whole_scripts}
use Rattle.meaning.specs.Texts.{refused_text}
use Rattle.meaning.specs.Script.{step_of, refusal_of, world_after, refused_lines, script_start, step_lines, script_world}
use Rattle.fits.specs.Printed.{steps_of}
use Rattle.fits.specs.Longer.{LongerScripts}
use Rattle.fits.proofs.LineLengths.{accepted}
use Rattle.fits.proofs.Runs.{run_append, after_run}
use Rattle.fits.proofs.Printed.{printed, same_parts}
use Rattle.fits.proofs.AirBefore.{script_twins, refused_same}

-- ---- lines and then more lines

steps_append : (ls ms : List Line) → steps_of (ls ++ ms) ≡ steps_of ls ++ steps_of ms
unfolding steps_of
steps_append [] ms = refl
steps_append (l ∷ ls) ms = rw (steps_append ls ms) (sym (append_assoc (step_of l) (steps_of ls) (steps_of ms)))

after_append : (w : World) (ls ms : List Line) → world_after w (ls ++ ms) ≡ world_after (world_after w ls) ms
unfolding world_after
after_append w [] ms = refl
after_append w (l ∷ ls) ms = after_append (run w (step_of l)) ls ms

refused_append : (w : World) (n : ℕ) (ls ms : List Line) → Begins (refused_lines w n ls) (refused_lines w n (ls ++ ms))
unfolding refused_lines
refused_append w n [] ms = (refused_lines w n ms, refl)
refused_append w n (l ∷ ls) ms =
    let more = refused_append (run w (step_of l)) (n + 1) ls ms in
    let here = given (not (eqb (refusal_of w (step_of l)) 0)) (refused_text (n + 1) (refusal_of w (step_of l))) in
    (more.0, rw more.1 (sym (append_assoc here (refused_lines (run w (step_of l)) (n + 1) ls) more.0)))

-- ---- the lines of a longer script

-- line 1 is the same, and the other lines begin with those of the beginning
lines_longer : (s more : List ℕ) → (judged s).number ≡ 0
    → (line_at (s ++ more) 0 ≡ line_at s 0) × Begins (step_lines s) (step_lines (s ++ more))
lines_longer s more z =
    let some = (judged_passed s z).1 in
    let n = length-append s more in
    let r = whole_scripts.longer s more z in
    let e = same_parts (line_at (s ++ more) 0) (line_at s 0) (step_lines (s ++ more)) (step_lines s ++ r.0)
    (sym (lines_more (s ++ more) 0 (omega arith)) ∙ r.1 ∙ ap (λ (ls : List Line). ls ++ r.0) (lines_more s 0 some)) in
    (e.0, (r.0, e.1))

-- ---- logs grow

module _ (present sources dests : ℕ) (air : List ℕ) (small : present < 256) (smallSources : sources < 256) (smallDests : dests < 256)
    (z : yard_refusal present sources dests ≡ 0) where
  abbrev w : World
  w = demand.fresh_world present sources dests air

  whole_air : length air ≡ 65536 → (l m : List Step) (lane : ℕ) → Begins (log_at (run w l) lane) (log_at (run w (l ++ m)) lane)
  whole_air e l m lane =
      rw (ap (λ (Y : model.Yard). (Y.posts lane).log) then)
      (moves_log R (ro present sources dests air small smallSources smallDests z e) (yard_view (run w l)) _ (good present sources dests air small smallSources smallDests z e l) m lane)
    where
      R : model.Roles
      R = roles_of present sources dests

      then : yard_view (run w (l ++ m)) ≡ moves R (yard_view (run w l)) m
      then = (reached present sources dests air small smallSources smallDests z e (l ++ m)).view
          ∙ moves_append R (yard_view w) l m
          ∙ ap (λ (Y : model.Yard). moves R Y m) (sym (reached present sources dests air small smallSources smallDests z e l).view)

  other_air : length air ≢ 65536 → (l m : List Step) (lane : ℕ) → Begins (log_at (run w l) lane) (log_at (run w (l ++ m)) lane)
  other_air n l m lane = rw (never_runs w n l, never_runs w n (l ++ m)) (begins_itself (log_at w lane))

  logs_grow : (l m : List Step) (lane : ℕ) → Begins (log_at (run w l) lane) (log_at (run w (l ++ m)) lane)
  logs_grow l m lane = go (same_or_not (length air) 65536)
    where
      go : (length air ≡ 65536) ⊎ (length air ≢ 65536) → Begins (log_at (run w l) lane) (log_at (run w (l ++ m)) lane)
      go (inl e) = whole_air e l m lane
      go (inr n) = other_air n l m lane

-- ---- on one air

module _ (s more air : List ℕ) (z : (judged s).number ≡ 0) where
  t : List ℕ
  t = s ++ more

  lines : (line_at t 0 ≡ line_at s 0) × Begins (step_lines s) (step_lines t)
  unfolding t
  lines = lines_longer s more z

  start_same : script_start t air ≡ script_start s air
  start_same = rw lines.0 refl

  -- the steps after those of s
  on : List Step
  on = steps_of lines.1.0

  steps_begin : Begins (steps_of (step_lines s)) (steps_of (step_lines t))
  unfolding on
  steps_begin = (on, ap steps_of lines.1.1 ∙ steps_append (step_lines s) lines.1.0)

  refused_begin : Begins (refused_lines (script_start s air) 1 (step_lines s)) (refused_lines (script_start t air) 1 (step_lines t))
  refused_begin = rw (start_same, lines.1.1) (refused_append (script_start s air) 1 (step_lines s) lines.1.0)

  -- the longer script runs on where s ended
  runs_on : script_world t air ≡ run (script_world s air) on
  unfolding script_world on
  runs_on =
      ap (λ (v : World). world_after v (step_lines t)) start_same
      ∙ ap (world_after (script_start s air)) lines.1.1
      ∙ after_append (script_start s air) (step_lines s) lines.1.0
      ∙ after_run (script_world s air) lines.1.0

  logs_begin_lem : (lane : ℕ) → Begins (log_at (script_world s air) lane) (log_at (script_world t air) lane)
  logs_begin_lem lane =
      let p = printed s air z in
      let r = (accepted s 0 (Yard p.0 p.1 p.2 p.3) p.4 refl).0 in
      let fresh = demand.fresh_world p.0 p.1 p.2 air in
      rw (runs_on, p.6, ← run_append fresh (steps_of (step_lines s)) on)
      (logs_grow p.0 p.1 p.2 air r.2 r.3 r.4 p.5 (steps_of (step_lines s)) on lane)

  logs_agree : (a b : ℕ) → Begins (log_at (script_world s air) a) (log_at (script_world t air) b) ⊎ Begins (log_at (script_world t air) b) (log_at (script_world s air) a)
  logs_agree a b =
      let p = printed s air z in
      let fresh = demand.fresh_world p.0 p.1 p.2 air in
      rw (runs_on, p.6, ← run_append fresh (steps_of (step_lines s)) on) (p.7.agree (steps_of (step_lines s)) on a b)

-- ---- on two airs of one length

pub longer_scripts : LongerScripts
unfolding t
longer_scripts s more air other z e =
    let t = s ++ more in
    let yard = (script_twins t air other e).0 in
    record {
      yard = (lines s more air z).0;
      steps = steps_begin s more air z;
      refused = rw (← refused_same t air other e) (refused_begin s more air z);
      grows = λ lane. rw (← yard) (logs_begin_lem s more air z lane);
      agree = λ a b. rw (← yard) (logs_agree s more air z a b);
    }
