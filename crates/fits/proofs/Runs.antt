-- A script's lines as a list of steps, and what demand 3 says of it. Assumes nothing.
use Prim.Native.Nat.{ℕ, ◌<◌, ◌≤◌}
use mathlib.Core.Path.{◌≡◌, refl, sym, ap, ◌∙◌}
use mathlib.Core.Bool.{Bool, true, false, cond, not, ◌&&◌}
use mathlib.Core.List.{List, [], ◌∷◌, ◌++◌, append_assoc}
use mathlib.Core.Logic.{◌⊎◌, inl, inr, ◌≢◌}
use native.Mathlib.Omega.{arith}
use lib.Dec.{ltb, leb, eqb}
use lib.ListN.{length}
use borrow.Author.Tests.{leb-true, eq-eqb}
use Rattle.air.specs.Air.{bad_air}
use Rattle.cells.specs.Sets.{has_lane}
use Rattle.lines.specs.Line.{Line}
use Rattle.state.specs.Yards.{post_at, beacons_at, spent, yard_refusal}
use Rattle.yard.specs.Singles.{frame_at}
use Rattle.yard.specs.Worlds.{World, order, hear, beacon}
use Rattle.roll.specs.RollCall.{source_spent, roll_refusal}
use Rattle.roll.specs.Runs.{Step, one, roll, answer, step, run, sent_by, sent}
use Rattle.roll.specs.Runs as runs
use Rattle.roll.specs.Answers.{answer_number}
use Rattle.meaning.specs.Script.{step_of, world_after}
use Rattle.fits.specs.Printed.{steps_of}
use Rattle.laws.proofs.TestLaws.{true_or_false, and_parts, some_which}
use Rattle.model.proofs.Functions.{sum_bound}
use Rattle.model.proofs.Moves.{Good, good_clock}
use Rattle.agreement.specs.YardRefusals.{order_yard_refusal, hear_yard_refusal, beacon_yard_refusal, step_refusal}
use Rattle.agreement.specs.Demand3.{fresh_world, Demand3}
use Rattle.agreement.specs.YardFacts.{YardFacts}
use Rattle.agreement.proofs.Views.{roles_of, yard_view}
use Rattle.agreement.proofs.Sound.{Sound}
use Rattle.agreement.proofs.FreshYards.{fresh_at}
use Rattle.agreement.proofs.WrongAir.{never_runs, never_sends}
use Rattle.agreement.proofs.Theorem.{run_last, ro, reached, good, agreement, facts}
use Rattle.fits.proofs.ItemLengths.{Short}
use Rattle.fits.proofs.LineCounts.{SomeSpent}
use Rattle.fits.proofs.ScriptCounts.{orders_of}

-- ---- the lines as a list of steps

-- a list of steps and then another
pub run_append : (w : World) (l m : List Step) → run w (l ++ m) ≡ run (run w l) m
unfolding run
run_append w [] m = refl
run_append w (x ∷ l) m = run_append (step w x) l m

sent_append : (w : World) (l m : List Step) → sent w (l ++ m) ≡ sent w l ++ sent (run w l) m
unfolding run sent
sent_append w [] m = refl
sent_append w (x ∷ l) m = rw (sent_append (step w x) l m) (sym (append_assoc (sent_by w x) (sent (step w x) l) (sent (run (step w x) l) m)))

-- the world after the lines, and the orders that they send
pub after_run : (w : World) (ls : List Line) → world_after w ls ≡ run w (steps_of ls)
unfolding world_after steps_of
after_run w [] = unfold run in refl
after_run w (l ∷ ls) = after_run (run w (step_of l)) ls ∙ sym (run_append w (step_of l) (steps_of ls))

pub orders_sent_lem : (w : World) (ls : List Line) → orders_of w ls ≡ sent w (steps_of ls)
unfolding orders_of steps_of
orders_sent_lem w [] = unfold sent in refl
orders_sent_lem w (l ∷ ls) =
    ap (λ (o : List runs.Order). sent w (step_of l) ++ o) (orders_sent_lem (run w (step_of l)) ls) ∙ sym (sent_append w (step_of l) (steps_of ls))

-- ---- the refusals of a yard have numbers of two digits

-- a chain of refusals, one at a time
two_digits : (b : Bool) (k r : ℕ) → k < 100 → r < 100 → cond b k r < 100
two_digits true k r h i = h
two_digits false k r h i = i

-- of each step
small_number : (w : World) (x : Step) → step_refusal w x < 100
unfolding order_yard_refusal hear_yard_refusal beacon_yard_refusal roll_refusal
small_number w (one (order lane word)) =
    two_digits (ltb 7 lane) 4 _ (omega arith)
    (two_digits (ltb 65535 word) 5 _ (omega arith)
    (two_digits (bad_air w.air) 13 _ (omega arith)
    (two_digits (not (has_lane w.yard.present lane)) 21 _ (omega arith)
    (two_digits (not (has_lane w.yard.sources lane)) 22 _ (omega arith)
    (two_digits (leb 16 (post_at w.yard lane).serial.0) 23 0 (omega arith) (omega arith))))))
small_number w (one (hear lane k)) =
    two_digits (ltb 7 lane) 4 _ (omega arith)
    (two_digits (bad_air w.air) 13 _ (omega arith)
    (two_digits (not (has_lane w.yard.present lane)) 21 _ (omega arith)
    (two_digits (leb w.yard.frames k) 25 _ (omega arith)
    (two_digits (eqb (frame_at w.air k).sender lane) 26 0 (omega arith) (omega arith)))))
small_number w (one (beacon lane)) =
    two_digits (ltb 7 lane) 4 _ (omega arith)
    (two_digits (bad_air w.air) 13 _ (omega arith)
    (two_digits (not (has_lane w.yard.present lane)) 21 _ (omega arith)
    (two_digits (spent (beacons_at w.yard lane)) 27 0 (omega arith) (omega arith))))
small_number w roll =
    two_digits (bad_air w.air) 13 _ (omega arith)
    (two_digits (source_spent w.yard) 27 0 (omega arith) (omega arith))

-- ---- the worlds that a list of steps leads to

abbrev pub LedTo : World → World → Type 0
LedTo w v = (steps : List Step) × (run w steps ≡ v)

-- a step more
pub reached_next : (w v : World) → LedTo w v → (x : Step) → LedTo w (step v x)
reached_next w v r x = (r.0 ++ (x ∷ []), run_last w r.0 x ∙ ap (λ (u : World). step u x) r.1)

module _ (present sources dests : ℕ) (air : List ℕ) (small : present < 256) (smallSources : sources < 256) (smallDests : dests < 256)
    (z : yard_refusal present sources dests ≡ 0) where
  abbrev w : World
  w = fresh_world present sources dests air

  -- demand 3 of the fresh world
  pub demand : Demand3 present sources dests w
  demand = agreement present sources dests air small smallSources smallDests z

  -- and what else holds of it
  pub yard_facts : YardFacts w
  yard_facts = facts present sources dests air small smallSources smallDests z

  -- so each answer's number has two digits
  pub reached_small : (v : World) → LedTo w v → (x : Step) → answer_number (answer v x) < 100
  reached_small v r x = rw (← r.1) (omega (arith, yard_facts.refusals r.0 x, small_number (run w r.0) x))

  -- what bounds the posts' lines
  pub record Bounded (steps : List Step) : Type 0 where
    pub clocks : (lane : ℕ) → lane < 8 → (post_at (run w steps).yard lane).clock.0 ≤ 1024
    pub short : Short (sent w steps)
    pub count : length (sent w steps) ≤ 128

  -- ---- an air of the right length

  module _ (whole : length air ≡ 65536) where
    -- clocks and stamps are at most 1,024, and each of eight lanes has sent 16 orders at most
    pub right_bounded : (steps : List Step) → Bounded steps
    right_bounded steps = record {
      clocks = λ lane l. low lane;
      short = λ o m.
          let s = g.sent_listed.listed_sent o m in (
            omega (arith, s.stamp_is, (g.yard_ok.selves o.lane).stamps_under_clock o.serial s.from_one s.was_sent, low o.lane),
            g.sent_listed.listed_lane o m,
          );
      count = omega (arith, g.sent_count, sum_bound (λ (i : ℕ). ((yard_view (run w steps)).posts i).own) 8 16 (λ i. (g.yard_ok.selves i).own_at_most));
    }
      where
        g : Good (roles_of present sources dests) (ro present sources dests air small smallSources smallDests z whole) (yard_view (run w steps)) (sent w steps)
        g = good present sources dests air small smallSources smallDests z whole steps

        low : (i : ℕ) → ((yard_view (run w steps)).posts i).clock ≤ 1024
        low i = good_clock (roles_of present sources dests) (ro present sources dests air small smallSources smallDests z whole) (yard_view (run w steps)) (sent w steps) g i

    -- a roll call is refused only where some source has sent its 128
    pub right_spent : (v : World) → LedTo w v → roll_refusal v ≢ 0 → SomeSpent v
    unfolding roll_refusal source_spent
    right_spent v r n = rw (← r.1) (go (true_or_false (source_spent u.yard)))
      where
        u : World
        u = run w r.0

        so : Sound present sources dests u
        so = (reached present sources dests air small smallSources smallDests z whole r.0).sound

        test : ℕ → Bool
        test i = has_lane u.yard.sources i && spent (beacons_at u.yard i)

        go : (source_spent u.yard ≡ true) ⊎ (source_spent u.yard ≡ false) → SomeSpent u
        go (inl e) =
            let q = some_which test 8 e in
            (q.0, leb-true 128 (beacons_at u.yard q.0) (and_parts (has_lane u.yard.sources q.0) (spent (beacons_at u.yard q.0)) q.2).1)
        go (inr e) = absurd (n (rw (← r.1) (rw (eq-eqb (length u.air) 65536 so.whole, e))))

  -- ---- an air of another length

  module _ (bad : length air ≢ 65536) where
    -- nothing is sent
    pub wrong_sent : (steps : List Step) → sent w steps ≡ []
    wrong_sent steps = never_sends w bad steps

    -- and nothing changes
    pub wrong_bounded : (steps : List Step) → Bounded steps
    wrong_bounded steps = record {
      clocks = λ lane l. rw (never_runs w bad steps, fresh_at present sources dests lane l) (omega arith);
      short = rw (wrong_sent steps) (λ o m. absurd m);
      count = rw (wrong_sent steps) (omega arith);
    }
