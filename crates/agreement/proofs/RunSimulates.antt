-- Lists of steps, roll calls among them, do and send what the model's do. Assumes nothing.
use mathlib.Core.Path.{◌≡◌, refl, sym, ap, ◌∙◌, subst}
use mathlib.Core.List.{List, [], ◌∷◌, ◌++◌}
use mathlib.Core.Logic.{◌⊎◌, inl, inr, ◌≢◌}
use Prim.Native.Nat.{ℕ, ◌<◌}
use native.Mathlib.Omega.{arith}
use lib.ListN.{length}
use borrow.Author.Tests.{eq-eqb, ne_eqb}
use Rattle.yard.specs.Worlds.{World, Single, singles}
use Rattle.roll.specs.RollCall.{roll_steps, source_spent, roll_refusal, roll_call, roll_call_air}
use Rattle.roll.specs.Runs.{Step, one, roll, answer, step, run, Order, sent_by, sent}
use Rattle.roll.specs.Answers.{answer_number}
use Rattle.laws.proofs.TestLaws.{same_or_not}
use Rattle.model.proofs.Model as model
use Rattle.model.proofs.Invariants.{RolesOk}
use Rattle.model.proofs.Moves.{roll_refused, move, sent_in, moves, all_sent, Good, single_good, move_good, good_clock, good_frames}
use Rattle.agreement.specs.YardRefusals.{step_refusal}
use Rattle.agreement.proofs.Views.{roles_of, yard_view}
use Rattle.agreement.proofs.Sound.{Sound}
use Rattle.agreement.proofs.Simulates.{Fit, Simulates}
use Rattle.agreement.proofs.ListSimulates.{one_simulates, ListSimulates, list_simulates, roll_same}

module _ (present sources dests : ℕ) (ro : RolesOk (roles_of present sources dests)) where
  abbrev R : model.Roles
  R = roles_of present sources dests

  -- the invariant, whatever was sent
  abbrev pub Keeps : model.Yard → Type 0
  Keeps Y = (S : List Order) × Good R ro Y S

  pub fits : (Y : model.Yard) → Keeps Y → Fit present sources dests Y
  fits Y g = record {
    ok = g.1.yard_ok;
    low = good_clock R ro Y g.0 g.1;
    room = good_frames R ro Y g.0 g.1;
  }

  pub next : (Y : model.Yard) → Keeps Y → (s : Single) → Keeps (model.step R Y s)
  next Y g s = (g.0 ++ model.sent_by R Y s, single_good R ro Y g.0 g.1 s)

  -- what a step of a list does, seen in the model
  pub record StepSimulates (w : World) (s : Step) : Type 0 where
    pub view : yard_view (step w s) ≡ move R (yard_view w) s
    pub sound : Sound present sources dests (step w s)
    pub number : answer_number (answer w s) ≡ step_refusal w s
    pub stays : 0 < step_refusal w s → step w s ≡ w
    pub sends : sent_by w s ≡ sent_in R (yard_view w) s

  -- ---- a roll call

  -- it is refused as the model's is
  pub roll_number_lem : (w : World) → Sound present sources dests w → roll_refusal w ≡ roll_refused R (yard_view w)
  unfolding roll_refusal source_spent roll_refused
  roll_number_lem w s = rw (eq-eqb (length w.air) 65536 s.whole, s.its_sources)

  pub roll_done : (w : World) → roll_refusal w ≡ 0 → step w roll ≡ singles w (roll_steps w)
  unfolding step roll_call roll_call_air
  roll_done w z = rw z

  roll_stays : (w : World) → roll_refusal w ≢ 0 → step w roll ≡ w
  unfolding step roll_call roll_call_air
  roll_stays w n = rw (ne_eqb (roll_refusal w) 0 n)

  roll_answers : (w : World) → answer_number (answer w roll) ≡ roll_refusal w
  unfolding answer roll_call
  roll_answers w = go (same_or_not (roll_refusal w) 0)
    where
      go : (roll_refusal w ≡ 0) ⊎ (roll_refusal w ≢ 0) → answer_number (answer w roll) ≡ roll_refusal w
      go (inl z) = rw z
      go (inr n) = rw (ne_eqb (roll_refusal w) 0 n)

  roll_simulates : (w : World) → Sound present sources dests w → Keeps (yard_view w) → StepSimulates w roll
  unfolding move sent_in sent_by
  roll_simulates w s g = go (same_or_not (roll_refusal w) 0)
    where
      ran : ListSimulates present sources dests Keeps fits next w (roll_steps w)
      ran = list_simulates present sources dests Keeps fits next w s g (roll_steps w)

      go : (roll_refusal w ≡ 0) ⊎ (roll_refusal w ≢ 0) → StepSimulates w roll
      go (inl z) = record {
        view = rw (sym (roll_number_lem w s) ∙ z)
            (ap yard_view (roll_done w z) ∙ ran.view ∙ ap (model.run R (yard_view w)) (roll_same present sources dests Keeps fits next w s g));
        sound = rw (roll_done w z) ran.sound;
        number = roll_answers w;
        stays = λ h. absurd (omega (arith, z));
        sends = refl;
      }
      go (inr n) = record {
        view = rw (← roll_number_lem w s, ne_eqb (roll_refusal w) 0 n) (ap yard_view (roll_stays w n));
        sound = rw (roll_stays w n) s;
        number = roll_answers w;
        stays = λ h. roll_stays w n;
        sends = refl;
      }

  -- ---- every step

  pub step_simulates : (w : World) → Sound present sources dests w → Keeps (yard_view w) → (s : Step) → StepSimulates w s
  step_simulates w s g roll = roll_simulates w s g
  step_simulates w s g (one x) = one_step x (one_simulates present sources dests Keeps fits next w s g x)
    where
      one_step : (x : Single) → Simulates present sources dests w x → StepSimulates w (one x)
      one_step x m = unfold step move sent_in in record { view = m.view; sound = m.sound; number = m.number; stays = m.stays; sends = m.sends }

  -- ---- lists of steps

  pub record RunSimulates (w : World) (l : List Step) : Type 0 where
    pub view : yard_view (run w l) ≡ moves R (yard_view w) l
    pub sound : Sound present sources dests (run w l)
    pub sends : sent w l ≡ all_sent R (yard_view w) l

  pub run_simulates : (w : World) → Sound present sources dests w → Keeps (yard_view w) → (l : List Step) → RunSimulates w l
  unfolding run sent moves all_sent
  run_simulates w s g [] = record { view = refl; sound = s; sends = refl }
  run_simulates w s g (x ∷ l) =
      let here = step_simulates w s g x in
      let keeps : Keeps (yard_view (step w x)) = subst Keeps (sym here.view) (g.0 ++ sent_in R (yard_view w) x, move_good R ro (yard_view w) g.0 g.1 x) in
      let r = run_simulates (step w x) here.sound keeps l in
      record {
        view = r.view ∙ ap (λ (Y : model.Yard). moves R Y l) here.view;
        sound = r.sound;
        sends = rw (here.sends, r.sends, here.view) refl;
      }
