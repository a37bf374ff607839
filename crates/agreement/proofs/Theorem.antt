-- DEMAND 3, proved: `agreement`, of specs/Demand3.antt; and what else holds of every yard: `facts`, of specs/YardFacts.antt. Assumes nothing.
use mathlib.Core.Path.{◌≡◌, refl, sym, ap, ap₂, ◌∙◌, subst}
use mathlib.Core.List.{List, [], ◌∷◌, ◌++◌, append-nil}
use mathlib.Core.Logic.{◌⊎◌, inl, inr, ◌≢◌}
use Prim.Native.Nat.{ℕ, ◌+◌, ◌<◌}
use native.Mathlib.Omega.{arith}
use lib.ListN.{length, get_or}
use borrow.Author.Tests.{ne_eqb}
use Rattle.cells.specs.Tables.{order_place}
use Rattle.state.specs.Yards.{post_at, beacons_at, fresh_yard, yard_refusal}
use Rattle.yard.specs.Worlds.{World}
use Rattle.roll.specs.RollAnswer as calling
use Rattle.roll.specs.RollCall.{roll_steps, roll_refusal, roll_call}
use Rattle.roll.specs.Runs.{Step, roll, Answer, ordered, heard, beaconed, called, answer, step, run, Order, sent}
use Rattle.roll.specs.Logs.{log_at, in_order}
use Rattle.roll.specs.Answers.{answer_number}
use Rattle.roll.specs.Taken.{sum_below, orders_taken, beacons_of_all}
use Rattle.laws.proofs.TestLaws.{same_or_not}
use Rattle.laws.proofs.ListLaws.{Mem, Begins}
use Rattle.laws.proofs.Valid.{valid_judged}
use Rattle.model.proofs.Functions.{sum_bound}
use Rattle.model.proofs.Model as model
use Rattle.model.proofs.Invariants.{RolesOk}
use Rattle.model.proofs.Air.{total_bound}
use Rattle.model.proofs.RollAccepted.{roll_accepted}
use Rattle.model.proofs.Moves as moving
use Rattle.agreement.specs.Demand3.{fresh_world, AllAccepted, AfterRollCall, Demand3, Agreement}
use Rattle.agreement.specs.YardFacts.{FirstFrame, YardFacts, Facts}
use Rattle.agreement.proofs.Views.{roles_of, places_view, air_view, yard_view}
use Rattle.agreement.proofs.Sound.{Sound}
use Rattle.agreement.proofs.RollViews.{count_sources, count_posts}
use Rattle.agreement.proofs.ListSimulates.{list_accepted, roll_same}
use Rattle.agreement.proofs.RunSimulates.{Keeps, fits, next, StepSimulates, step_simulates, roll_number_lem, roll_done, RunSimulates, run_simulates}
use Rattle.agreement.proofs.FreshYards.{fresh_beacons, fresh_serial, fresh_view, fresh_log, roles_ok, fresh_sound, fresh_records, some_ones}
use Rattle.agreement.proofs.WrongAir.{each_refused, never_runs, never_sends}
use Rattle.agreement.proofs.Beginnings.{begin_each_other}
use Rattle.agreement.proofs.Promises.{one_list, serials, first_frame, taken_total, beacons_total}

-- how many steps an answer says were run
abbrev steps_said : Answer → ℕ
steps_said (ordered a) = 0
steps_said (heard a) = 0
steps_said (beaconed a) = 0
steps_said (called (calling.Called n)) = n
steps_said (called (calling.Refused n)) = 0

-- a roll call that answers a count was not refused, and ran that many steps
roll_ran : (w : World) (n : ℕ) → answer w roll ≡ called (calling.Called n) → (roll_refusal w ≡ 0) × (n ≡ length (roll_steps w))
unfolding answer roll_call
roll_ran w n e = go (same_or_not (roll_refusal w) 0)
  where
    go : (roll_refusal w ≡ 0) ⊎ (roll_refusal w ≢ 0) → (roll_refusal w ≡ 0) × (n ≡ length (roll_steps w))
    go (inl z) = (z, sym (ap steps_said e) ∙ rw z refl)
    go (inr ne) = absurd (ne (let r : ◌≡◌ {A = ℕ} (roll_refusal w) 0 = rw (ne_eqb (roll_refusal w) 0 ne) at (ap answer_number e) in r))

-- a list of steps and one more
pub run_last : (v : World) (l : List Step) (s : Step) → run v (l ++ (s ∷ [])) ≡ step (run v l) s
unfolding run
run_last v [] s = refl
run_last v (x ∷ l) s = run_last (step v x) l s

module _ (present sources dests : ℕ) (air : List ℕ) (small : present < 256) (smallSources : sources < 256) (smallDests : dests < 256)
    (z : yard_refusal present sources dests ≡ 0) where
  abbrev w : World
  w = fresh_world present sources dests air

  -- ---- an air of the right length

  module _ (whole : length air ≡ 65536) where
    abbrev R : model.Roles
    R = roles_of present sources dests

    pub ro : RolesOk R
    ro = roles_ok present sources dests small smallSources smallDests z

    abbrev Y : model.Yard
    Y = model.fresh (air_view air 0)

    start : Sound present sources dests w
    start = fresh_sound present sources dests small smallSources smallDests z air whole

    start_keeps : Keeps present sources dests ro (yard_view w)
    start_keeps = ([], subst (λ (X : model.Yard). moving.Good R ro X []) (sym (fresh_view present sources dests air)) (moving.fresh_good R ro (air_view air 0)))

    pub reached : (steps : List Step) → RunSimulates present sources dests ro w steps
    reached steps = run_simulates present sources dests ro w start start_keeps steps

    -- the model after the same steps
    view : (steps : List Step) → yard_view (run w steps) ≡ moving.moves R Y steps
    view steps = (reached steps).view ∙ ap (λ (X : model.Yard). moving.moves R X steps) (fresh_view present sources dests air)

    sends : (steps : List Step) → sent w steps ≡ moving.all_sent R Y steps
    sends steps = (reached steps).sends ∙ ap (λ (X : model.Yard). moving.all_sent R X steps) (fresh_view present sources dests air)

    pub good : (steps : List Step) → moving.Good R ro (yard_view (run w steps)) (sent w steps)
    good steps = rw (view steps, sends steps) (moving.good R ro (air_view air 0) steps)

    each : (steps : List Step) (s : Step) → StepSimulates present sources dests ro (run w steps) s
    each steps s = step_simulates present sources dests ro (run w steps) (reached steps).sound (sent w steps, good steps) s

    log_is : (steps : List Step) (lane : ℕ) → log_at (run w steps) lane ≡ ((moving.moves R Y steps).posts lane).log
    log_is steps lane = ap (λ (X : model.Yard). (X.posts lane).log) (view steps)

    logs : (steps more : List Step) (lane : ℕ) → Begins (log_at (run w steps) lane) (in_order (sent w (steps ++ more)))
    logs steps more lane = rw (log_is steps lane, sends (steps ++ more)) (moving.logs R ro (air_view air 0) steps more lane)

    agree : (steps more : List Step) (a b : ℕ)
        → Begins (log_at (run w steps) a) (log_at (run w (steps ++ more)) b) ⊎ Begins (log_at (run w (steps ++ more)) b) (log_at (run w steps) a)
    agree steps more a b =
        begin_each_other (log_at (run w steps) a) (log_at (run w (steps ++ more)) b) (in_order (sent w (steps ++ more)))
        (logs steps more a)
        (rw (append-nil (steps ++ more)) at (logs (steps ++ more) [] b))

    rolls : (steps : List Step) (n : ℕ) → answer (run w steps) roll ≡ called (calling.Called n) → AfterRollCall present sources dests w steps n
    rolls steps n e =
        let ran = roll_ran (run w steps) n e in
        let c = moving.called R ro (air_view air 0) steps (rw (count_posts present sources dests small) (some_ones present sources dests small smallSources smallDests z))
        (rw (view steps) at (unrefused ran.0)) in
        record {
          logs = λ lane d. rw (log_is (steps ++ (roll ∷ [])) lane, sends (steps ++ (roll ∷ [])), c.none_sent) (c.logs_whole lane d);
          did = run_last w steps roll ∙ roll_done present sources dests ro (run w steps) ran.0;
          ran = ran.1;
          accepted = all_accepted ran.0;
          formula = ran.1 ∙ counted ∙ c.answer_is
              ∙ rw (count_posts present sources dests small, count_sources present sources dests smallSources, sends steps) refl;
        }
      where
        -- the model's call is not refused either
        unrefused : roll_refusal (run w steps) ≡ 0 → moving.roll_refused R (yard_view (run w steps)) ≡ 0
        unrefused z = sym (roll_number_lem present sources dests ro (run w steps) (reached steps).sound) ∙ z

        -- its list of single steps is the model's
        listed : roll_steps (run w steps) ≡ model.roll_steps R (yard_view (run w steps))
        listed = roll_same present sources dests (Keeps present sources dests ro) (fits present sources dests ro)
            (next present sources dests ro) (run w steps) (reached steps).sound (sent w steps, good steps)

        counted : length (roll_steps (run w steps)) ≡ moving.roll_answer R (moving.moves R Y steps)
        counted = ap length listed
            ∙ (unfold moving.roll_answer in ap (λ (X : model.Yard). length (model.roll_steps R X)) (view steps))

        -- of which none is refused
        all_accepted : roll_refusal (run w steps) ≡ 0 → AllAccepted (run w steps) (roll_steps (run w steps))
        all_accepted z =
            let g = good steps in
            list_accepted present sources dests (Keeps present sources dests ro) (fits present sources dests ro)
            (next present sources dests ro) (run w steps) (reached steps).sound (sent w steps, g) (roll_steps (run w steps))
            (rw listed (roll_accepted R ro (yard_view (run w steps)) g.yard_ok g.air_ok
            (moving.roll_left R (yard_view (run w steps)) ro (unrefused z))))

    firsts : (steps : List Step) (o : Order) → Mem o (sent w steps)
        → FirstFrame (run w steps) o (get_or (run w steps).yard.first (order_place o.lane o.serial) 0)
    firsts steps o m =
        let g = good steps in
        let s = g.sent_listed.listed_sent o m in
        first_frame R (run w steps) o (places_view (run w steps).yard.first o.lane o.serial) g.yard_ok s
        (g.air_ok.first_frames o.lane o.serial s.from_one s.was_sent)

    pub holds : Demand3 present sources dests w
    holds = record {
      logs = logs;
      list = λ steps. one_list w steps (good steps).sent_listed.listed_lane (good steps).sent_listed.listed_apart;
      agree = agree;
      rolls = rolls;
    }

    pub facts_hold : YardFacts w
    facts_hold = record {
      refusals = λ steps s. (each steps s).number;
      stays = λ steps s h. (each steps s).stays (rw (each steps s).number at h);
      frames = λ steps. (good steps).air_ok.frames_count ∙ ap₂ ◌+◌ (taken_total (run w steps)) (beacons_total (run w steps));
      taken_bound = λ steps. rw (← taken_total (run w steps)) (total_bound R (yard_view (run w steps)) (good steps).yard_ok);
      post_bound = λ steps. (good steps).air_ok.beacons_at_most;
      beacon_bound = λ steps. rw (← beacons_total (run w steps)) (sum_bound (yard_view (run w steps)).beacons 8 128 (good steps).air_ok.beacons_at_most);
      serials = λ steps lane. serials R w steps lane (good steps).yard_ok (good steps).sent_listed;
      records = λ steps lane l. valid_judged (post_at (run w steps).yard lane) ((reached steps).sound.post lane l).valid;
      firsts = firsts;
    }

  -- ---- an air of another length

  module _ (bad : length air ≢ 65536) where
    stands : (steps : List Step) → run w steps ≡ w
    stands steps = never_runs w bad steps

    nothing_sent : (steps : List Step) → sent w steps ≡ []
    nothing_sent steps = never_sends w bad steps

    no_log : (steps : List Step) (lane : ℕ) → log_at (run w steps) lane ≡ []
    no_log steps lane = ap (λ (x : World). log_at x lane) (stands steps) ∙ fresh_log present sources dests air lane

    -- no order was sent or taken, and no frame is on the air
    no_serial : (steps : List Step) (lane : ℕ) → (post_at (run w steps).yard lane).serial.0 ≡ 0
    no_serial steps lane = ap (λ (x : World). (post_at x.yard lane).serial.0) (stands steps) ∙ fresh_serial present sources dests lane

    none_taken : orders_taken w ≡ 0
    none_taken = unfold fresh_yard orders_taken sum_below in refl

    none_aired : w.yard.frames ≡ orders_taken w + beacons_of_all w
    none_aired = unfold fresh_yard orders_taken beacons_of_all sum_below in refl

    none_sent_lem : (lane : ℕ) → beacons_at w.yard lane ≡ 0
    none_sent_lem lane = ap (λ (f : ℕ → ℕ). f lane) (fresh_beacons present sources dests)

    -- nothing happens
    idle : Demand3 present sources dests w
    idle = record {
      logs = λ steps more lane. rw (no_log steps lane) (in_order (sent w (steps ++ more)), refl);
      list = λ steps. one_list w steps (rw (nothing_sent steps) (λ o m. absurd m)) (rw (nothing_sent steps) tt);
      agree = λ steps more a b. rw (no_log steps a) (inl (log_at (run w (steps ++ more)) b, refl));
      rolls = λ steps n e. absurd (omega (arith, (each_refused w bad roll).some, ap answer_number (rw (stands steps) at e)));
    }

    facts_idle : YardFacts w
    facts_idle = record {
      refusals = λ steps s. rw (stands steps) (each_refused w bad s).number;
      stays = λ steps s h. rw (stands steps) (each_refused w bad s).stays;
      frames = λ steps. rw (stands steps) none_aired;
      taken_bound = λ steps. rw (stands steps) (omega (arith, none_taken));
      post_bound = λ steps lane. rw (stands steps, none_sent_lem lane) (omega arith);
      beacon_bound = λ steps. rw (stands steps) (unfold fresh_yard beacons_of_all sum_below in omega arith);
      serials = λ steps lane. record {
        few = omega (arith, no_serial steps lane);
        only = rw (nothing_sent steps) (λ o m. absurd m);
        every = λ n a b. absurd (omega (arith, no_serial steps lane));
      };
      records = λ steps lane l. rw (stands steps) (fresh_records present sources dests small smallSources smallDests z lane l);
      firsts = λ steps. rw (nothing_sent steps) (λ o m. absurd m);
    }

pub agreement : Agreement
agreement present sources dests air a b c z = go (same_or_not (length air) 65536)
  where
    go : (length air ≡ 65536) ⊎ (length air ≢ 65536) → Demand3 present sources dests (fresh_world present sources dests air)
    go (inl whole) = holds present sources dests air a b c z whole
    go (inr bad) = idle present sources dests air a b c z bad

pub facts : Facts
facts present sources dests air a b c z = go (same_or_not (length air) 65536)
  where
    go : (length air ≡ 65536) ⊎ (length air ≢ 65536) → YardFacts (fresh_world present sources dests air)
    go (inl whole) = facts_hold present sources dests air a b c z whole
    go (inr bad) = facts_idle present sources dests air a b c z bad
