-- Lists of steps, roll calls among them: what holds after every such list, and so of every log. Assumes nothing.
use mathlib.Core.Path.{◌≡◌, refl, sym, ◌∙◌}
use mathlib.Core.List.{List, [], ◌∷◌, ◌++◌, append-nil, append_assoc}
use mathlib.Core.Bool.{true, cond, ◌&&◌}
use Prim.Native.Nat.{ℕ, ◌+◌, ◌-◌, ◌*◌, ◌≤◌, ◌<◌}
use native.Mathlib.Omega.{arith}
use lib.Dec.{eqb}
use lib.ListN.{length, length-append}
use borrow.Author.Tests.{eq-eqb, leb-false}
use Rattle.frame.specs.Lanes.{any_below}
use Rattle.frame.proofs.Laws.{passed}
use Rattle.laws.proofs.TestLaws.{and_second, none_each}
use Rattle.laws.proofs.ListLaws.{Begins, begins_itself, begins_on}
use Rattle.state.specs.Yards.{spent}
use Rattle.yard.specs.Worlds.{Single}
use Rattle.roll.specs.Runs.{Order, Step, one, roll}
use Rattle.roll.specs.Logs.{in_order}
use Rattle.model.proofs.Functions.{sum_below}
use Rattle.model.proofs.Model.{Frame, Roles, Yard, step, sent_by, run, sent, fresh_post, fresh, sources_below, posts_below, roll_steps}
use Rattle.model.proofs.Invariants.{RolesOk, source_below, YardOk}
use Rattle.model.proofs.Steps.{if_zero, step_ok, run_ok, run_log}
use Rattle.model.proofs.SentOrders.{Lists, step_lists, run_lists, log_begins, fresh_ok, fresh_lists}
use Rattle.model.proofs.Air.{AirOk, frames_bound, clock_bound, step_air, run_air, fresh_air}
use Rattle.model.proofs.Counts.{orders, roll_count_lem, step_orders, run_orders}
use Rattle.model.proofs.RollLists.{roll_sends_none}
use Rattle.model.proofs.RollBeacons.{Left}
use Rattle.model.proofs.RollCall.{roll_logs}

-- ---- a step of a list, and lists of them, as in `Runs` of the crate `roll`

module _ (R : Roles) where
  -- 27, "when some source has none left"
  unfoldable pub roll_refused : Yard → ℕ
  roll_refused Y = cond (any_below (λ (i : ℕ). R.source i && spent (Y.beacons i)) 8) 27 0

  -- what a roll call answers
  unfoldable pub roll_answer : Yard → ℕ
  roll_answer Y = length (roll_steps R Y)

  -- what a step leaves
  unfoldable pub move : Yard → Step → Yard
  move Y (one s) = step R Y s
  move Y roll = cond (eqb (roll_refused Y) 0) (run R Y (roll_steps R Y)) Y

  -- the order that it sends, if any
  unfoldable pub sent_in : Yard → Step → List Order
  sent_in Y (one s) = sent_by R Y s
  sent_in Y roll = []

  -- what a list of them leaves
  unfoldable pub moves : Yard → List Step → Yard
  moves Y [] = Y
  moves Y (m ∷ l) = moves (move Y m) l

  -- all orders that it sends, in the order of sending
  unfoldable pub all_sent : Yard → List Step → List Order
  all_sent Y [] = []
  all_sent Y (m ∷ l) = sent_in Y m ++ all_sent (move Y m) l

  -- a list and then another: what they leave
  pub moves_append : (Y : Yard) (l m : List Step) → moves Y (l ++ m) ≡ moves (moves Y l) m
  unfolding moves
  moves_append Y [] m = refl
  moves_append Y (s ∷ l) m = moves_append (move Y s) l m

  -- and what they send
  pub sent_append : (Y : Yard) (l m : List Step) → all_sent Y (l ++ m) ≡ all_sent Y l ++ all_sent (moves Y l) m
  unfolding all_sent moves
  sent_append Y [] m = refl
  sent_append Y (s ∷ l) m =
      rw (sent_append (move Y s) l m) (sym (append_assoc (sent_in Y s) (all_sent (move Y s) l) (all_sent (moves (move Y s) l) m)))

  -- where a roll call is not refused every source has a beacon left
  pub roll_left : (Y : Yard) → RolesOk R → roll_refused Y ≡ 0 → Left R Y
  unfolding roll_refused
  roll_left Y ro e i s =
      let p = passed (any_below (λ (i : ℕ). R.source i && spent (Y.beacons i)) 8) 27 0 (omega arith) e in
      let q = none_each (λ (i : ℕ). R.source i && spent (Y.beacons i)) 8 p.0 i (source_below R ro i s) in
      leb-false 128 (Y.beacons i) (and_second (R.source i) (spent (Y.beacons i)) q s)

-- ---- what holds after every list of steps

-- Y is as a yard has to be, and S are the orders sent so far, in the order of sending
pub record Good (R : Roles) (ro : RolesOk R) (Y : Yard) (S : List Order) : Type 0 where
  pub yard_ok : YardOk R Y
  pub air_ok : AirOk Y
  pub sent_listed : Lists Y.posts S
  pub sent_count : orders Y ≡ length S

module _ (R : Roles) (ro : RolesOk R) where
  -- after a single step, refused or not
  pub single_good : (Y : Yard) (S : List Order) → Good R ro Y S → (s : Single) → Good R ro (step R Y s) (S ++ sent_by R Y s)
  single_good Y S g s = record {
    yard_ok = (step_ok R ro Y s g.yard_ok).next_ok;
    air_ok = step_air R ro Y s g.yard_ok g.air_ok;
    sent_listed = step_lists R ro Y s g.yard_ok S g.sent_listed;
    sent_count = rw length-append (omega (arith, step_orders R Y s, g.sent_count));
  }

  -- after a list of single steps
  pub singles_good : (Y : Yard) (S : List Order) → Good R ro Y S → (l : List Single) → Good R ro (run R Y l) (S ++ sent R Y l)
  singles_good Y S g l = record {
    yard_ok = run_ok R ro Y l g.yard_ok;
    air_ok = run_air R ro Y l g.yard_ok g.air_ok;
    sent_listed = run_lists R ro Y l g.yard_ok S g.sent_listed;
    sent_count = rw length-append (omega (arith, run_orders R Y l, g.sent_count));
  }

  -- after a roll call's list, which sends nothing
  pub roll_good : (Y : Yard) (S : List Order) → Good R ro Y S → Good R ro (run R Y (roll_steps R Y)) S
  roll_good Y S g = rw (← append-nil S, ← roll_sends_none R Y) (singles_good Y S g (roll_steps R Y))

  -- after a step of a list
  pub move_good : (Y : Yard) (S : List Order) → Good R ro Y S → (m : Step) → Good R ro (move R Y m) (S ++ sent_in R Y m)
  unfolding move sent_in
  move_good Y S g (one s) = single_good Y S g s
  move_good Y S g roll =
      rw append-nil (if_zero (λ Z. Good R ro Z S) (roll_refused R Y) (run R Y (roll_steps R Y)) Y (λ e. roll_good Y S g) g)

  -- after a list of steps
  pub moves_good : (Y : Yard) (S : List Order) → Good R ro Y S → (l : List Step) → Good R ro (moves R Y l) (S ++ all_sent R Y l)
  unfolding moves all_sent
  moves_good Y S g [] = rw append-nil g
  moves_good Y S g (m ∷ l) = rw (← append_assoc S (sent_in R Y m) (all_sent R (move R Y m) l))
      (moves_good (move R Y m) (S ++ sent_in R Y m) (move_good Y S g m) l)

  -- in a fresh yard, whatever bytes the air holds
  pub fresh_good : (air : ℕ → Frame) → Good R ro (fresh air) []
  fresh_good air = record {
    yard_ok = fresh_ok R air;
    air_ok = fresh_air air;
    sent_listed = fresh_lists air;
    sent_count = unfold fresh fresh_post sum_below in refl;
  }

  -- after every list of steps from it
  pub good : (air : ℕ → Frame) (l : List Step) → Good R ro (moves R (fresh air) l) (all_sent R (fresh air) l)
  good air l = moves_good (fresh air) [] (fresh_good air) l

  -- ---- bounds

  -- at most 2,048 frames
  pub good_frames : (Y : Yard) (S : List Order) → Good R ro Y S → Y.frames ≤ 2048
  good_frames Y S g = frames_bound R Y g.yard_ok g.air_ok

  -- no clock above 1,024
  pub good_clock : (Y : Yard) (S : List Order) → Good R ro Y S → (p : ℕ) → (Y.posts p).clock ≤ 1024
  good_clock Y S g p = clock_bound R Y g.yard_ok g.air_ok p

  -- ---- logs

  -- a log is begun by what it was before a single step
  pub single_log : (Y : Yard) (S : List Order) → Good R ro Y S → (s : Single) (p : ℕ) → Begins (Y.posts p).log ((step R Y s).posts p).log
  single_log Y S g s p = (step_ok R ro Y s g.yard_ok).logs_begin p

  -- before a list of single steps
  pub singles_log : (Y : Yard) (S : List Order) → Good R ro Y S → (l : List Single) (p : ℕ) → Begins (Y.posts p).log ((run R Y l).posts p).log
  singles_log Y S g l p = run_log R ro Y l g.yard_ok p

  -- before a step of a list
  pub move_log : (Y : Yard) (S : List Order) → Good R ro Y S → (m : Step) (p : ℕ) → Begins (Y.posts p).log ((move R Y m).posts p).log
  unfolding move
  move_log Y S g (one s) p = single_log Y S g s p
  move_log Y S g roll p = if_zero (λ Z. Begins (Y.posts p).log (Z.posts p).log) (roll_refused R Y) (run R Y (roll_steps R Y)) Y
      (λ e. singles_log Y S g (roll_steps R Y) p) (begins_itself (Y.posts p).log)

  -- before a list of steps
  pub moves_log : (Y : Yard) (S : List Order) → Good R ro Y S → (l : List Step) (p : ℕ) → Begins (Y.posts p).log ((moves R Y l).posts p).log
  unfolding moves
  moves_log Y S g [] p = begins_itself (Y.posts p).log
  moves_log Y S g (m ∷ l) p = begins_on (Y.posts p).log ((move R Y m).posts p).log ((moves R (move R Y m) l).posts p).log
      (move_log Y S g m p) (moves_log (move R Y m) (S ++ sent_in R Y m) (move_good Y S g m) l p)

  -- a log begins the list of the orders sent, by stamp and then lane
  pub good_log : (Y : Yard) (S : List Order) → Good R ro Y S → (p : ℕ) → Begins (Y.posts p).log (in_order S)
  good_log Y S g p = log_begins R ro Y g.yard_ok S g.sent_listed p

  -- of those sent by the end, or by the end of any continuation
  pub logs : (air : ℕ → Frame) (steps more : List Step) (p : ℕ)
      → Begins ((moves R (fresh air) steps).posts p).log (in_order (all_sent R (fresh air) (steps ++ more)))
  logs air steps more p = begins_on (Y.posts p).log ((moves R Y more).posts p).log (in_order (all_sent R (fresh air) (steps ++ more)))
      (moves_log Y (all_sent R (fresh air) steps) (good air steps) more p)
      (rw (← moves_append R (fresh air) steps more)
      (good_log (moves R (fresh air) (steps ++ more)) (all_sent R (fresh air) (steps ++ more)) (good air (steps ++ more)) p))
    where
      Y : Yard
      Y = moves R (fresh air) steps

  -- ---- after a roll call that is not refused

  -- every destination's log is the list of all orders sent
  pub roll_whole : (Y : Yard) (S : List Order) → Good R ro Y S → roll_refused R Y ≡ 0 → (p : ℕ) → R.dest p ≡ true
      → ((move R Y roll).posts p).log ≡ in_order S
  unfolding move
  roll_whole Y S g e p d = rw (eq-eqb (roll_refused R Y) 0 e)
      (roll_logs R ro Y S g.yard_ok g.air_ok g.sent_listed (roll_left R Y ro e) p d)

  -- and its answer, with N posts, M orders sent and S sources: (N − 1) × M + N × S
  pub roll_answer_lem : (Y : Yard) (S : List Order) → Good R ro Y S → 0 < posts_below R 8
      → roll_answer R Y ≡ (posts_below R 8 - 1) * length S + posts_below R 8 * sources_below R 8
  unfolding roll_answer
  roll_answer_lem Y S g n = rw (← g.sent_count) (roll_count_lem R ro Y g.yard_ok n)

  -- after a list of steps from a fresh yard, and a roll call
  pub record Called (air : ℕ → Frame) (steps : List Step) : Type 0 where
    pub logs_whole : (p : ℕ) → R.dest p ≡ true → ((moves R (fresh air) (steps ++ (roll ∷ []))).posts p).log ≡ in_order (all_sent R (fresh air) steps)
    pub none_sent : all_sent R (fresh air) (steps ++ (roll ∷ [])) ≡ all_sent R (fresh air) steps
    pub answer_is : roll_answer R (moves R (fresh air) steps)
        ≡ (posts_below R 8 - 1) * length (all_sent R (fresh air) steps) + posts_below R 8 * sources_below R 8

  -- holds where there is a post and the roll call is not refused
  pub called : (air : ℕ → Frame) (steps : List Step) → 0 < posts_below R 8 → roll_refused R (moves R (fresh air) steps) ≡ 0 → Called air steps
  unfolding moves all_sent sent_in
  called air steps n e = record {
    logs_whole = λ p d. rw (moves_append R (fresh air) steps (roll ∷ [])) (roll_whole Y S (good air steps) e p d);
    none_sent = sent_append R (fresh air) steps (roll ∷ []) ∙ append-nil S;
    answer_is = roll_answer_lem Y S (good air steps) n;
  }
    where
      Y : Yard
      Y = moves R (fresh air) steps

      S : List Order
      S = all_sent R (fresh air) steps
