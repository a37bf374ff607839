-- The roll call: after it every destination has logged all orders sent, by stamp and then lane. Assumes nothing.
use mathlib.Core.Path.{◌≡◌, refl, ap, ◌∙◌}
use mathlib.Core.List.{List, ◌++◌, append-nil}
use mathlib.Core.Logic.{◌⊎◌, inl, inr, ◌≢◌}
use mathlib.Core.Bool.{Bool, true, false}
use Prim.Native.Nat.{ℕ, ◌≤◌, ◌<◌}
use native.Mathlib.Omega.{arith}
use Rattle.laws.proofs.TestLaws.{same_or_not}
use Rattle.laws.proofs.ListLaws.{Mem, mem_left, Begins}
use Rattle.roll.specs.Runs.{Order}
use Rattle.roll.specs.Logs.{in_order}
use Rattle.model.proofs.Functions.{le_or_not}
use Rattle.model.proofs.Model.{Post, Roles, Yard, order_of, ready, run, posts_hear, beacons_sent, posts_hear_beacons, roll_steps}
use Rattle.model.proofs.OrderLists.{in_order_mem, in_order_rises, unique}
use Rattle.model.proofs.Invariants.{RolesOk, source_below, Posts, stamp_of, Sent, Knows, YardOk}
use Rattle.model.proofs.Delivery.{le_ready}
use Rattle.model.proofs.Steps.{run_append}
use Rattle.model.proofs.SentOrders.{sent_eq, Lists, run_lists, log_begins}
use Rattle.model.proofs.Air.{AirOk}
use Rattle.model.proofs.RollLists.{hears_posts, posts_no_order, beacons_no_order, roll_sends_none}
use Rattle.model.proofs.RollHears.{Since, since_itself, since_run, hears_beacons, posts_heard}
use Rattle.model.proofs.RollBeacons.{Left, Beaconed, beaconed}
use Rattle.model.proofs.BeaconHears.{OnlyBeacons, only_itself, posts_only, posts_heard_beacons}

module _ (R : Roles) (ro : RolesOk R) where
  -- ---- its three parts

  module _ (Y : Yard) (y : YardOk R Y) (a : AirOk Y) where
    -- the orders are heard
    unfoldable pub Y₁ : Yard
    Y₁ = run R Y (posts_hear R Y 8)

    -- the beacons are sent
    unfoldable pub Y₂ : Yard
    Y₂ = run R Y₁ (beacons_sent R 8)

    -- the beacons are heard
    Y₃ : Yard
    Y₃ = run R Y₂ (posts_hear_beacons R Y₁.frames 8)

    -- together they are the call
    roll_is : run R Y (roll_steps R Y) ≡ Y₃
    unfolding roll_steps Y₁ Y₂ Y₃
    roll_is = run_append R Y (posts_hear R Y 8) (beacons_sent R 8 ++ posts_hear_beacons R (run R Y (posts_hear R Y 8)).frames 8)
        ∙ run_append R Y₁ (beacons_sent R 8) (posts_hear_beacons R Y₁.frames 8)

    -- no order is sent in the first
    pub since₁ : Since R Y Y₁
    unfolding Y₁
    since₁ = since_run R ro Y Y (posts_hear R Y 8) (posts_no_order R Y 8) (since_itself R ro Y y a)

    -- nor in the second
    pub since₂ : Since R Y₁ Y₂
    unfolding Y₂
    since₂ = since_run R ro Y₁ Y₁ (beacons_sent R 8) (beacons_no_order R 8) (since_itself R ro Y₁ since₁.since_ok since₁.since_air)

    -- and no beacon in the first
    pub beacons₁ : Y₁.beacons ≡ Y.beacons
    unfolding Y₁
    beacons₁ = hears_beacons R ro Y (posts_hear R Y 8) (hears_posts R Y 8)

    -- ---- after the hearings of the orders

    -- there are no orders past the eight lanes
    out : (i : ℕ) → 8 ≤ i → (b : Bool) → R.source i ≡ b → (Y₁.posts i).own ≡ 0
    out i h true e = absurd (omega (arith, source_below R ro i e))
    out i h false e = ((since₁.since_ok.selves i).idle_unless_source e).0

    -- every post has taken every order
    full : (p i : ℕ) → R.present p ≡ true → (Y₁.posts p).last i ≡ (Y₁.posts i).own
    unfolding Y₁
    full p i b = go (same_or_not i p) (le_or_not 8 i)
      where
        le : (Y₁.posts p).last i ≤ (Y₁.posts i).own
        le = (since₁.since_ok.posts_ok p).knows.last_sent i

        go : (i ≡ p) ⊎ (i ≢ p) → (8 ≤ i) ⊎ (i < 8) → (Y₁.posts p).last i ≡ (Y₁.posts i).own
        go (inl q) h = rw q (since₁.since_ok.selves p).own_taken
        go (inr q) (inr h) = omega (arith, le, since₁.own_same i, posts_heard R ro Y y a 8 (omega arith) p i (ro.present_lanes p b) b h q)
        go (inr q) (inl h) = omega (arith, le, out i h (R.source i) refl)

    -- so no stamp is above any source's clock
    clocks : (i : ℕ) → R.source i ≡ true → (j n : ℕ) → 0 < n → n ≤ (Y₁.posts j).own → stamp_of Y₁.posts j n ≤ (Y₁.posts i).clock
    clocks i b j n c l =
        let m : n ≤ (Y₁.posts i).last j = omega (arith, full i j (ro.sources_present i b)) in
        omega (arith, (since₁.since_ok.posts_ok i).knows.stamps_true j n c m, (since₁.since_ok.selves i).clock_seen b j n c m)

    -- ---- after the hearings of the beacons, where every source has one left

    module _ (left : Left R Y₁) where
      -- each source sent its beacon
      pub sent₂ : Beaconed R Y₁ Y₂ 8
      unfolding Y₂
      sent₂ = beaconed R ro Y₁ since₁.since_ok left 8 (omega arith)

      -- there nothing was heard since
      pub still₂ : OnlyBeacons R Y₂ Y₂
      still₂ = only_itself R ro Y₂ since₂.since_ok since₂.since_air

      -- after that only beacons were heard
      only₃ : OnlyBeacons R Y₂ Y₃
      unfolding Y₃
      only₃ = posts_only R ro Y₁ Y₂ sent₂ still₂ 8

      -- so own serials are as after the first part
      own₃ : (i : ℕ) → (Y₃.posts i).own ≡ (Y₁.posts i).own
      own₃ i = only₃.same_own i ∙ ap (λ (W : Posts). (W i).own) sent₂.posts_same

      -- orders taken too
      last₃ : (p i : ℕ) → R.present p ≡ true → (Y₃.posts p).last i ≡ (Y₁.posts i).own
      last₃ p i b = ap (λ (f : ℕ → ℕ). f i) (only₃.same_last p) ∙ ap (λ (W : Posts). (W p).last i) sent₂.posts_same ∙ full p i b

      -- and stamps
      stamp₃ : (p i n : ℕ) → (Y₃.posts p).stamps i n ≡ (Y₁.posts p).stamps i n
      stamp₃ p i n = ap (λ (f : ℕ → ℕ → ℕ). f i n) (only₃.same_stamps p) ∙ ap (λ (W : Posts). (W p).stamps i n) sent₂.posts_same

      -- every post has every source's clock at the last order of its lane
      entry₃ : (p i : ℕ) → R.present p ≡ true → R.source i ≡ true → (i ≡ p) ⊎ (i ≢ p) → (Y₁.posts i).clock ≤ (Y₃.posts p).table i (Y₁.posts i).own
      entry₃ p i b s (inl q) = rw q (omega (
        arith,
        ap ((Y₃.posts p).table p) (own₃ p),
        (only₃.then_ok.selves p).own_entry (rw q at s),
        only₃.same_clock p,
        ap (λ (W : Posts). (W p).clock) sent₂.posts_same,
      ))
      entry₃ p i b s (inr q) = heard₃
        where
          heard₃ : (Y₁.posts i).clock ≤ (Y₃.posts p).table i (Y₁.posts i).own
          heard₃ = unfold Y₃ in posts_heard_beacons R ro Y₁ Y₂ sent₂ still₂ 8 (omega arith) p (ro.present_lanes p b) b i s q

      -- so every order is ready
      all_ready : (p : ℕ) → R.present p ≡ true → (j n : ℕ) → 0 < n → n ≤ (Y₁.posts j).own → ready R (Y₃.posts p) ((Y₃.posts p).stamps j n) ≡ true
      all_ready p b j n c l = le_ready R (Y₃.posts p) ((Y₃.posts p).stamps j n) (λ i m s. rw (last₃ p i b) (omega (
        arith,
        stamp₃ p j n,
        (since₁.since_ok.posts_ok p).knows.stamps_true j n c (omega (arith, full p j b)),
        clocks i s j n c l,
        entry₃ p i b s (same_or_not i p),
      )))

      -- and every destination has it in its log
      all_logged : (p : ℕ) → R.dest p ≡ true → (j n : ℕ) → j < 8 → 0 < n → n ≤ (Y₁.posts j).own → Mem (order_of (Y₃.posts p) j n) (Y₃.posts p).log
      all_logged p d j n h c l =
          (only₃.then_ok.posts_ok p).served d j n h c (omega (arith, last₃ p j (ro.dests_present p d))) (all_ready p (ro.dests_present p d) j n c l)

      -- which is therefore the list of all orders sent, by stamp and then lane
      log_is : (S : List Order) → Lists Y₃.posts S → (p : ℕ) → R.dest p ≡ true → (Y₃.posts p).log ≡ in_order S
      log_is S l p d = unique P.log (in_order S) (only₃.then_ok.posts_ok p).log_ok.log_rises (in_order_rises S l.listed_apart)
          sub (λ x m. sup x (in_order_mem x S m))
        where
          P : Post
          P = Y₃.posts p

          bg : Begins P.log (in_order S)
          bg = log_begins R ro Y₃ only₃.then_ok S l p

          sub : (x : Order) → Mem x P.log → Mem x (in_order S)
          sub x m = rw bg.1 (mem_left x P.log bg.0 m)

          sup : (x : Order) → Mem x S → Mem x P.log
          sup x m =
              rw kept (all_logged p d x.lane x.serial (l.listed_lane x m) s.from_one (omega (arith, s.was_sent, own₃ x.lane)))
            where
              s : Sent Y₃.posts x
              s = l.listed_sent x m

              k : Knows R Y₃.posts P
              k = (only₃.then_ok.posts_ok p).knows

              h : x.serial ≤ P.last x.lane
              h = omega (arith, s.was_sent, own₃ x.lane, last₃ p x.lane (ro.dests_present p d))

              kept : x ≡ order_of P x.lane x.serial
              kept = sent_eq Y₃.posts x s
                  ∙ rw (k.stamps_true x.lane x.serial s.from_one h, k.words_true x.lane x.serial s.from_one h) refl

  -- ---- the whole call

  -- where every source has a beacon left, every destination's log is the list of all orders sent
  pub roll_logs : (Y : Yard) (S : List Order) → YardOk R Y → AirOk Y → Lists Y.posts S → Left R Y
      → (p : ℕ) → R.dest p ≡ true → ((run R Y (roll_steps R Y)).posts p).log ≡ in_order S
  roll_logs Y S y a l enough p d = rw (roll_is Y y a) (log_is Y y a left S lists p d)
    where
      left : Left R (Y₁ Y y a)
      left = rw (beacons₁ Y y a) enough

      lists : Lists (Y₃ Y y a).posts S
      lists = rw (← roll_is Y y a, ← append-nil S, ← roll_sends_none R Y) (run_lists R ro Y (roll_steps R Y) y S l)
