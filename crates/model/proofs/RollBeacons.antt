-- The roll call's beacons: each source sends one, and where they stand on the air. Assumes nothing.
use mathlib.Core.Path.{◌≡◌, refl, ◌∙◌}
use mathlib.Core.List.{[], ◌∷◌}
use mathlib.Core.Logic.{◌⊎◌, inl, inr, ◌≢◌}
use mathlib.Core.Bool.{Bool, true, false, cond}
use Prim.Native.Nat.{ℕ, zero, suc, ◌+◌, ◌≤◌, ◌<◌}
use native.Mathlib.Omega.{arith}
use Rattle.laws.proofs.TestLaws.{same_or_not, not_both}
use Rattle.yard.specs.Worlds.{beacon}
use Rattle.model.proofs.Functions.{upd, upd_same, upd_other}
use Rattle.model.proofs.Model.{Frame, Roles, Yard, entries_frame, no_order_lem, beacon_refused, beacon_done, run, beacons_sent, sources_below}
use Rattle.model.proofs.Invariants.{RolesOk, YardOk}
use Rattle.model.proofs.Entries.{OwnBeacon, own_beacon}
use Rattle.model.proofs.Steps.{beacon_fine, step_beacon, run_append}

module _ (R : Roles) where
  -- more lanes, not fewer sources
  pub sources_le : (k m : ℕ) → k ≤ m → sources_below R k ≤ sources_below R m
  unfolding sources_below
  sources_le k zero l = let e : k ≡ 0 = omega arith in rw e (omega arith)
  sources_le k (suc m) l = go (same_or_not k (suc m)) (sources_le k m)
    where
      go : (k ≡ suc m) ⊎ (k ≢ suc m) → (k ≤ m → sources_below R k ≤ sources_below R m) → sources_below R k ≤ sources_below R m + cond (R.source m) 1 0
      go (inl e) ih = rw e (omega arith)
      go (inr e) ih = omega (arith, ih (omega arith))

  -- a source is one more
  pub sources_suc : (i : ℕ) → R.source i ≡ true → sources_below R (suc i) ≡ suc (sources_below R i)
  unfolding sources_below
  sources_suc i b = rw b (omega arith)

  -- another lane is not
  sources_skip : (i : ℕ) → R.source i ≡ false → sources_below R (suc i) ≡ sources_below R i
  unfolding sources_below
  sources_skip i b = rw b (omega arith)

-- every source has a beacon left
abbrev pub Left : Roles → Yard → Type 0
Left R Y = (i : ℕ) → R.source i ≡ true → Y.beacons i < 128

-- in yard Y, the sources below k have sent their beacons, and nothing else was done: it is Z now
pub record Beaconed (R : Roles) (Y Z : Yard) (k : ℕ) : Type 0 where
  pub posts_same : Z.posts ≡ Y.posts
  pub frames_then : Z.frames ≡ Y.frames + sources_below R k
  pub others_left : (i : ℕ) → k ≤ i → Z.beacons i ≡ Y.beacons i
  pub beacon_at : (i : ℕ) → i < k → R.source i ≡ true → OwnBeacon Y.posts i (Z.air (Y.frames + sources_below R i))

module _ (R : Roles) (ro : RolesOk R) (Y : Yard) (y : YardOk R Y) where
  -- one more beacon
  beacon_sent_lem : (Z : Yard) (k : ℕ) → R.source k ≡ true → Beaconed R Y Z k → Beaconed R Y (beacon_done R Z k) (suc k)
  beacon_sent_lem Z k b h = record {
    posts_same = h.posts_same;
    frames_then = omega (arith, h.frames_then, sources_suc R k b);
    others_left = λ i l. upd_other Z.beacons k (suc (Z.beacons k)) i (omega arith) ∙ h.others_left i (omega arith);
    beacon_at = λ i l s. go i l s (same_or_not i k);
  }
    where
      f : Frame
      f = entries_frame true k no_order_lem (Z.posts k)

      go : (i : ℕ) → i < suc k → R.source i ≡ true → (i ≡ k) ⊎ (i ≢ k)
          → OwnBeacon Y.posts i (upd Z.air Z.frames f (Y.frames + sources_below R i))
      go i l s (inl q) = rw (q, ← h.frames_then, upd_same, h.posts_same) (own_beacon R Y y k b)
      go i l s (inr q) = rw (upd_other Z.air Z.frames f (Y.frames + sources_below R i) before) (h.beacon_at i (omega arith) s)
        where
          before : Y.frames + sources_below R i ≢ Z.frames
          before = omega (arith, h.frames_then, sources_suc R i s, sources_le R (suc i) k (omega arith))

  -- a lane that is no source
  no_beacon : (Z : Yard) (k : ℕ) → R.source k ≡ false → Beaconed R Y Z k → Beaconed R Y Z (suc k)
  no_beacon Z k b h = record {
    posts_same = h.posts_same;
    frames_then = rw (sources_skip R k b) h.frames_then;
    others_left = λ i l. h.others_left i (omega arith);
    beacon_at = λ i l s. h.beacon_at i (below i s (same_or_not i k) l) s;
  }
    where
      below : (i : ℕ) → R.source i ≡ true → (i ≡ k) ⊎ (i ≢ k) → i < suc k → i < k
      below i s (inl q) l = absurd (not_both (R.source k) (rw q at s) b)
      below i s (inr q) l = omega arith

  -- where each has one left, the next source's beacon is not refused
  pub beacon_passes : Left R Y → (Z : Yard) (k : ℕ) → k < 8 → R.source k ≡ true → Beaconed R Y Z k → beacon_refused R Z k ≡ 0
  beacon_passes left Z k l b h =
      beacon_fine R Z k l (ro.sources_present k b) (rw (h.others_left k (omega arith)) (left k b))

  -- so each source sends its beacon
  pub beaconed : Left R Y → (k : ℕ) → k ≤ 8 → Beaconed R Y (run R Y (beacons_sent R k)) k
  unfolding beacons_sent run
  beaconed left zero l = record {
    posts_same = refl;
    frames_then = unfold sources_below in omega arith;
    others_left = λ i m. refl;
    beacon_at = λ i m. absurd (omega arith);
  }
  beaconed left (suc k) l = rw run_append (go (R.source k) refl (beaconed left k (omega arith)))
    where
      X : Yard
      X = run R Y (beacons_sent R k)

      go : (b : Bool) → R.source k ≡ b → Beaconed R Y X k → Beaconed R Y (run R X (cond b (beacon k ∷ []) [])) (suc k)
      go true b h = rw (step_beacon R X k (beacon_passes left X k l b h)) (beacon_sent_lem X k b h)
      go false b h = no_beacon X k b h
