-- Line 1 of a script that is not refused makes a yard that is not refused. Assumes nothing.
use Prim.Native.Nat.{ℕ, zero, suc, ◌/◌, ◌<◌, ◌≤◌}
use mathlib.Core.Path.{◌≡◌, refl}
use mathlib.Core.Bool.{Bool, true, false, not, ◌&&◌, ◌||◌}
use mathlib.Core.List.{List}
use mathlib.Core.Logic.{◌⊎◌, inl, inr, ◌≢◌}
use native.Mathlib.Omega.{arith}
use lib.Count.{ones, ones_step}
use borrow.Author.Tests.{eq-eqb, ne_eqb}
use Rattle.cells.specs.Sets.{has_lane, role_astray}
use Rattle.lines.specs.Lines.{line_at, number_of, judged}
use Rattle.state.specs.Yards.{fresh_yard, yard_refusal, yard_made}
use Rattle.laws.proofs.TestLaws.{true_or_false, not_both, each_none}
use Rattle.written.specs.Written.{Roles}
use Rattle.written.proofs.LineLists.{lines_more}
use Rattle.written.proofs.WholeScripts.{first_passed, judged_passed}
use Rattle.meaning.specs.Script.{step_lines}

-- ---- the yard

-- a set without ones is empty
ones_none : (k n : ℕ) → n ≤ k → ones n ≡ 0 → n ≡ 0
ones_none zero n h e = omega arith
ones_none (suc k) n h e = omega (arith, ones_step n, ones_none k (n / 2) (omega arith) (omega (arith, ones_step n)))

module _ (posts sources dests : ℕ) (some : 0 < posts) (rs : Roles posts sources) (rd : Roles posts dests) where
  -- no role stands at a lane without a post
  misplaced : (i : ℕ) → ((has_lane sources i || has_lane dests i) && not (has_lane posts i)) ≡ false
  misplaced i = go (has_lane sources i) refl (has_lane dests i) refl (true_or_false (has_lane posts i))
    where
      go : (a : Bool) → has_lane sources i ≡ a → (b : Bool) → has_lane dests i ≡ b → (has_lane posts i ≡ true) ⊎ (has_lane posts i ≡ false)
          → ((a || b) && not (has_lane posts i)) ≡ false
      go true p b q (inl e) = rw e refl
      go false p true q (inl e) = rw e refl
      go false p false q h = refl
      go true p b q (inr e) = absurd (not_both (has_lane posts i) (rs i p) e)
      go false p true q (inr e) = absurd (not_both (has_lane posts i) (rd i q) e)

  -- so 12 does not arise
  roles_placed : role_astray posts sources dests ≡ false
  roles_placed = each_none (λ (i : ℕ). (has_lane sources i || has_lane dests i) && not (has_lane posts i)) 8 (λ i l. misplaced i)

  -- nor does 3
  some_ones : ones posts ≢ 0
  some_ones e = omega (arith, ones_none posts posts (omega arith) e)

  -- the yard is not refused
  pub yard_accepted : yard_refusal posts sources dests ≡ 0
  unfolding yard_refusal
  yard_accepted = rw (ne_eqb (ones posts) 0 some_ones, roles_placed)

  -- so it is the fresh yard of its three sets
  pub yard_made_lem : (yard_made posts sources dests).yard ≡ fresh_yard posts sources dests
  unfolding yard_made
  yard_made_lem = rw (eq-eqb (yard_refusal posts sources dests) 0 yard_accepted)

-- ---- the script

-- line 1 is accepted
pub accepted_first : (s : List ℕ) → (judged s).number ≡ 0 → number_of (line_at s 0) ≡ 0
accepted_first s z =
    let p = judged_passed s z in
    (first_passed 0 (line_at s 0) (step_lines s) (rw (lines_more s 0 p.1) at p.2)).0
