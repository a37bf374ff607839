-- A step that is not refused has passed every test. Assumes nothing.
use mathlib.Core.Path.{◌≡◌}
use mathlib.Core.Bool.{false, cond}
use Prim.Native.Nat.{ℕ}
use native.Mathlib.Omega.{arith}
use Rattle.frame.specs.declared.Frame.{Frame}
use Rattle.frame.proofs.Laws.{passed}
use Rattle.post.specs.declared.Post.{Post}
use Rattle.steps.specs.Refusals.{not_in_yard, no_source, serials_spent, clock_spent, order_refusal, clock_passes, own_broadcast, strange, not_above, beyond_own, hear_refusal}

pub order_passed : (p : Post) → order_refusal p ≡ 0
    → (not_in_yard p.posts p.lane ≡ false) × (no_source p.sources p.lane ≡ false) × (serials_spent p.serial.0 ≡ false) × (clock_spent p.clock.0 ≡ false)
unfolding order_refusal
order_passed p z =
    let r24 : ℕ = cond (clock_spent p.clock.0) 24 0 in
    let r23 : ℕ = cond (serials_spent p.serial.0) 23 r24 in
    let r22 : ℕ = cond (no_source p.sources p.lane) 22 r23 in
    let a = passed (not_in_yard p.posts p.lane) 21 r22 (omega arith) z in
    let b = passed (no_source p.sources p.lane) 22 r23 (omega arith) a.1 in
    let c = passed (serials_spent p.serial.0) 23 r24 (omega arith) b.1 in
    let d = passed (clock_spent p.clock.0) 24 0 (omega arith) c.1 in
    (a.0, b.0, c.0, d.0)

pub hear_passed : (p : Post) (f : Frame) → hear_refusal p f ≡ 0
    → (not_in_yard p.posts p.lane ≡ false) × (clock_passes p f ≡ false) × (own_broadcast p f ≡ false) × (strange p f ≡ false) × (not_above p f ≡ false) × (beyond_own p f ≡ false)
unfolding hear_refusal
hear_passed p f z =
    let r30 : ℕ = cond (beyond_own p f) 30 0 in
    let r29 : ℕ = cond (not_above p f) 29 r30 in
    let r28 : ℕ = cond (strange p f) 28 r29 in
    let r26 : ℕ = cond (own_broadcast p f) 26 r28 in
    let r24 : ℕ = cond (clock_passes p f) 24 r26 in
    let a = passed (not_in_yard p.posts p.lane) 21 r24 (omega arith) z in
    let b = passed (clock_passes p f) 24 r26 (omega arith) a.1 in
    let c = passed (own_broadcast p f) 26 r28 (omega arith) b.1 in
    let d = passed (strange p f) 28 r29 (omega arith) c.1 in
    let e = passed (not_above p f) 29 r30 (omega arith) d.1 in
    let g = passed (beyond_own p f) 30 0 (omega arith) e.1 in
    (a.0, b.0, c.0, d.0, e.0, g.0)
