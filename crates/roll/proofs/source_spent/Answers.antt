use mathlib.Core.Path.{◌≡◌, refl, sym, ◌∙◌}
use mathlib.Core.Bool.{Bool, true, false, cond}
use mir.Val.{bool_byte}
use native.Mathlib.Omega.{arith}
use Rattle.roll.proofs.Ways.{left_below, left_more, spent_told}
use Rattle.roll.proofs.source_spent.Goals as goal
use Rattle.roll.proofs.source_spent.Goals.{then-has, else-has}

byte_is : (b : Bool) → bool_byte b ≡ cond b 1 0
byte_is true = refl
byte_is false = refl

pub loop-i-init : goal.loop-i-init
unfolding left_below
loop-i-init c = (omega arith, refl)

pub loop-i-preserved : goal.loop-i-preserved
loop-i-preserved c =
    elim c.if-has.branch [
      | then-has w ↦
          let m = left_more _ true _ _ _ _ _ c.loop-i.invariant.1 c.get-sources.ensures c.get_in-sent.ensures (sym w.if-has.true ∙ c.has.ensures) ((rw w.from-is at c.from.ensures) ∙ byte_is _) in
          (omega (arith, c.loop-i.invariant.0, m.1), m.0)
      | else-has w ↦
          let m = left_more _ false _ _ _ _ _ c.loop-i.invariant.1 c.get-sources.ensures c.get_in-sent.ensures (sym w.if-has.false ∙ c.has.ensures) (rw (w.from-is, w.if-has.false) at c.from.ensures) in
          (omega (arith, c.loop-i.invariant.0, m.1), m.0)
    ]

pub returns : goal.returns
returns c = let e : c.loop-i.i ≡ 8 = omega arith in spent_told _ _ _ (rw e at c.loop-i.invariant.1) c.get-sources.ensures
