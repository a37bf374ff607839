use mathlib.Core.Path.{◌≡◌}
use Prim.Native.Nat.{◌≤◌, ◌+◌}
use Rattle.yard.specs.InState.{after, here_in}
use Rattle.roll.specs.RollCall.{sources_below, beacons_heard}
use Rattle.roll.specs.Calls.{ran_in}
use Rattle.roll.proofs.hear_sources.Given as goal

abbrev pub invariant-loop-i : goal.invariant-loop-i
invariant-loop-i l = record {
  ran : after l.steps l.state l.air ≡ ran_in (here_in l.initial.state l.initial.air) (beacons_heard l.sources l.from l.p l.i);
  steps : l.steps ≤ l.i;
  frame : l.k ≡ l.from + sources_below l.sources l.i;
  most : l.k ≤ l.from + l.i;
}
