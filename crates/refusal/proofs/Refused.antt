-- What the number of a result says of it, and what a `?` hands on. Assumes nothing.
use mathlib.Core.Path.{◌≡◌, refl, ap}
use mathlib.Core.Bool.{false}
use Prim.Native.Nat.{ℕ, ◌<◌}
use native.Mathlib.Omega.{arith}
use lib.Dec.{eqb}
use borrow.Author.Tests.{ne_eqb}
use Rattle.std.specs.Prelude.{Result, Ok, Err, IsOk, IsErrAnd}
use Rattle.refusal.specs.declared.Refusal.{Refusal}
use Rattle.refusal.specs.declared.Refusal.TheVariants.{TooLong, NoForm, NoYard, LaneOver7, WordTooLarge, BadLength, BadKind, BadBeacon, BadOrder, BadSender, BadEntry, BadRecord, BadAir, NotInYard, NoSource, SerialsSpent, ClockSpent, NotOnAir, OwnBroadcast, BeaconsSpent, Strange, NotAbove, BeyondOwn, BadFields, NotRising}
use Rattle.refusal.specs.Numbers.{refusal_number, refused_with}

-- no refusal has the number 0
pub refusal_positive : (r : Refusal) → 0 < refusal_number r
refusal_positive TooLong = omega arith
refusal_positive NoForm = omega arith
refusal_positive NoYard = omega arith
refusal_positive LaneOver7 = omega arith
refusal_positive WordTooLarge = omega arith
refusal_positive BadLength = omega arith
refusal_positive BadKind = omega arith
refusal_positive BadBeacon = omega arith
refusal_positive BadOrder = omega arith
refusal_positive BadSender = omega arith
refusal_positive BadEntry = omega arith
refusal_positive BadRecord = omega arith
refusal_positive BadAir = omega arith
refusal_positive NotInYard = omega arith
refusal_positive NoSource = omega arith
refusal_positive SerialsSpent = omega arith
refusal_positive ClockSpent = omega arith
refusal_positive NotOnAir = omega arith
refusal_positive OwnBroadcast = omega arith
refusal_positive BeaconsSpent = omega arith
refusal_positive Strange = omega arith
refusal_positive NotAbove = omega arith
refusal_positive BeyondOwn = omega arith
refusal_positive BadFields = omega arith
refusal_positive NotRising = omega arith

pub never_0 : (r : Refusal) → refusal_number r ≡ 0 → ⊥
never_0 r e = omega (arith, refusal_positive r)

pub refusal_some : (r : Refusal) → eqb (refusal_number r) 0 ≡ false
refusal_some r = ne_eqb (refusal_number r) 0 (never_0 r)

-- so a result has the number 0 just where it is `Ok`
pub ok_number : {T : Type 0} (o : Result T Refusal) → IsOk o → refused_with o ≡ 0
ok_number (Ok x) h = refl
ok_number (Err r) h = absurd (cc)

pub number_ok : {T : Type 0} (o : Result T Refusal) → refused_with o ≡ 0 → IsOk o
number_ok (Ok x) e = refl
number_ok (Err r) e = absurd (never_0 r e)

-- what a `?` returns has the refusal's number
pub handed_on : {T : Type 0} (o : Result T Refusal) (r : Refusal) → IsErrAnd o (λ e. e ≡ r) → refused_with o ≡ refusal_number r
handed_on (Ok x) r h = absurd h
handed_on (Err e) r h = ap refusal_number h
