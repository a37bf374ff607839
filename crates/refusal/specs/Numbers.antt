-- The number of each refusal, as documents 01 and 02 have it. Assumes nothing.
use Rattle.std.specs.Prelude.{ℕ, Result, Ok, Err}
use Rattle.refusal.specs.declared.Refusal.{Refusal}
use Rattle.refusal.specs.declared.Refusal.TheVariants.{TooLong, NoForm, NoYard, LaneOver7, WordTooLarge, BadLength, BadKind, BadBeacon, BadOrder, BadSender, BadEntry, BadRecord, BadAir, NotInYard, NoSource, SerialsSpent, ClockSpent, NotOnAir, OwnBroadcast, BeaconsSpent, Strange, NotAbove, BeyondOwn, BadFields, NotRising}

abbrev pub refusal_number : Refusal → ℕ
refusal_number TooLong = 1
refusal_number NoForm = 2
refusal_number NoYard = 3
refusal_number LaneOver7 = 4
refusal_number WordTooLarge = 5
refusal_number BadLength = 6
refusal_number BadKind = 7
refusal_number BadBeacon = 8
refusal_number BadOrder = 9
refusal_number BadSender = 10
refusal_number BadEntry = 11
refusal_number BadRecord = 12
refusal_number BadAir = 13
refusal_number NotInYard = 21
refusal_number NoSource = 22
refusal_number SerialsSpent = 23
refusal_number ClockSpent = 24
refusal_number NotOnAir = 25
refusal_number OwnBroadcast = 26
refusal_number BeaconsSpent = 27
refusal_number Strange = 28
refusal_number NotAbove = 29
refusal_number BeyondOwn = 30
refusal_number BadFields = 31
refusal_number NotRising = 32

-- the number that something was refused by, or 0
abbrev pub refused_with : {A : Type 0} → Result A Refusal → ℕ
refused_with (Ok _) = 0
refused_with (Err refusal) = refusal_number refusal
