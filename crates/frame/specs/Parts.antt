-- A frame's fields before its entries, judged alone: for contracts of private functions; nobody has to believe it. Assumes nothing.
use Rattle.std.specs.Prelude.{ℕ, [], cond}
use Rattle.frame.specs.Refusals.{bad_kind, bad_beacon, bad_order, bad_sender}
use Rattle.frame.specs.declared.Frame.{Frame}

-- the fields before the entries, alone
abbrev pub start_of : ℕ → ℕ → ℕ → ℕ → ℕ → ℕ → Frame
start_of kind sender lane serial stamp word = record {
  kind = kind;
  sender = sender;
  lane = lane;
  serial = record { 0 = serial };
  stamp = record { 0 = stamp };
  word = word;
  entries = [];
}

-- the lowest of 7 to 10, those of the fields before the entries, that a frame meets, or 0
unfoldable pub start_refusal : Frame → ℕ
start_refusal f =
    cond (bad_kind f) 7
    (cond (bad_beacon f) 8
    (cond (bad_order f) 9
    (cond (bad_sender f) 10
    0)))
