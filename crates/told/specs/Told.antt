-- An answer as one number of 64 bits for programs in C: the refusal's number, a code, the count delivered, an order's serial and stamp, and the
-- number of single steps of a roll call, 0 for each that an answer has not. Assumes nothing.
use Rattle.std.specs.Prelude.{ℕ, ◌+◌, ◌*◌, Result, Ok, Err}
use Rattle.steps.specs.Answers.{order_number, hear_number, beacon_number}
use Rattle.steps.specs.Values.{order_serial, order_stamp, order_count, hear_count}
use Rattle.steps.specs.OrderAnswer as orders
use Rattle.steps.specs.HearAnswer as hearings
use Rattle.steps.specs.BeaconAnswer as beaconing
use Rattle.steps.specs.declared.Sent as sends
use Rattle.steps.specs.declared.Hearing as heard

-- bits 0 to 7, 8 to 15, 16 to 23, 24 to 31, 32 to 47, and 48 to 63
abbrev pub told : ℕ → ℕ → ℕ → ℕ → ℕ → ℕ → ℕ
told number code count serial stamp steps =
    number + (code * 256 + (count * 65536 + (serial * 16777216 + (stamp * 4294967296 + steps * 281474976710656))))

-- codes: 0 refused, 1 order sent, 2 taken, 3 again, 4 early, 5 beacon heard, 6 beacon sent
abbrev pub order_code : orders.OrderAnswer → ℕ
order_code (orders.Sent serial stamp count) = 1
order_code (orders.Refused number) = 0

abbrev pub hear_code : hearings.HearAnswer → ℕ
hear_code (hearings.Taken count) = 2
hear_code (hearings.Again count) = 3
hear_code (hearings.Early count) = 4
hear_code (hearings.Beacon count) = 5
hear_code (hearings.Refused number) = 0

abbrev pub beacon_code : beaconing.BeaconAnswer → ℕ
beacon_code beaconing.Sent = 6
beacon_code (beaconing.Refused number) = 0

-- the answer's number and values
abbrev pub order_told : orders.OrderAnswer → ℕ
order_told a = told (order_number a) (order_code a) (order_count a) (order_serial a) (order_stamp a) 0

abbrev pub hear_told : hearings.HearAnswer → ℕ
hear_told a = told (hear_number a) (hear_code a) (hear_count a) 0 0 0

abbrev pub beacon_told : beaconing.BeaconAnswer → ℕ
beacon_told a = told (beacon_number a) (beacon_code a) 0 0 0 0

-- the answer that a result is, whatever number it is refused by
abbrev pub order_numbered : Result sends.Sent ℕ → orders.OrderAnswer
order_numbered (Ok sent) = orders.order_answer (Ok sent)
order_numbered (Err number) = orders.Refused number

abbrev pub hear_numbered : Result heard.Hearing ℕ → hearings.HearAnswer
hear_numbered (Ok hearing) = hearings.hear_answer (Ok hearing)
hear_numbered (Err number) = hearings.Refused number

abbrev pub beacon_numbered : {A : Type 0} → Result A ℕ → beaconing.BeaconAnswer
beacon_numbered (Ok _) = beaconing.Sent
beacon_numbered (Err number) = beaconing.Refused number
