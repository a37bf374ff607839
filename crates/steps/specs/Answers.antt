-- Document 01's number for each answer. Assumes nothing.
use Rattle.std.specs.Prelude.{ℕ}
use Rattle.steps.specs.OrderAnswer as orders
use Rattle.steps.specs.HearAnswer as hearings
use Rattle.steps.specs.BeaconAnswer as beacons

-- the refusal's number, or 0
abbrev pub order_number : orders.OrderAnswer → ℕ
order_number (orders.Sent serial stamp count) = 0
order_number (orders.Refused number) = number

abbrev pub hear_number : hearings.HearAnswer → ℕ
hear_number (hearings.Taken count) = 0
hear_number (hearings.Again count) = 0
hear_number (hearings.Early count) = 0
hear_number (hearings.Beacon count) = 0
hear_number (hearings.Refused number) = number

abbrev pub beacon_number : beacons.BeaconAnswer → ℕ
beacon_number beacons.Sent = 0
beacon_number (beacons.Refused number) = number
