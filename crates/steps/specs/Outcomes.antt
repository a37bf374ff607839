-- What a step on a row gives, read as its answer and its broadcast. Assumes nothing.
use Rattle.std.specs.Prelude.{Result, Ok, Err, Option, Some, None}
use Rattle.refusal.specs.declared.Refusal.{Refusal}
use Rattle.frame.specs.declared.Frame.{Frame}
use Rattle.frame.specs.Layout.{no_frame}
use Rattle.steps.specs.declared.RowOrdered.{RowOrdered}
use Rattle.steps.specs.declared.RowHeard.{RowHeard}
use Rattle.steps.specs.OrderAnswer.{OrderAnswer, order_answer}
use Rattle.steps.specs.HearAnswer.{HearAnswer, hear_answer}
use Rattle.steps.specs.BeaconAnswer.{beacon_answer}
use Rattle.steps.specs.Steps.{Beaconed}

-- an order's answer, and its broadcast, which is no frame (kind 0) where it is refused
abbrev pub row_order_answer : Result RowOrdered Refusal → OrderAnswer
row_order_answer (Ok ordered) = order_answer (Ok ordered.sent)
row_order_answer (Err refusal) = order_answer (Err refusal)

abbrev pub ordered_frame : Result RowOrdered Refusal → Frame
ordered_frame (Ok ordered) = ordered.frame
ordered_frame (Err _) = no_frame

-- a hearing's answer, and its broadcast, which is no frame where there is none
abbrev pub row_hear_answer : Result RowHeard Refusal → HearAnswer
row_hear_answer (Ok heard) = hear_answer (Ok heard.hearing)
row_hear_answer (Err refusal) = hear_answer (Err refusal)

abbrev pub frame_or_none : Option Frame → Frame
frame_or_none (Some frame) = frame
frame_or_none None = no_frame

abbrev pub heard_frame : Result RowHeard Refusal → Frame
heard_frame (Ok heard) = frame_or_none heard.frame
heard_frame (Err _) = no_frame

-- a beacon's broadcast, and its answer beside it
abbrev pub beacon_frame_of : Result Frame Refusal → Frame
beacon_frame_of (Ok frame) = frame
beacon_frame_of (Err _) = no_frame

abbrev pub beaconed : Result Frame Refusal → Beaconed
beaconed outcome = record { answer = beacon_answer outcome; frame = beacon_frame_of outcome }
