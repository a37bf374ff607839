use mathlib.Core.Path.{ap, ◌∙◌}
use Rattle.steps.specs.Answers.{order_number, hear_number, beacon_number}
use Rattle.told.specs.Told.{order_told, hear_told, beacon_told}
use Rattle.told.proofs.Numbered.{order_by_number, hear_by_number, beacon_by_number}
use Rattle.script.proofs.StepWays.{read_as, order_ran, hear_ran, beacon_ran, roll_ran}
use Rattle.script.proofs.line_steps.run_step.Goals as goal

pub returns-in-Order : goal.returns-in-Order
returns-in-Order c =
    let same = order_by_number c.order-answer.result c.map_err.result c.map_err.ensures.cases in
    let ran = order_ran _ _ _ _ _ _ _ _ _ _ (read_as _ _ _ c.in-Ok.is c.in-Order.is) c.order-answer.ensures.air_after (c.order_told.ensures.value ∙ ap order_told same) (c.order_told.ensures.number ∙ ap order_number same) in
    record { value = ran.0; number = ran.1.0; here = ran.1.1 }

pub returns-in-Hear : goal.returns-in-Hear
returns-in-Hear c =
    let same = hear_by_number c.hear-answer.result c.map_err-in-Hear.result c.map_err-in-Hear.ensures.cases in
    let ran = hear_ran _ _ _ _ _ _ _ _ _ _ (read_as _ _ _ c.in-Ok.is c.in-Hear.is) c.hear-answer.ensures.air_after (c.hear_told.ensures.value ∙ ap hear_told same) (c.hear_told.ensures.number ∙ ap hear_number same) in
    record { value = ran.0; number = ran.1.0; here = ran.1.1 }

pub returns-in-Beacon : goal.returns-in-Beacon
returns-in-Beacon c =
    let same = beacon_by_number c.beacon-answer.result c.map_err-in-Beacon.result c.map_err-in-Beacon.ensures.cases in
    let ran = beacon_ran _ _ _ _ _ _ _ _ _ (read_as _ _ _ c.in-Ok.is c.in-Beacon.is) c.beacon-answer.ensures.air_after (c.beacon_told.ensures.value ∙ ap beacon_told same) (c.beacon_told.ensures.number ∙ ap beacon_number same) in
    record { value = ran.0; number = ran.1.0; here = ran.1.1 }

pub returns-in-Roll : goal.returns-in-Roll
returns-in-Roll c =
    let ran = roll_ran _ _ _ _ _ _ _ _ (read_as _ _ _ c.in-Ok.is c.in-Roll.is) c.call.ensures.air_after c.roll_told.ensures.value c.roll_told.ensures.number in
    record { value = ran.0; number = ran.1.0; here = ran.1.1 }
