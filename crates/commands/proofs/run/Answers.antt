use Rattle.commands.proofs.LaneFiles.{state_yard}
use Rattle.commands.proofs.run.Goals as goal

pub returns : goal.returns
returns c = state_yard _ _ _ _ c.told-state c.drift_script_state.auto.state c.requires c.drift_script_state.ensures.held
