pub mod LineLaws
pub mod StepWays
pub mod PrintLaws
pub mod Sound
pub mod ScriptWays
