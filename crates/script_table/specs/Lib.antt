pub mod ScriptCases
pub mod BadScriptCases
pub mod Joint
