pub mod ScriptTable
pub mod BadScriptTable
pub mod Joint
