pub mod Written
pub mod Exact
pub mod WholeScripts
