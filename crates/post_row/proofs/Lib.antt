pub mod Loading
pub mod Storing
