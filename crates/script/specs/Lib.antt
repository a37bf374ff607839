pub mod Run
pub mod Told
pub mod OnState
pub mod State
