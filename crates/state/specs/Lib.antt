pub mod Yards
pub mod Changed
pub mod States
pub mod Fresh
pub mod Making
