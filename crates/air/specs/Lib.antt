pub mod Air
pub mod Stretch
