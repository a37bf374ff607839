pub mod Single
pub mod Outcomes
pub mod Judged
pub mod Lasting
