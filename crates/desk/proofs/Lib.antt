pub mod GoodLogs
pub mod PostLogs
pub mod Texts
pub mod YardLogs
pub mod Theorem
