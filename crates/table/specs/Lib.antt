pub mod Posts
pub mod Cases
pub mod Scripts
pub mod YardCases
pub mod RefusalCases
