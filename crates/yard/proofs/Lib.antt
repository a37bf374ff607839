pub mod PartWays
pub mod HearWays
pub mod AnswerLaws
pub mod BeaconWays
pub mod OrderWays
pub mod Sound
pub mod Theorem
