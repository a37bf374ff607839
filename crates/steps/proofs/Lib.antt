pub mod Passed
pub mod RaiseLaws
pub mod AnswerLaws
pub mod Ways
pub mod HearWays
pub mod KnownSteps
