pub mod Turns
pub mod Keys
pub mod Gathering
pub mod Waiting
pub mod Ways
pub mod RowWays
pub mod KnownLaws
