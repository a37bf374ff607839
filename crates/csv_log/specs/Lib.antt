pub mod Log
pub mod Text
pub mod Writing
pub mod Reading
pub mod Seen
