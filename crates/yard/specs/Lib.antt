pub mod Singles
pub mod Worlds
pub mod InState
pub mod Answers
pub mod Sound
