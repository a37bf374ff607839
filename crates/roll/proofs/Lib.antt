pub mod Kept
pub mod Turns
pub mod Ways
pub mod SoundCalls
