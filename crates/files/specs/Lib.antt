pub mod Files
pub mod Exactly
