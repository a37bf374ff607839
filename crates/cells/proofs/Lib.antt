pub mod Copies
pub mod Laws
pub mod Places
