pub mod Record
pub mod Newest
pub mod Taking
