pub mod Fields
pub mod Records
pub mod Texts
pub mod Lists
pub mod Theorem
