pub mod Texts
pub mod Script
