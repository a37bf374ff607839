pub mod Line
pub mod Judged
pub mod Forms
pub mod Lines
pub mod Values
