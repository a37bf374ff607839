pub mod Lists
pub mod Records
pub mod LogAfter
pub mod Broadcasts
