pub mod Csv
pub mod Making
