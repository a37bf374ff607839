pub mod CsvLogs
pub mod CsvWriteCases
pub mod CsvReadCases
