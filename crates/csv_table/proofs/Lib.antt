pub mod CsvWriteTable
pub mod CsvReadTable
