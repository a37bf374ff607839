pub mod Judgement
pub mod OnRows
pub mod Parts
