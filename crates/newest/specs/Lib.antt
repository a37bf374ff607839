pub mod OnRows
pub mod Loops
