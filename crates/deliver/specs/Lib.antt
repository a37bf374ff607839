pub mod Delivery
pub mod Keys
pub mod Known
pub mod Loops
pub mod OnRows
