pub mod YardRefusals
pub mod Demand3
pub mod YardFacts
pub mod Granted
