pub mod Table
pub mod YardTable
pub mod Beacons
pub mod BadInput
pub mod RefusalTable
