pub mod LogNumbers
pub mod FilesSaid
pub mod LaneFiles
