pub mod Exact
pub mod Laws
pub mod LentParts
pub mod LentRows
pub mod LogCut
