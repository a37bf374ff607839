pub mod FrameRead
pub mod Lanes
pub mod Layout
pub mod Types
pub mod Refusals
pub mod ReadWrite
pub mod Fields
pub mod Parts
