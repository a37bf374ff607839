pub mod StateLaws
pub mod FreshWays
pub mod Exact
