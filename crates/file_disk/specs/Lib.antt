pub mod Untold
pub mod Limits
