pub mod Texts
pub mod Differing
pub mod Writes
pub mod Drops
pub mod Calls
