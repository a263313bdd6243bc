pub mod Pulls
pub mod Exchanged
mod Asked
