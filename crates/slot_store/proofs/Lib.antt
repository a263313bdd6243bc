mod Joined
mod Entries
pub mod Laid
pub mod Standing
mod Named
pub mod Rows
pub mod Outside
pub mod Blank
mod Alike
mod Puts
mod Places
mod Openings
mod Wipings
