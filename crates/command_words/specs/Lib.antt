pub mod Values
pub mod Numbers
pub mod Commands
pub mod Application
pub mod Seen
pub mod Limits
