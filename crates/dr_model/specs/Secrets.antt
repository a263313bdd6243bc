pub mod Secret
pub mod Held
pub mod Made
pub mod Scheduled
