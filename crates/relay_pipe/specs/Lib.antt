pub mod Exchanging
pub mod Pulling
pub mod Asking
