pub mod Acts
pub mod Fails
pub mod Steps
