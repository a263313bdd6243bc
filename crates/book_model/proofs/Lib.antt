pub mod Names
mod Stepping
mod Fanning
pub mod Running
