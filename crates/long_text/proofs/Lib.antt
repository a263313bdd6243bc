pub mod Told
mod Stepping
mod Wholes
pub mod Arrived
mod Cuts
