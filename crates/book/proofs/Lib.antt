pub mod Places
pub mod Stored
pub mod Only
mod Filled
pub mod Imaged
mod Committed
mod Staged
mod Counted
mod Kept
mod Stepped
mod Called
mod Begun
mod Few
mod Renewed
mod Opened
pub mod AsRead
mod Said
mod Runs
pub mod Fanning
pub mod Worlds
