mod Blocks
pub mod Encryption
mod Lanes
mod StandardFacts
mod Xor
