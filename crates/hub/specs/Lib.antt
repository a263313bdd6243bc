pub mod Peers
pub mod Held
pub mod Beginning
pub mod Receiving
pub mod Lines
pub mod Plays
pub mod Leaving
