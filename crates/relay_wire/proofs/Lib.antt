pub mod Choices
pub mod Splitting
mod Room
pub mod Joining
pub mod Tokens
pub mod Asked
pub mod Replied
mod Guarded
