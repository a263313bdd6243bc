pub mod Local
pub mod WithinArea
pub mod Wider
pub mod Shown
pub mod RestBytes
