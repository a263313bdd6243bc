pub mod Acts
pub mod Drafts
pub mod Posts
pub mod Records
pub mod Saying
pub mod Taking
pub mod Ways
