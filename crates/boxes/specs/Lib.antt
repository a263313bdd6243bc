pub mod Limits
pub mod Parts
pub mod Items
pub mod Entries
pub mod Posts
pub mod Rooms
pub mod Seen
pub mod Changes
