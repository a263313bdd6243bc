pub mod Limits
pub mod Padding
pub mod Receipts
pub mod Bodies
pub mod Lawful
pub mod Formats
