pub mod Chain
pub mod Rows
pub mod Stream
pub mod Table
