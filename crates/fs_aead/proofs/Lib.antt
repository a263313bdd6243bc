pub mod Directory
pub mod Finding
pub mod Places
pub mod Starts
pub mod Streams
pub mod Tables
