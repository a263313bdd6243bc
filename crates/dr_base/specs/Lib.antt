pub mod Buffer
pub mod Bytes
pub mod Causes
pub mod Descriptors
pub mod Position
pub mod Limits
