pub mod Seal
pub mod Aead
pub mod Undoing
