pub mod Tries
pub mod Writes
pub mod Secrets
pub mod Encapsulation
pub mod Decapsulation
