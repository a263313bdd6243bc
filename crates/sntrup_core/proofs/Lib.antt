pub mod Ascending
pub mod Shorts
pub mod InverseLaws
pub mod Quotients
pub mod Decryption
pub mod Ciphers
