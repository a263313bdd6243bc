pub mod Sampling
pub mod Inverse
pub mod Core
pub mod Tries
