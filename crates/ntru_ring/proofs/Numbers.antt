pub mod Centred
pub mod Integers
pub mod Ranges
pub mod Rounds
pub mod Units
