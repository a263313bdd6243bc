pub mod Elimination
pub mod Inverses
pub mod Pivots
pub mod Uniqueness
