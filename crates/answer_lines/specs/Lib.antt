pub mod Answers
pub mod Texts
pub mod Longs
pub mod Limits
