pub mod Numbers
pub mod Levels
pub mod Coding
pub mod Small
pub mod Elements
