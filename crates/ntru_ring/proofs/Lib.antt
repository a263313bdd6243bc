pub mod Numbers
pub mod Rings
pub mod Eliminating
pub mod Vectors
