pub mod Bytes
pub mod Parity
pub mod Positions
pub mod Putting
pub mod Widths
