pub mod Lengths
pub mod Bytes
pub mod Pads
pub mod Blocks
