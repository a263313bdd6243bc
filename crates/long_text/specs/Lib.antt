pub mod Limits
pub mod Pieces
pub mod Longs
pub mod Cuts
pub mod Told
pub mod Seen
