pub mod Doors
pub mod Pieces
pub mod Told
pub mod Turning
pub mod WritingLemmas
