pub mod Drawn
pub mod SaidIn
pub mod Led
pub mod Reached
pub mod Stood
pub mod Moved
pub mod FannedOut
