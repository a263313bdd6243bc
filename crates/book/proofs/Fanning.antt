pub mod Fanned
pub mod Asked
pub mod Staged
pub mod Steps
pub mod Put
pub mod Machine
pub mod Listed
