pub mod Independence
pub mod Rows
pub mod Runs
pub mod Steps
pub mod Witness
