pub mod Limits
pub mod Pages
pub mod Plans
pub mod Tables
