pub mod Bounded
pub mod Memory
pub mod Faults
pub mod Loading
