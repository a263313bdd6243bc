pub mod Marks
pub mod Settled
pub mod Wiping
pub mod NewerSettled
pub mod EmptySettled
pub mod Wiped
