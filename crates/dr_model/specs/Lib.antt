pub mod Conversations
pub mod Machines
pub mod Secrets
pub mod Theorems
