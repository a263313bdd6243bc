pub mod Behind
pub mod Made
pub mod Traces
