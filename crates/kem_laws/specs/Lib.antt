pub mod Mechanism
pub mod Open
pub mod OpenLaw
