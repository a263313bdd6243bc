pub mod Desks
pub mod Connections
pub mod Serving
pub mod Bringing
pub mod Playing
pub mod Limits
